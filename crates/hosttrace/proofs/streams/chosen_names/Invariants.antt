use Rattle.std.proofs.Common.{◌≡◌, take, filter}
use Rattle.hosttrace.specs.Streams.{is_stream_name}
use Rattle.hosttrace.proofs.streams.chosen_names.Given as goal

abbrev pub invariant-loop-name : goal.invariant-loop-name
invariant-loop-name l = l.chosen.items ≡ filter is_stream_name (take l.name-index l.names)
