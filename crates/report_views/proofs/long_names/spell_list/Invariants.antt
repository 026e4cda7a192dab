use Rattle.std.proofs.Common.{◌≡◌, map, take}
use Rattle.trace_types.specs.ByteTexts.{byte_text}
use Rattle.report_views.proofs.long_names.spell_list.Given as goal

abbrev pub invariant-loop-name : goal.invariant-loop-name
invariant-loop-name l = l.words.items ≡ map byte_text (take l.name-index l.names)
