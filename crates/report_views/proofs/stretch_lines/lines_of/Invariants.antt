use Rattle.std.proofs.Common.{◌≡◌, take}
use Rattle.std.specs.Prelude.{flat_map}
use Rattle.event_list.specs.Names.{names_at}
use Rattle.report_views.specs.StretchesText.{stretch_text}
use Rattle.report_views.proofs.stretch_lines.lines_of.Given as goal

abbrev pub invariant-loop-stretch : goal.invariant-loop-stretch
invariant-loop-stretch l = l.text.items ≡ flat_map (stretch_text (names_at l.names) l.path) (take l.stretch-index l.stretches)
