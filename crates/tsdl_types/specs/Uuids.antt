-- The universally unique id of a trace.
use Rattle.std.specs.Prelude.{ℕ, List, Option, None}
use Rattle.uuid.specs.Text.{parsed}
use Rattle.tsdl_parser.specs.declared.tree.AttrValue.{AttrValue}
use Rattle.tsdl_parser.specs.declared.tree.AttrValue.TheVariants as value

-- its sixteen bytes, where a text is one of the ways to write it
unfoldable pub uuid_said : AttrValue → Option (List ℕ)
uuid_said (value.Str text) = parsed text
uuid_said _ = None
