use Rattle.std.proofs.Common.{◌≡◌, ◌≤◌, ◌+◌, ◌*◌, ◌++◌, drop, length}
use Rattle.trace_gen.specs.Layout.{fields_bytes}
use Rattle.trace_gen.proofs.field.put_fields.Given as goal

abbrev pub invariant-loop-field : goal.invariant-loop-field
invariant-loop-field l = (l.out.items ++ fields_bytes (drop l.field-index l.fields) ≡ l.initial.out.items ++ fields_bytes l.fields)
    × (length l.out.items ≤ length l.initial.out.items + 8 * l.field-index)
