use Rattle.std.proofs.Common.{◌≡◌, Some, None, sym}
use Rattle.type_table.specs.Table.{name_at}
use Rattle.kernel_layout.specs.SegmentParts.{found_of, sought_part}
use Rattle.kernel_layout.specs.Sought.{sought_of}
use Rattle.kernel_layout.proofs.OneWalk.{by_counted, by_none}
use Rattle.kernel_layout.proofs.segment_fields.keep_named.Goals as goal

pub returns-in-Some : goal.returns-in-Some
returns-in-Some c = λ p.
    let is : sought_of (name_at c.args.table.now.names c.args.name) ≡ Some c.in-Some.sought = sym c.in-Some.ensures in
    by_counted (name_at c.args.table.now.names c.args.name) c.in-Some.sought (sought_part p) c.args.field.now (found_of p c.args.found.now) (found_of p c.keep.new.found) is (c.keep.ensures p)

pub returns-in_default : goal.returns-in_default
returns-in_default c = λ p.
    let is : sought_of (name_at c.args.table.now.names c.args.name) ≡ None = sym c.in_default.ensures in
    by_none (name_at c.args.table.now.names c.args.name) (sought_part p) c.args.field.now (found_of p c.args.found.now) is
