use Rattle.std.proofs.Common.{◌≡◌, ◌∙◌, None, sym, ap, arith, rules}
use Rattle.type_table.specs.Names.{same_name}
use Rattle.type_table.specs.Table.{name_at}
use Rattle.ctf_fields.specs.Fields.{or_else}
use Rattle.ctf_fields.specs.Named.{first_in}
use Rattle.ctf_fields.proofs.Chosen.{none_first}
use Rattle.kernel_layout.specs.SegmentParts.{found_of, part_name}
use Rattle.kernel_layout.proofs.FirstChosen.{first_chosen, first_of_struct}
use Rattle.kernel_layout.proofs.OneWalk.{none_deep, or_lone, or_none, or_within}
use Rattle.kernel_layout.proofs.segment_fields.+find.Goals as goal

pub find_in-returns-then-depth-eq0 : goal.find_in-returns-then-depth-eq0
find_in-returns-then-depth-eq0 t c = λ p. none_deep c.args.depth c.args.table.now.names (part_name p) c.args.field.now (found_of p c.args.found.now) c.if-depth-eq0.true

pub find_in-returns-in-Struct : goal.find_in-returns-in-Struct
find_in-returns-in-Struct t c = λ p.
    c.find_among.ensures p
    ∙ ap (or_else (found_of p c.args.found.now)) (sym (first_of_struct c.args.depth c.args.table.now.names (part_name p) c.args.field.now c.in-Struct.members c.as_slice.result.now (omega (arith, c.if-depth-eq0.false)) c.in-Struct.is c.as_slice.ensures))

pub find_in-returns-in-Choice : goal.find_in-returns-in-Choice
find_in-returns-in-Choice t c = λ p.
    c.find_at.ensures p
    ∙ ap (or_else (found_of p c.args.found.now)) (sym (first_chosen c.args.depth c.args.table.now.names (part_name p) c.in-Choice.name c.args.field.now c.in-Choice.field c.get.result.now (omega (arith, c.if-depth-eq0.false)) c.in-Choice.is c.get.ensures))

pub find_in-returns-in_default : goal.find_in-returns-in_default
unfolding first_in
find_in-returns-in_default t c = λ p.
    let none : None ≡ first_in c.args.depth c.args.table.now.names (part_name p) c.args.field.now = search rules in
    or_none (found_of p c.args.found.now) ∙ ap (or_else (found_of p c.args.found.now)) none

pub find_at-returns-in-Int : goal.find_at-returns-in-Int
find_at-returns-in-Int t c = λ p.
    or_lone (same_name (part_name p) (name_at c.args.table.now.names c.args.name)) c.args.field.now (found_of p c.args.found.now) (found_of p c.keep_named.new.found) (first_in c.args.depth c.args.table.now.names (part_name p) c.args.field.now)
    (c.keep_named.ensures p)
    (none_first c.args.depth c.args.table.now.names (part_name p) c.args.field.now c.in-Int.ty c.in-Int.value c.in-Int.is)

pub find_at-returns-in_default : goal.find_at-returns-in_default
find_at-returns-in_default t c = λ p.
    or_within (same_name (part_name p) (name_at c.args.table.now.names c.args.name)) c.args.field.now (found_of p c.args.found.now) (found_of p c.keep_named.new.found) (found_of p c.find_in.new.found) (first_in c.args.depth c.args.table.now.names (part_name p) c.args.field.now)
    (c.keep_named.ensures p)
    (c.find_in.ensures p)
