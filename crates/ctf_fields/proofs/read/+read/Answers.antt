use Rattle.std.proofs.Common.{rules, ◌≡◌, ◌∙◌, ◌≤◌, ◌∷◌, Some, slice_get, reverse, refl, sym, subst, arith}
use Rattle.ctf_fields.specs.Reading.{Gives, array_by, integer_type, read, read_item, Got}
use Rattle.ctf_fields.proofs.Integers.{array_read, gives_member, member_by, number_read}
use Rattle.ctf_fields.proofs.Steps.{one_deeper, one_item}
use Rattle.ctf_fields.proofs.read.+read.Goals as goal

pub add_each-loop-index-preserved : goal.add_each-loop-index-preserved
add_each-loop-index-preserved t c =
    let open_structs : reverse c.add_item.new.scratch.open_structs ≡ reverse c.args.scratch.now.open_structs = search rules in
    let got : read_item (read c.args.depth c.args.source.now) c.args.item (reverse c.loop-index.scratch.open_structs) c.loop-index.items c.loop-index.bit ≡ Got c.add_item.new.items c.in_ok-bit.bit = search rules in
    let step = one_item (read c.args.depth c.args.source.now) c.args.item (reverse c.loop-index.scratch.open_structs) (reverse c.add_item.new.scratch.open_structs) c.args.count c.loop-index._index c.loop-index.items c.add_item.new.items c.loop-index.bit c.in_ok-bit.bit c.loop-index-test.true (search rules) got in
    (c.loop-index.invariant.0 ∙ step, search rules, search rules, open_structs)

pub read-returns-clause-gives : goal.read-returns-clause-gives
read-returns-clause-gives t c =
    let there : slice_get c.args.source.now.table.types c.args.ty ≡ Some c.in-Some.meta.now = search rules in
    let deep : 1 ≤ c.args.depth = first_of (search rules, omega (arith, c.if-depth-eq0.false)) in
    subst (λ x. Gives x c.read_by.result) (sym (one_deeper c.args.depth c.args.source.now c.args.name c.args.ty c.in-Some.meta.now (reverse c.args.scratch.now.open_structs) c.args.at deep there)) c.read_by.ensures.gives

pub read_member-returns-in-Some-clause-gives : goal.read_member-returns-in-Some-clause-gives
read_member-returns-in-Some-clause-gives t c =
    let deep : 1 ≤ c.args.depth = search rules in
    let found : integer_type c.args.source.now.table c.args.meta.ty ≡ Some c.in-Some.integer = search rules in
    gives_member _ _ c.add_number_member.new.inner (reverse c.args.scratch.now.open_structs) (reverse c.args.scratch.now.open_structs) c.add_number_member.result
    (member_by c.args.depth c.args.source.now c.args.meta c.args.inner.now (reverse c.args.scratch.now.open_structs) c.args.at _
    (number_read c.args.depth c.args.source.now (Some c.args.meta.name) c.args.meta.ty c.in-Some.integer (c.args.inner.now ∷ reverse c.args.scratch.now.open_structs) c.args.at deep found))
    refl c.add_number_member.ensures.gives

pub read_member-returns-in-Some-number_array-clause-gives : goal.read_member-returns-in-Some-number_array-clause-gives
read_member-returns-in-Some-number_array-clause-gives t c =
    let deep : 2 ≤ c.args.depth = search rules in
    let found : array_by c.args.source.now.table (slice_get c.args.source.now.table.types c.args.meta.ty) ≡ Some c.in-Some-number_array.array = search rules in
    gives_member _ _ c.add_array_member.new.inner (reverse c.args.scratch.now.open_structs) (reverse c.args.scratch.now.open_structs) c.add_array_member.result
    (member_by c.args.depth c.args.source.now c.args.meta c.args.inner.now (reverse c.args.scratch.now.open_structs) c.args.at _
    (array_read c.args.depth c.args.source.now (Some c.args.meta.name) c.args.meta.ty c.in-Some-number_array.array.0 c.in-Some-number_array.array.1 c.in-Some-number_array.array.2 (c.args.inner.now ∷ reverse c.args.scratch.now.open_structs) c.args.at deep found))
    refl c.add_array_member.ensures.gives
