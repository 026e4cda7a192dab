use Rattle.std.proofs.Common.{rules, ◌≡◌, ◌∙◌, [], Err, refl, sym, ap, subst}
use Rattle.std.proofs.lemmas.Result.{err_from_is_err_and}
use Rattle.ctf_fields.specs.Reading.{GivesWith, numbers, read_item, read_items, Got}
use Rattle.ctf_fields.proofs.Steps.{no_item, one_item}
use Rattle.ctf_fields.proofs.numbers.add_numbers.Goals as goal

pub loop-index-preserved : goal.loop-index-preserved
loop-index-preserved c =
    let got : read_item (numbers c.args.source.now c.args.integer) c.args.item [] c.loop-index.items c.loop-index.bit ≡ Got c.add_number.new.items c.in_ok-bit.bit = search rules in
    let step = one_item (numbers c.args.source.now c.args.integer) c.args.item [] [] c.args.count c.loop-index._index c.loop-index.items c.add_number.new.items c.loop-index.bit c.in_ok-bit.bit c.loop-index-test.true refl got in
    (c.loop-index.invariant.0 ∙ step, search rules, search rules)

pub returns-in_err-bit-clause-gives : goal.returns-in_err-bit-clause-gives
returns-in_err-bit-clause-gives c =
    let out = err_from_is_err_and c.from_residual.result c.from_residual.ensures.1 in
    let same : out.0 ≡ c.in_err-bit.field-0.0 = out.2 in
    let err : c.from_residual.result ≡ Err c.in_err-bit.field-0.0 = out.1 ∙ ap Err same in
    subst (GivesWith (read_items (numbers c.args.source.now c.args.integer) c.args.item [] c.args.count c.args.items.now c.args.at) c.add_number.new.items) (sym err)
    (no_item (numbers c.args.source.now c.args.integer) c.args.item [] c.args.count c.loop-index._index c.loop-index.items c.add_number.new.items c.loop-index.bit c.in_err-bit.field-0.0 _ c.loop-index-test.true c.loop-index.invariant.0 c.in_err-bit.ensures.gives)
