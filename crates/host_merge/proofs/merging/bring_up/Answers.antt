use Rattle.std.proofs.Common.{◌≡◌, Some, length, slice_get, refl, sym, ap, ◌∙◌}
use Rattle.std.proofs.lemmas.Option.{slice_get_read}
use Rattle.std.proofs.lemmas.Result.{IfOk-weaker}
use Rattle.host_merge.specs.Merge.{by_key}
use Rattle.host_merge.proofs.Joins.{brought_up}
use Rattle.host_merge.proofs.merging.bring_up.Goals as goal

pub bring-requires : goal.bring-requires
bring-requires c =
    let old = c.args.lists.now.items in
    let at : slice_get old c.args.host ≡ Some c.replace-list.result =
    slice_get_read old (length old) c.args.host c.index_mut.result.now refl c.requires.host c.index_mut.ensures.value ∙ ap Some (sym c.replace-list.ensures.value) in
    c.requires.times c.args.host c.replace-list.result at

pub returns : goal.returns
returns c =
    IfOk-weaker c.bring.result _ _ (λ _ j. brought_up c.args.host c.args.parent c.args.map.now c.args.lists.now.items c.replace-list.new.dest c.index_mut-2.result.now (by_key c.replace-list.result) c.bring.new.self
    c.requires.host c.requires.parent c.requires.apart (c.replace-list.ensures.after ∙ c.new.ensures) c.index_mut-2.ensures.value c.index_mut.result.now c.index_mut.ensures.value
    (ap by_key c.replace-list.ensures.value) j) c.bring.ensures
