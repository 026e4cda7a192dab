use Rattle.std.proofs.Common.{◌≡◌, IfOk, sym, subst, ◌∙◌}
use Rattle.std.proofs.lemmas.List.{take_at}
use Rattle.std.proofs.lemmas.Result.{IfOk-weaker}
use Rattle.host_tree.specs.Forest.{AreParents}
use Rattle.host_tree.specs.Places.{AreGrown}
use Rattle.host_tree.proofs.Order.{rooted}
use Rattle.host_tree.proofs.Scans.{are_parents}
use Rattle.host_tree.proofs.trees.forest.Goals as goal

pub returns : goal.returns
returns c =
    let hosts = c.args.hosts in
    let fits = c.args.fits.now in
    let grown = c.grow_forest.new.places in
    let same : c.deref.result.now ≡ grown = c.deref.ensures.value ∙ take_at grown _ c.in_ok-places.places.len (c.grow_forest.ensures.count ∙ sym c.in_ok-places.ensures.len) in
    let exact : IfOk c.parents_of.result (λ parents. AreParents hosts fits parents.items) =
    IfOk-weaker c.parents_of.result _ _ (λ parents e. are_parents hosts fits c.deref.result.now parents.items (subst (AreGrown hosts fits hosts 0) (sym same) c.grow_forest.ensures) e) c.parents_of.ensures in
    record { exact = exact; rooted = IfOk-weaker c.parents_of.result _ _ (λ parents a. rooted hosts fits parents.items a) exact }
