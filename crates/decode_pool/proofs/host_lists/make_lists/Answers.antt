use Rattle.std.proofs.Common.{◌∙◌, IfOk, ap, subst}
use Rattle.std.proofs.lemmas.Result.{IfOk-weaker}
use Rattle.std.specs.List.{AllZip}
use Rattle.rayon.specs.Lists.{vec_items}
use Rattle.decode_pool.specs.Hosts.{IsHost}
use Rattle.decode_pool.specs.Jobs.{owner}
use Rattle.decode_pool.proofs.Collected.{collected}
use Rattle.decode_pool.proofs.HostLists.{are_made}
use Rattle.decode_pool.proofs.host_lists.make_lists.Goals as goal

pub returns : goal.returns
returns g c =
    let base = ap (λ it. vec_items it.base) c.map.ensures.base ∙ (ap (λ it. vec_items it) c.with_min_len.ensures.base ∙ c.into_par_iter.ensures) in
    let h = c.in_ok-found.ensures in let chain = h.1 in
    IfOk-weaker c.in_ok-found.found _ _ (λ found given. are_made c.args.hosts.items found.items given)
    (collected _ (λ o l. IsHost (owner o) l) (λ v. v.items) c.in_ok-found.found c.args.hosts.items h.0 (subst (λ l. AllZip (λ o r. IfOk r (λ l. IsHost (owner o) l)) l h.0) (chain.1 ∙ base) chain.2) h.2)
