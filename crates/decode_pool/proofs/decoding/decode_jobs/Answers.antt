use Rattle.std.proofs.Common.{◌≡◌, ◌∙◌, IfOk, ap}
use Rattle.std.proofs.lemmas.Result.{IfOk-weaker}
use Rattle.std.proofs.lemmas.Slice.Zip.{AllZip-map}
use Rattle.rayon.proofs.ToStd.{slice-AllZip}
use Rattle.decode_pool.specs.Jobs.{job_within}
use Rattle.decode_pool.proofs.Collected.{collected}
use Rattle.decode_pool.proofs.decoding.decode_jobs.Goals as goal

pub returns : goal.returns
returns g c =
    let slice = ap (λ it. it.base.slice.now) c.map.ensures.base ∙ (ap (λ it. it.slice.now) c.with_min_len.ensures.base ∙ c.par_iter.ensures) in
    let h = c.in_ok-parts.ensures in let chain = h.1 in
    IfOk-weaker c.in_ok-parts.parts _ _ (λ parts given. AllZip-map job_within c.args.jobs.now parts.items given)
    (collected _ (λ s v. v ≡ job_within s) (λ v. v.items) c.in_ok-parts.parts c.args.jobs.now h.0 (slice-AllZip chain.0 c.args.jobs.now (chain.1 ∙ slice) (λ s r. IfOk r (λ v. v ≡ job_within s)) h.0 chain.2) h.2)
