use Rattle.std.proofs.Common.{◌∙◌, ◌<◌, IfOk, ap, arith}
use Rattle.std.specs.Prelude.{max}
use Rattle.rayon.specs.Lists.{chunks_of, chunks_size, chunks_slice}
use Rattle.rayon.proofs.ToStd.{chunks_of-concat, slice-AllZip}
use Rattle.event_list.specs.Names.{names_at}
use Rattle.report_views.specs.Stretches.{IsStretchText}
use Rattle.report_views.proofs.Stretches.{collected}
use Rattle.report_views.proofs.events.batch_texts.Goals as goal

pub returns : goal.returns
returns g c =
    let ms = c.args.events.now in
    let names = names_at c.args.names.now in
    let some : 0 < 4096 = omega arith in
    let cut = ap (λ it. chunks_of (max (chunks_size it) 1) (chunks_slice it)) c.map.ensures.base
    ∙ (λ i. chunks_of (max (c.par_chunks.ensures.size i) 1) (c.par_chunks.ensures.slice i)) in
    let h = rw c.map.ensures.f at c.in_ok-texts.ensures in let chain = h.1 in
    collected names _ (λ v. v.items) (λ v. v.items) c.in_ok-texts.texts (chunks_of 4096 ms) ms h.0 (chunks_of-concat 4096 ms some)
    (slice-AllZip chain.0 (chunks_of 4096 ms) (chain.1 ∙ cut) (λ s r. IfOk r (λ v. IsStretchText names s v.items)) h.0 chain.2) h.2
