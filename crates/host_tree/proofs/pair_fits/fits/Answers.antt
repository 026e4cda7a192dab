use Rattle.std.proofs.Common.{sym, ◌∙◌, Result, Ok, Err, IfOk}
use Rattle.host_tree.specs.declared.points.Side.TheVariants.{Lower, Upper}
use Rattle.host_tree.specs.Fits.{AreFits}
use Rattle.host_tree.specs.Gathered.{AreGathered}
use Rattle.host_tree.proofs.Outcomes.{all_few, apart_from_themselves, fits_are}
use Rattle.host_tree.proofs.pair_fits.fits.Goals as goal

both : {X E : Type 0} (r : Result X E) {P Q R : X → Type 0} → IfOk r P → IfOk r Q → ((x : X) → P x → Q x → R x) → IfOk r R
both (Ok x) p q f = f x p q
both (Err e) p q f = tt

pub outcomes-requires : goal.outcomes-requires
outcomes-requires c =
    let hosts = c.args.hosts in
    let messages = c.args.messages.now.matched.items in
    let low : AreGathered Lower hosts messages c.deref-3.result.now = rw (c.deref-3.ensures.value, sym c.deref.ensures.value) c.in_ok-lower.ensures in
    let up : AreGathered Upper hosts messages c.deref-4.result.now = rw (c.deref-4.ensures.value, sym c.deref-2.ensures.value) c.in_ok-upper.ensures in
    record {
      same = low.count ∙ sym up.count;
      lower = all_few Lower hosts messages c.deref-3.result.now c.requires.count low;
      upper = all_few Upper hosts messages c.deref-4.result.now c.requires.count up;
      drift = c.requires.drift;
    }

pub returns : goal.returns
returns c =
    let hosts = c.args.hosts in
    let messages = c.args.messages.now.matched.items in
    let drift = c.args.drift in
    let low : AreGathered Lower hosts messages c.deref-3.result.now = rw (c.deref-3.ensures.value, sym c.deref.ensures.value) c.in_ok-lower.ensures in
    let up : AreGathered Upper hosts messages c.deref-4.result.now = rw (c.deref-4.ensures.value, sym c.deref-2.ensures.value) c.in_ok-upper.ensures in
    let exact : IfOk c.outcomes.result (λ fits. AreFits hosts messages drift fits.items) = both c.outcomes.result c.outcomes.ensures.count c.outcomes.ensures.each (λ fits n e. fits_are hosts messages drift c.deref-3.result.now c.deref-4.result.now fits.items low up n e) in
    record {
      exact = exact;
      own = both c.outcomes.result exact exact (λ fits a _. apart_from_themselves hosts messages drift fits.items c.requires.between a);
    }
