use Rattle.std.proofs.Common.{◌≡◌, ◌+◌, ◌*◌, ◌^◌, ◌<◌, ◌∷◌, [], ◌++◌, length, sym, ap, ◌∙◌, append_assoc, rules}
use Rattle.kernel_provider.specs.Given.{left}
use Rattle.kernel_provider.specs.Steps.{steps_of}
use Rattle.history_core.proofs.Lawful.{next_few, next_follows}
use Rattle.hosttrace_tests.proofs.history_runs.built.Goals as goal

pub apply-requires : goal.apply-requires
apply-requires g c =
    let before = c.loop.invariant in
    let rest = left c.next_step.new.self c.args.events.now in
    let more : left c.loop.provider c.args.events.now ≡ c.in-Some.step ∷ rest = search rules in
    let same = before.2 ∙ ap (λ l. before.0 ++ l) more in
    let small : length c.args.events.now * 17 + 1 < 2 ^ 64 = search rules in
    record {
      follows = next_follows c.args.events.now c.requires before.0 rest c.in-Some.step same c.loop.history before.1;
      few = next_few c.args.events.now small before.0 rest c.in-Some.step same c.loop.history before.1;
    }

pub loop-init : goal.loop-init
loop-init g c =
    let all : steps_of c.args.events.now ≡ [] ++ left c.new-provider.result c.args.events.now = search rules in
    ([], c.in_ok-history.ensures.stands, all)

pub loop-preserved : goal.loop-preserved
loop-preserved g c =
    let before = c.loop.invariant in
    let more : left c.loop.provider c.args.events.now ≡ c.in-Some.step ∷ left c.next_step.new.self c.args.events.now = search rules in
    (before.0 ++ c.in-Some.step ∷ [], c.in_ok-apply.ensures.stands before.0 before.1, before.2 ∙ (ap (λ l. before.0 ++ l) more ∙ sym (append_assoc before.0 (c.in-Some.step ∷ []) (left c.next_step.new.self c.args.events.now))))
