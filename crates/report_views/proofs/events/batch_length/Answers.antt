use Rattle.std.proofs.Common.{All, ◌≤◌, length, length-take, rules, take, arith}
use Rattle.report_views.specs.Stretches.{AreShort}
use Rattle.report_views.proofs.Batches.{short_names}
use Rattle.report_views.proofs.events.batch_length.Goals as goal

pub returns-then-are_all_short-clause-small : goal.returns-then-are_all_short-clause-small
returns-then-are_all_short-clause-small c =
    let front = take c.min.result c.args.events.now in
    let listed = take (length front) c.args.events.now in
    let short : All (AreShort 1024) c.args.names.now = search rules in
    let size = short_names 1024 c.args.names.now listed short in
    let few : c.min.result ≤ 65536 = search rules in
    let most : length listed ≤ 65536 = simp (length-take) (omega arith) in
    λ one. omega (arith, size, most)
