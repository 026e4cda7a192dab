use Rattle.std.proofs.Common.{rules, ◌≡◌, ◌∙◌, ◌≤◌, ◌+◌, ◌-◌, ◌++◌, ap, arith, drop, length, length-drop, map, take}
use Rattle.std.proofs.lemmas.List.{take_rest}
use Rattle.decode_pool.specs.Excess.{events_in}
use Rattle.decode_pool.specs.Jobs.{job_part}
use Rattle.decode_pool.proofs.Batching.{events_next, parts_next}
use Rattle.decode_pool.proofs.batches.parts_within.Goals as goal

pub loop-done-preserved : goal.loop-done-preserved
loop-done-preserved g c =
    let jobs = c.args.jobs.now in
    let i = c.loop-done.done in
    let n = c.in-Some.batch.length in
    let rest : take (length jobs - i) (drop i jobs) ≡ drop i jobs = take_rest jobs i in
    let added : c.add_batch.new.parts.items ≡ c.loop-done.parts.items ++ map job_part (take n (take (length jobs - i) (drop i jobs))) = search rules in
    let sum : c.in-Some.batch.room + events_in (map job_part (take n (take (length jobs - i) (drop i jobs)))) ≡ c.loop-done.room = search rules in
    let within : n ≤ length (take (length jobs - i) (drop i jobs)) = search rules in
    let counted : c.in-Some.batch.room + events_in (map job_part (take n (drop i jobs))) ≡ c.loop-done.room = omega (arith, sum, ap (λ l. events_in (map job_part (take n l))) rest) in (
      parts_next jobs i n c.loop-done.parts.items c.add_batch.new.parts.items (added ∙ ap (λ l. c.loop-done.parts.items ++ map job_part (take n l)) rest) c.loop-done.invariant.0,
      events_next jobs i n c.loop-done.room c.in-Some.batch.room c.args.most c.loop-done.invariant.1 counted,
      omega (arith, counted, c.loop-done.invariant.2),
      omega (arith, within, ap length rest, length-drop i jobs, c.loop-done-test.true),
    )
