use Rattle.std.proofs.Common.{rules, ◌≡◌, ◌<◌, ◌+◌, ◌++◌, map, take}
use Rattle.decode_pool.specs.Excess.{kept_parts, least_events}
use Rattle.decode_pool.specs.Jobs.{job_within}
use Rattle.decode_pool.proofs.Batching.{batch_excess, batch_parts, batch_room}
use Rattle.decode_pool.proofs.batches.add_batch.Goals as goal

pub returns-in-Some-clause-parts : goal.returns-in-Some-clause-parts
returns-in-Some-clause-parts g c =
    let n = c.batch_length-length.result in
    let found : c.in_ok-found.found.items ≡ map job_within (take n c.args.jobs.now) = search rules in
    let added : c.add_kept.new.parts.items ≡ c.args.parts.now.items ++ kept_parts c.in_ok-found.found.items = search rules in
    let sum : c.in-Some.room + least_events c.args.room c.in_ok-found.found.items ≡ c.args.room = search rules in
    batch_parts c.args.jobs.now n c.args.room c.in-Some.room c.in_ok-found.found.items c.args.parts.now.items c.add_kept.new.parts.items found added sum

pub returns-in-Some-clause-room : goal.returns-in-Some-clause-room
returns-in-Some-clause-room g c =
    let n = c.batch_length-length.result in
    let found : c.in_ok-found.found.items ≡ map job_within (take n c.args.jobs.now) = search rules in
    let sum : c.in-Some.room + least_events c.args.room c.in_ok-found.found.items ≡ c.args.room = search rules in
    batch_room c.args.jobs.now n c.args.room c.in-Some.room c.in_ok-found.found.items found sum

pub returns-in-None-clause-more : goal.returns-in-None-clause-more
returns-in-None-clause-more g c =
    let n = c.batch_length-length.result in
    let found : c.in_ok-found.found.items ≡ map job_within (take n c.args.jobs.now) = search rules in
    let many : c.args.room < least_events c.args.room c.in_ok-found.found.items = search rules in
    batch_excess c.args.jobs.now n c.args.room c.in_ok-found.found.items found c.requires.allowed many
