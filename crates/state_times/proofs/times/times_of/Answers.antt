use Rattle.std.proofs.Common.{[]}
use Rattle.kernel_provider.specs.Steps.{steps_of}
use Rattle.state_times.specs.Rows.{rows_after}
use Rattle.state_times.specs.Times.{added, first_key}
use Rattle.state_times.proofs.Told.{all_taken, all_told, at_first, can_take_all, sound}
use Rattle.state_times.proofs.times.times_of.Goals as goal

pub rows_of-requires : goal.rows_of-requires
rows_of-requires c =
    rw (c.first_key-first.ensures, c.new-attributes.ensures) (can_take_all c.args.events.now [] [] (steps_of c.args.events.now) (at_first c.args.events.now c.requires))

pub invariant_of-result : goal.invariant_of-result
invariant_of-result c =
    let events = c.args.events.now in
    rw (c.in_ok-rows.ensures.paths, c.in_ok-rows.ensures.rows, c.new-attributes.ensures, c.first_key-first.ensures, c.last_key-last.ensures)
    (sound events (added (steps_of events)) (rows_after (first_key events) [] (steps_of events)) (all_taken events c.requires))

pub returns : goal.returns
returns c =
    let events = c.args.events.now in
    rw (c.in_ok-rows.ensures.paths, c.in_ok-rows.ensures.rows, c.new-attributes.ensures, c.first_key-first.ensures, c.last_key-last.ensures)
    (all_told events (added (steps_of events)) (rows_after (first_key events) [] (steps_of events)) c.requires (all_taken events c.requires))
