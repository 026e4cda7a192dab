use Rattle.std.proofs.Common.{rules}
use Rattle.event_list.proofs.WordLists.{segment_found, no_dest_port, no_flags}
use Rattle.event_list.proofs.io_fields.read_segment.Goals as goal

pub returns-in_err-read_16-2-clause-none : goal.returns-in_err-read_16-2-clause-none
returns-in_err-read_16-2-clause-none c = rw c.from_residual-in_err-read_16-2.ensures (no_dest_port c.args.fields.now c.in_err-read_16-2.ensures.none)

pub returns-in_err-read_16-3-clause-none : goal.returns-in_err-read_16-3-clause-none
returns-in_err-read_16-3-clause-none c = rw c.from_residual-in_err-read_16-3.ensures (no_flags c.args.fields.now c.in_err-read_16-3.ensures.none)

pub returns-clause-found : goal.returns-clause-found
returns-clause-found c = segment_found c.args.fields.now _ c.in-len7.len_at_least c.in-len7.len_below c.in_ok-read_number.ensures.found c.in_ok-read_number-2.ensures.found c.in_ok-read_16.ensures.found.0 c.in_ok-read_16-2.ensures.found.0 c.in_ok-read_32.ensures.found.0 c.in_ok-read_32-2.ensures.found.0 c.in_ok-read_16-3.ensures.found.0
    (search rules, search rules, c.in_ok-read_16.ensures.found.1, c.in_ok-read_16-2.ensures.found.1, c.in_ok-read_32.ensures.found.1, c.in_ok-read_32-2.ensures.found.1, c.in_ok-read_16-3.ensures.found.1)
