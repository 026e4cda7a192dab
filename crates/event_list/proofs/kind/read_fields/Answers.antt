use Rattle.event_list.proofs.kind.read_fields.Goals as goal

pub returns-in_err-read_lost-in-Lost-clause-none : goal.returns-in_err-read_lost-in-Lost-clause-none
returns-in_err-read_lost-in-Lost-clause-none c = rw (c.from_residual-in_err-read_lost-in-Lost.ensures, c.in-Lost.is) c.in_err-read_lost-in-Lost.ensures.none

pub returns-in_err-read_switch-in-Switch-clause-none : goal.returns-in_err-read_switch-in-Switch-clause-none
returns-in_err-read_switch-in-Switch-clause-none c = rw (c.from_residual.ensures, c.in-Switch.is) c.in_err-read_switch-in-Switch.ensures.none

pub returns-in_err-read_fork-in-Fork-clause-none : goal.returns-in_err-read_fork-in-Fork-clause-none
returns-in_err-read_fork-in-Fork-clause-none c = rw (c.from_residual-in_err-read_fork-in-Fork.ensures, c.in-Fork.is) c.in_err-read_fork-in-Fork.ensures.none

pub returns-in_err-read_migrate-in-Migrate-clause-none : goal.returns-in_err-read_migrate-in-Migrate-clause-none
returns-in_err-read_migrate-in-Migrate-clause-none c = rw (c.from_residual-in_err-read_migrate-in-Migrate.ensures, c.in-Migrate.is) c.in_err-read_migrate-in-Migrate.ensures.none

pub returns-in_err-read_process-in-Process-clause-none : goal.returns-in_err-read_process-in-Process-clause-none
returns-in_err-read_process-in-Process-clause-none c = rw (c.from_residual-in_err-read_process-in-Process.ensures, c.in-Process.is) c.in_err-read_process-in-Process.ensures.none
