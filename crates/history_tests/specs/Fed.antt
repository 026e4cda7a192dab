-- Where a builder and the provider of its steps stand, and what threads ask.
use Rattle.std.specs.Prelude.{◌≡◌, ◌<◌, List, ◌++◌, length}
use Rattle.trace_types.specs.declared.event.Merged.{Merged}
use Rattle.kernel_provider.specs.declared.step.Step.{Step}
use Rattle.kernel_provider.specs.Given.{Given, left}
use Rattle.history_lock.specs.Tokens.{TableId, Feeding}
use Rattle.history_tests.specs.declared.job.Job.{Job}

-- what was fed, and what the provider has still to give, is the plan
abbrev pub IsAt : List Merged → Feeding → Given → Type 0
IsAt events builder given = (fed : List Step) × (builder.plan ≡ fed ++ left given events) × (length fed ≡ builder.fed)

-- a job of this history, about some instants
abbrev pub IsReady : TableId → Job → Type 0
IsReady table job = (job.pass.table ≡ table) × (0 < job.limit)
