-- Pairs by their places in the merge: what is told of devices is told of these (this project's own).
use Rattle.std.specs.Prelude.{◌≡◌, ◌↔◌, ◌+◌, ◌<◌, ℕ, true, false, List, Some, drop, slice_get, take}
use Rattle.trace_types.specs.declared.event.Merged.{Merged}
use Rattle.disk_requests.specs.declared.act.Act.TheVariants.{Issue, Done}
use Rattle.disk_requests.specs.declared.act.Target.{Target}
use Rattle.disk_requests.specs.declared.device.Waiting.{Waiting}
use Rattle.disk_requests.specs.Requests.{act_names, act_of, first_naming, is_completed, waiting_after}

-- at the place p the request is issued, at a later place e it is completed, and no event between issues or completes it
pub record IsPair (merged : List Merged) (t : Target) (p e : ℕ) : Type 0 where
  pub issue : Merged
  pub sectors : ℕ
  pub done : Merged
  pub at_issue : slice_get merged p ≡ Some issue
  pub at_done : slice_get merged e ≡ Some done
  pub issues : act_of issue ≡ Issue t sectors
  pub completes : act_of done ≡ Done t
  pub before : p < e
  pub between : (k : ℕ) (m : Merged) → p < k → k < e → slice_get merged k ≡ Some m → act_names t (act_of m) ≡ false

-- a completion finds its request waiting exactly where it has a partner, and with what that issue tells
abbrev pub CompletionsPair : Type 0
CompletionsPair = (merged : List Merged) (e : ℕ) (done : Merged) (t : Target) → slice_get merged e ≡ Some done → act_of done ≡ Done t → (w : Waiting)
    → (waiting_after (take e merged) t ≡ Some w) ↔ ((p : ℕ) × (pair : IsPair merged t p e) × (w ≡ record { key = pair.issue.key; sectors = pair.sectors }))

-- the next event that names what an issue names is a completion exactly where the issue has a partner
abbrev pub IssuesPair : Type 0
IssuesPair = (merged : List Merged) (p : ℕ) (issue : Merged) (t : Target) (sectors : ℕ) → slice_get merged p ≡ Some issue → act_of issue ≡ Issue t sectors
    → (is_completed (first_naming t (drop (p + 1) merged)) ≡ true) ↔ ((e : ℕ) × IsPair merged t p e)
