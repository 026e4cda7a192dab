-- Answers that differ but in the points of their lines have one report (this project's own).
use Rattle.std.specs.Prelude.{ℕ, ◌≡◌, Some, List, length, slice_get}
use Rattle.clock_fraction.specs.Fractions.{IsSame}
use Rattle.hull_lines.specs.declared.outcome.Fit.{Fit}
use Rattle.host_merge.specs.declared.placed.Placed.{Placed}
use Rattle.host_tree.specs.Order.{HaveSamePairs}
use Rattle.host_tree.specs.declared.parent.Parent.{Parent}
use Rattle.host_tree.specs.declared.parent.Parent.TheVariants.{Root, Child}
use Rattle.message_match.specs.declared.message.Message.{Message}
use Rattle.trace_types.specs.declared.event.Merged.{Merged}
use Rattle.trace_types.specs.declared.host.HostEvents.{HostEvents}
use Rattle.report_views.specs.Report.{report_text}

-- both are roots, or both have one parent and lines of the same slopes to its clock (this project's own)
abbrev pub HaveSameSlopes : Parent → Parent → Type 0
HaveSameSlopes Root Root = Unit {0}
HaveSameSlopes Root (Child q n) = ⊥
HaveSameSlopes (Child p m) Root = ⊥
HaveSameSlopes (Child p m) (Child q n) = (p ≡ q) × IsSame m.steep.slope n.steep.slope × IsSame m.flat.slope n.flat.slope

-- the same hosts are roots, and the others have the same parents and slopes (this project's own)
pub record AreSameTrees (parents others : List Parent) : Type 0 where
  pub count : length parents ≡ length others
  pub each : (host : ℕ) (p q : Parent) → slice_get parents host ≡ Some p → slice_get others host ≡ Some q → HaveSameSlopes p q

-- the text of a report hangs on no point of a line or of a contradiction (this project's own)
abbrev pub HaveOneReport : Type 0
HaveOneReport = (hosts : List HostEvents) (matched : List Message) (ambiguous : ℕ) (fits others : List Fit) (parents more : List Parent) (merged : List Merged) (placed : List Placed) (drift : ℕ)
    → HaveSamePairs (length hosts) fits others → AreSameTrees parents more
    → report_text hosts matched ambiguous fits parents merged placed drift ≡ report_text hosts matched ambiguous others more merged placed drift
