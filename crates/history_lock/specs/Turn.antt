-- The rule of the turn, which holds between any two steps of any threads, and what each kind of step tells (this project's own).
use Rattle.std.specs.Prelude.{◌≡◌, ◌≢◌, ℕ, ◌+◌, ◌-◌, ◌<◌, ◌≤◌, ◌^◌, min, max, Bool, true, false, if◌then◌else◌, List, [], ◌∷◌, ◌++◌, length, take, Option, Some, ◌⊎◌}
use mathlib.Core.Option.{none, some}
use lib.ListN.{get_elem?}
use Rattle.atomic_table.specs.Table.{State, Me, Step as TableStep}
use Rattle.kernel_provider.specs.declared.step.Step.{Step}
use Rattle.history_core.specs.Stands.{HistoryModel, AreSteps, Stands}
use Rattle.history_lock.specs.declared.view.View.{View}

-- ---- views, and what steps make of them
abbrev pub view : Bool → List Step → Bool → ℕ → Bool → ℕ → Bool → ℕ → List ℕ → ℕ → View
view live plan builds fed turn held loaded seen looks misses = record { live = live; plan = plan; builds = builds; fed = fed; turn = turn; held = held; loaded = loaded; seen = seen; looks = looks; misses = misses }

-- the first seat, before it is told the plan
abbrev pub unborn : View
unborn = view false [] true 0 false 0 false 0 [] 0

-- a seat that another took in
abbrev pub spent : View
spent = view false [] false 0 false 0 false 0 [] 0

-- the builder at the start
abbrev pub starter : List Step → View
starter plan = view true plan true 0 false 0 false 0 [] 0

-- take: the view has the turn, and a history of so many steps
abbrev pub taking : View → ℕ → View
taking v held = view v.live v.plan v.builds v.fed true held false v.seen v.looks v.misses

-- miss: one miss more, up to the greatest number
abbrev pub missing : View → View
missing v = view v.live v.plan v.builds v.fed v.turn v.held v.loaded v.seen v.looks (min (v.misses + 1) (2 ^ 64 - 1))

-- load count, with the turn: the looks gain it
abbrev pub looking : View → View
looking v = view v.live v.plan v.builds v.fed v.turn v.held true v.held (v.looks ++ v.held ∷ []) v.misses

-- load count, without the turn: a builder becomes a pass that has seen all that it fed
abbrev pub finishing : View → View
finishing v = view v.live v.plan false 0 v.turn v.held v.loaded v.fed v.looks v.misses

-- bump: one more step was fed
abbrev pub bumping : View → View
bumping v = view v.live v.plan v.builds (v.fed + 1) v.turn (v.held + 1) v.loaded v.seen v.looks v.misses

-- give: the view has the turn no more
abbrev pub giving : View → View
giving v = view v.live v.plan v.builds v.fed false v.held false v.seen v.looks v.misses

-- split: a pass with the same plan that has seen as much
abbrev pub newcomer : View → View
newcomer v = view v.live v.plan false 0 false 0 false v.seen [] 0

-- join: the greater of what both have seen
abbrev pub informed : View → View → View
informed v w = view v.live v.plan v.builds v.fed v.turn v.held v.loaded (max v.seen w.seen) v.looks v.misses

-- a question that was answered at this count: a take, a look and a give
abbrev pub answering : View → ℕ → View
answering v count = giving (looking (taking v count))

-- a step that was fed: a take, a bump and a give
abbrev pub feeding : View → View
feeding v = giving (bumping (taking v v.fed))

-- a step that found no memory: a take and a give
abbrev pub failing : View → View
failing v = giving (taking v v.fed)

-- ---- the rule
abbrev pub AllAtMost : ℕ → List ℕ → Type 0
AllAtMost c [] = Unit {0}
AllAtMost c (x ∷ xs) = (x ≤ c) × AllAtMost c xs

-- this is the last look
abbrev pub EndsWith : ℕ → List ℕ → Type 0
EndsWith c looks = (before : List ℕ) × (looks ≡ before ++ c ∷ [])

-- what holds of a live view at this count: one plan, nothing seen past the count, the builder fed just so many steps, and a history of so many steps with the turn
pub record Fits (plan : List Step) (count builder id : ℕ) (v : View) : Type 0 where
  pub plan_is : v.plan ≡ plan
  pub seen : v.seen ≤ count
  pub looks : AllAtMost count v.looks
  pub fed : v.builds ≡ true → (id ≡ builder) × (v.fed ≡ count)
  pub turn : v.turn ≡ true → (v.held ≡ count) × (v.loaded ≡ true → EndsWith count v.looks)

abbrev pub Views : Type 0
Views = List View

abbrev pub AllFit : List Step → ℕ → ℕ → Views → Type 0
AllFit plan count builder views = (id : ℕ) (v : View) → get_elem? views id ≡ some v → v.live ≡ true → Fits plan count builder id v

-- how many views have the turn
abbrev pub one_if : Bool → ℕ
one_if b = if b then 1 else 0

abbrev pub holders : Views → ℕ
holders [] = 0
holders (v ∷ vs) = one_if v.turn + holders vs

-- a view that builds is alive
abbrev pub AllBorn : Views → Type 0
AllBorn views = (id : ℕ) (v : View) → get_elem? views id ≡ some v → v.builds ≡ true → v.live ≡ true

-- the table: its words, what its slot holds, and the views of all seats
abbrev pub Cells : Type 0
Cells = State (Option HistoryModel) View

-- no view has the turn, and the history at home stands for the first steps of the plan
abbrev pub AtHome : List Step → ℕ → Cells → Type 0
AtHome plan count s = (h : HistoryModel) × (holders s.views ≡ 0) × (s.homes ≡ some (Some h) ∷ []) × Stands (take count plan) h

-- one view has the turn, and the slot is out with it
abbrev pub IsOut : Cells → Type 0
IsOut s = (holders s.views ≡ 1) × (s.homes ≡ none ∷ [])

-- word 0 is the count of the plan's steps that were fed; word 1 is the number of views that have the turn, 0 or 1
pub record Kept (s : Cells) : Type 0 where
  pub plan : List Step
  pub count : ℕ
  pub builder : ℕ
  pub words : s.words ≡ count ∷ holders s.views ∷ []
  pub slot : AtHome plan count s ⊎ IsOut s
  pub within : count ≤ length plan
  pub short : length plan < 2 ^ 64
  pub fits : AllFit plan count builder s.views
  pub born : AllBorn s.views

-- before the first step of the first seat
abbrev pub Fresh : Cells → Type 0
Fresh s = (h : HistoryModel) × (s.words ≡ 0 ∷ 0 ∷ []) × (s.homes ≡ some (Some h) ∷ []) × Stands [] h × (s.views ≡ unborn ∷ [])

abbrev pub Keeps : Cells → Type 0
Keeps s = Fresh s ⊎ Kept s

-- ---- a seat: its view, and the slots that are out with it
abbrev pub Mine : Type 0
Mine = Me (Option HistoryModel) View

-- the seat is alive and has no turn
abbrev pub Idle : Mine → Type 0
Idle m = (m.1 ≡ []) × (m.0.live ≡ true) × (m.0.turn ≡ false)

-- the seat has the turn, and in the slot the history of the steps that it holds
abbrev pub Holds : Mine → HistoryModel → Type 0
Holds m h = (m.1 ≡ (0, Some h) ∷ []) × (m.0.live ≡ true) × (m.0.turn ≡ true) × Stands (take m.0.held m.0.plan) h

-- the turn was free: the seat has it, with a history of no fewer steps than it had seen, and of those that the builder fed
abbrev pub IsTaken : Mine → ℕ → HistoryModel → Type 0
IsTaken m held h = Stands (take held m.0.plan) h × (m.0.seen ≤ held) × (m.0.builds ≡ true → m.0.fed ≡ held)

-- the steps of a merge: each can follow those before it, and they can be counted
pub record IsPlan (plan : List Step) : Type 0 where
  pub lawful : AreSteps [] 0 plan
  pub short : length plan < 2 ^ 64

-- the step of the plan that is numbered so
abbrev pub IsNext : List Step → ℕ → Step → Type 0
IsNext plan number step = (front back : List Step) × (plan ≡ front ++ step ∷ back) × (length front ≡ number)

-- ---- what each kind of step tells: of the step, the seat before, the number found and the seat after
abbrev pub Begins : List Step → TableStep (Option HistoryModel) → Mine → ℕ → Mine → Type 0
Begins plan st m found n = n ≡ (starter plan, [])

-- the turn, where it was free, or a miss
abbrev pub Takes : TableStep (Option HistoryModel) → Mine → ℕ → Mine → Type 0
Takes st m found n =
    (found ≡ 0 → (held : ℕ) × (h : HistoryModel) × (n ≡ (taking m.0 held, (0, Some h) ∷ [])) × IsTaken m held h)
    × (found ≢ 0 → n ≡ (missing m.0, []))

abbrev pub Looks : TableStep (Option HistoryModel) → Mine → ℕ → Mine → Type 0
Looks st m found n = (found ≡ m.0.held) × (n ≡ (looking m.0, m.1))

abbrev pub Finishes : TableStep (Option HistoryModel) → Mine → ℕ → Mine → Type 0
Finishes st m found n = (found ≡ m.0.fed) × (n ≡ (finishing m.0, m.1))

abbrev pub Bumps : TableStep (Option HistoryModel) → Mine → ℕ → Mine → Type 0
Bumps st m found n = n ≡ (bumping m.0, m.1)

abbrev pub Gives : TableStep (Option HistoryModel) → Mine → ℕ → Mine → Type 0
Gives st m found n = n ≡ (giving m.0, [])
