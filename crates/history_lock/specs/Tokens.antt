-- What contracts see of those who feed and ask.
pub use Rattle.atomic_table.specs.Seated.{TableId}
use Rattle.std.specs.Prelude.{◌≡◌, ◌≤◌, ℕ, List, [], ◌∷◌, ◌++◌, take, refl}
use Rattle.std.specs.Coded.{Coded, code_by, coded×, coded_ℕ, coded_list}
use Rattle.atomic_table.specs.Seated.{table_id_coded}
use Rattle.trace_types.specs.declared.path.Path.{Path as AttributePath}
use Rattle.kernel_provider.specs.declared.step.Step.{Step}
use Rattle.kernel_provider.specs.contracts.step.Step as step
use Rattle.history_core.specs.declared.question.Asked.{Asked}
use Rattle.history_core.specs.Answers.{answer_after}

-- of a pass: its history, the steps of the merge, the counts at which it was answered, the greatest count that it knows, and its misses
pub record Asking : Type 0 where
  pub table : TableId
  pub plan : List Step
  pub looks : List ℕ
  pub seen : ℕ
  pub misses : ℕ

-- of a builder: its history, the steps of the merge, how many of them it fed, and its misses
pub record Feeding : Type 0 where
  pub table : TableId
  pub plan : List Step
  pub fed : ℕ
  pub misses : ℕ

-- the answer is that of the first steps of the plan, as many as its count says, and no fewer than the pass had seen; then the pass has seen so many, and its looks gain the count
pub record IsAnswered (old new : Asking) (t : ℕ) (path : AttributePath) (asked : Asked) : Type 0 where
  pub answer : asked.answer ≡ answer_after (take asked.count old.plan) t path
  pub later : old.seen ≤ asked.count
  pub seen : new.seen ≡ asked.count
  pub looks : new.looks ≡ old.looks ++ asked.count ∷ []
  pub plan : new.plan ≡ old.plan
  pub table : new.table ≡ old.table

-- ---- how they are stored
abbrev pub asking_code : Coded Asking
asking_code = code_by (TableId × (List Step × (List ℕ × (ℕ × ℕ)))) (coded× table_id_coded (coded× (coded_list step.the_row.coded) (coded× (coded_list coded_ℕ) (coded× coded_ℕ coded_ℕ))))
    (λ k. (k.table, (k.plan, (k.looks, (k.seen, k.misses))))) (λ p. record { table = p.0; plan = p.1.0; looks = p.1.1.0; seen = p.1.1.1.0; misses = p.1.1.1.1 }) (λ _. refl)

abbrev pub feeding_code : Coded Feeding
feeding_code = code_by (TableId × (List Step × (ℕ × ℕ))) (coded× table_id_coded (coded× (coded_list step.the_row.coded) (coded× coded_ℕ coded_ℕ)))
    (λ k. (k.table, (k.plan, (k.fed, k.misses)))) (λ p. record { table = p.0; plan = p.1.0; fed = p.1.1.0; misses = p.1.1.1 }) (λ _. refl)
