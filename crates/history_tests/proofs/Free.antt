-- Instants at which a number has no interval.
use Rattle.std.proofs.Common.{◌≡◌, ◌⊎◌, inl, inr, ℕ, ◌+◌, ◌<◌, ◌≤◌, false, Option, None, Some, [], ◌∷◌, IfNone, arith}
use Rattle.std.specs.Option.{is_some}
use Rattle.std.specs.FinMap.{get}
use Rattle.std.proofs.lemmas.Bool.{cases_eq}
use Rattle.trace_types.specs.declared.value.Value.{Value}
use Rattle.history_nodes.specs.declared.interval.Interval.{Interval}
use Rattle.history_tree.specs.Records.{Content, IsFree}

-- from one instant to before another
abbrev pub IsFreeUntil : Content → ℕ → ℕ → ℕ → Type 0
IsFreeUntil content number start end = (s e t : ℕ) (v : Value) → get content (number ∷ s ∷ []) ≡ Some (e, v) → s ≤ t → t ≤ e → start ≤ t → t < end → ⊥

pub free_none : (o : Option Interval) (P : Type 0) → is_some o ≡ false → IfNone o P → P
free_none None P e h = h
free_none (Some i) P e h = absurd (cc)

pub free_further : (content : Content) (number start now : ℕ) → IsFreeUntil content number start now → ((s e : ℕ) (v : Value) → get content (number ∷ s ∷ []) ≡ Some (e, v) → s ≤ now → now ≤ e → ⊥) → IsFreeUntil content number start (now + 1)
free_further content number start now h here s e t v g le ge from lt = by (cases_eq t now)
  where
    by : (t ≡ now) ⊎ (t ≡ now → ⊥) → ⊥
    by (inl is) = here s e v g (omega (arith, is, le)) (omega (arith, is, ge))
    by (inr ne) = h s e t v g le ge from (omega arith)

pub free_all : (content : Content) (i : Interval) (end : ℕ) → IsFreeUntil content i.number i.start end → i.end < end → IsFree content i
free_all content i end h lt s e t v g le ge at = h s e t v g le ge at.begun (omega (arith, at.lasts, lt))
