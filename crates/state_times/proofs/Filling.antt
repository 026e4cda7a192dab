-- An attribute is busy, 0 or without a value at each instant.
use Rattle.std.proofs.Common.{◌≡◌, ℕ, ◌+◌, ◌-◌, ◌&&◌, Bool, true, false, not, if◌then◌else◌, List, [], ◌∷◌, length, refl, ◌∙◌, arith}
use Rattle.std.specs.Prelude.{count_by, pos}
use Rattle.std.proofs.lemmas.List.FromFn.{length-range_with_len}
use Rattle.trace_types.specs.declared.value.Value.{Value}
use Rattle.trace_types.specs.declared.value.Value.TheVariants.{Null, Int}
use Rattle.trace_types.specs.Same.{same_value}
use Rattle.trace_types.proofs.Same.{value_is}
use Rattle.kernel_provider.specs.Replay.{state_at}
use Rattle.state_times.specs.Times.{first_key, instants, is_busy, is_set, is_unset, is_zero, last_key}
use Rattle.state_times.specs.StandsFor.{SetFills, TimesFill}
use Rattle.state_times.proofs.Counting.{count_cons}

one_kind : (v : Value) → (if is_busy v then 1 else 0) + (if is_zero v then 1 else 0) + (if is_unset v then 1 else 0) ≡ 1
one_kind v = by (same_value v Null) (same_value v (Int (pos 0))) refl refl
  where
    by : (n z : Bool) → same_value v Null ≡ n → same_value v (Int (pos 0)) ≡ z → (if not n && not z then 1 else 0) + (if z then 1 else 0) + (if n then 1 else 0) ≡ 1
    by true true e f = let a : v ≡ Null = value_is v Null e in let b : v ≡ Int (pos 0) = value_is v (Int (pos 0)) f in absurd (cc)
    by true false e f = refl
    by false true e f = refl
    by false false e f = refl

fills : (values : ℕ → Value) (ts : List ℕ) → count_by (λ t. is_busy (values t)) ts + count_by (λ t. is_zero (values t)) ts + count_by (λ t. is_unset (values t)) ts ≡ length ts
fills values [] = refl
fills values (t ∷ ts) =
    omega (arith, count_cons (λ t. is_busy (values t)) t ts, count_cons (λ t. is_zero (values t)) t ts, count_cons (λ t. is_unset (values t)) t ts, one_kind (values t), fills values ts)

pub times_fill : TimesFill
times_fill merged p = fills (λ t. state_at merged t p) (instants merged) ∙ length-range_with_len (first_key merged) (last_key merged - first_key merged)

one_of_two : (b : Bool) → (if not b then 1 else 0) + (if b then 1 else 0) ≡ 1
one_of_two true = refl
one_of_two false = refl

fills_set : (values : ℕ → Value) (ts : List ℕ) → count_by (λ t. is_set (values t)) ts + count_by (λ t. is_unset (values t)) ts ≡ length ts
fills_set values [] = refl
fills_set values (t ∷ ts) = omega (arith, count_cons (λ t. is_set (values t)) t ts, count_cons (λ t. is_unset (values t)) t ts, one_of_two (is_unset (values t)), fills_set values ts)

pub set_fills : SetFills
set_fills merged p = fills_set (λ t. state_at merged t p) (instants merged) ∙ length-range_with_len (first_key merged) (last_key merged - first_key merged)
