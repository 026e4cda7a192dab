-- The answers of a history are the states on replaying the merge.
use Rattle.std.proofs.Common.{◌≡◌, ℕ, suc, ◌+◌, ◌<◌, ◌≤◌, ◌==◌, Bool, true, false, not, cond, if◌then◌else◌, nat_le, List, [], ◌∷◌, ◌++◌, length, Option, Some, None, refl, sym, ap, ◌∙◌, subst, arith, append-nil, length-append}
use Rattle.std.specs.List.{position_or_len}
use Rattle.std.proofs.lemmas.Bool.{leb-false, lt-leb, eqb-true}
use Rattle.trace_types.specs.declared.path.Path.{Path as AttributePath}
use Rattle.trace_types.specs.declared.value.Value.{Value}
use Rattle.trace_types.specs.declared.value.Value.TheVariants.{Null}
use Rattle.trace_types.specs.declared.event.Merged.{Merged}
use Rattle.trace_types.specs.Same.{same_path}
use Rattle.attribute_tree.specs.Numbered.{number_among}
use Rattle.attribute_tree.proofs.Numbers.{number_place, no_number, place_number}
use Rattle.kernel_provider.specs.declared.step.Step.{Step}
use Rattle.kernel_provider.specs.declared.step.Step.TheVariants.{Advance, Add, Change, Finish}
use Rattle.kernel_provider.specs.Replay.{state_at}
use Rattle.kernel_provider.specs.Steps.{steps_of}
use Rattle.kernel_provider.proofs.Replayed.{state_values}
use Rattle.history_core.specs.declared.closed.Since.{Since}
use Rattle.history_core.specs.declared.question.Answer.TheVariants.{State, NotYet}
use Rattle.history_core.specs.Agreement.{IsMerge, replayed}
use Rattle.history_core.specs.Answers.{numbered_value, value_after, answer_after}
use Rattle.history_core.specs.Changes.{END, paths_of, built_of, changes_of, last_value}
use Rattle.history_core.specs.Stands.{AreSteps}
use Rattle.history_core.proofs.Lawful.{steps_lawful, steps_built}
use Rattle.history_core.proofs.Numbers.{value_is}
use Rattle.history_core.proofs.Pushed.{paths_both, changes_both, steps_front, steps_rest}
use Rattle.history_core.proofs.Times.{changes_rise, none_yet}

-- ---- further steps change no value before the built end
last_value_both : (v : Value) (t : ℕ) (cs ds : List Since) → last_value v t (cs ++ ds) ≡ last_value (last_value v t cs) t ds
last_value_both v t [] ds = refl
last_value_both v t (c ∷ cs) ds = last_value_both (if nat_le c.start t then c.value else v) t cs ds

few_changes : (n : ℕ) (paths : List AttributePath) (built : ℕ) (s : List Step) → AreSteps paths built s → length (paths ++ paths_of s) ≤ n → changes_of n s ≡ []
few_changes n paths built [] h few = refl
few_changes n paths built (Advance t ∷ s) h few = few_changes n _ t s h.1 (omega (arith, few, length-append paths (paths_of s), length-append (paths ++ []) (paths_of s), length-append paths (paths_of (Advance t ∷ []))))
few_changes n paths built (Add p ∷ s) h few = few_changes n _ built s h.1 (omega (arith, few, length-append paths (p ∷ paths_of s), length-append (paths ++ p ∷ []) (paths_of s), length-append paths (p ∷ [])))
few_changes n paths built (Change t m v ∷ s) h few = by (m == n) refl (few_changes n _ built s h.1 (omega (arith, few, length-append paths (paths_of s), length-append (paths ++ []) (paths_of s), length-append paths (paths_of (Change t m v ∷ [])))))
  where
    by : (b : Bool) → (m == n) ≡ b → changes_of n s ≡ [] → (if b then record { start = t; value = v } ∷ changes_of n s else changes_of n s) ≡ []
    by true e rest = absurd (omega (arith, eqb-true m n e, h.0.1.1, few, length-append paths (paths_of s)))
    by false e rest = rest
few_changes n paths built (Finish ∷ s) h few = few_changes n _ END s h.1 (omega (arith, few, length-append paths (paths_of s), length-append (paths ++ []) (paths_of s), length-append paths (paths_of (Finish ∷ []))))

place_both : (xs ys : List AttributePath) (p : AttributePath) → position_or_len (same_path p) xs < length xs → position_or_len (same_path p) (xs ++ ys) ≡ position_or_len (same_path p) xs
place_both [] ys p h = absurd (omega (arith, h))
place_both (x ∷ xs) ys p h = by (same_path p x) h (place_both xs ys p)
  where
    by : (b : Bool) → cond (not b) (1 + position_or_len (same_path p) xs) 0 < suc (length xs) → (position_or_len (same_path p) xs < length xs → position_or_len (same_path p) (xs ++ ys) ≡ position_or_len (same_path p) xs)
        → cond (not b) (1 + position_or_len (same_path p) (xs ++ ys)) 0 ≡ cond (not b) (1 + position_or_len (same_path p) xs) 0
    by true h rest = refl
    by false h rest = ap (λ n. 1 + n) (rest (omega (arith, h)))

place_behind : (xs ys : List AttributePath) (p : AttributePath) → position_or_len (same_path p) xs ≡ length xs → length xs ≤ position_or_len (same_path p) (xs ++ ys)
place_behind [] ys p h = omega arith
place_behind (x ∷ xs) ys p h = by (same_path p x) h (place_behind xs ys p)
  where
    by : (b : Bool) → cond (not b) (1 + position_or_len (same_path p) xs) 0 ≡ suc (length xs) → (position_or_len (same_path p) xs ≡ length xs → length xs ≤ position_or_len (same_path p) (xs ++ ys))
        → suc (length xs) ≤ cond (not b) (1 + position_or_len (same_path p) (xs ++ ys)) 0
    by true h rest = absurd (omega (arith, h))
    by false h rest = omega (arith, rest (omega (arith, h)))

module _ (front back : List Step) (lawful : AreSteps [] 0 (front ++ back)) (t : ℕ) (early : t < built_of front) where
  late : (n : ℕ) (v : Value) → last_value v t (changes_of n back) ≡ v
  late n v = none_yet (built_of front) (changes_of n back) v t (changes_rise n (paths_of front) (built_of front) back (steps_rest [] 0 front back lawful)) early

  of_number : (n : ℕ) → last_value Null t (changes_of n (front ++ back)) ≡ last_value Null t (changes_of n front)
  of_number n = ap (last_value Null t) (changes_both n front back) ∙ (last_value_both Null t (changes_of n front) (changes_of n back) ∙ late n _)

  of_path : (p : AttributePath) (o q : Option ℕ) → number_among (paths_of front) p ≡ o → number_among (paths_of front ++ paths_of back) p ≡ q → numbered_value q (front ++ back) t ≡ numbered_value o front t
  of_path p (Some n) q e f =
      let place = number_place (paths_of front) p n e in
      let both = place_both (paths_of front) (paths_of back) p (omega (arith, place.0, place.1)) in
      let same : number_among (paths_of front ++ paths_of back) p ≡ Some n = place_number (paths_of front ++ paths_of back) p (omega (arith, both, place.0, place.1, length-append (paths_of front) (paths_of back))) ∙ ap Some (both ∙ place.0) in
      ap (λ k. numbered_value k (front ++ back) t) (sym f ∙ same) ∙ of_number n
  of_path p None None e f = refl
  of_path p None (Some n) e f =
      let behind : length (paths_of front) ≤ n = subst (λ k. length (paths_of front) ≤ k) (number_place (paths_of front ++ paths_of back) p n f).0 (place_behind (paths_of front) (paths_of back) p (no_number (paths_of front) p e)) in
      of_number n ∙ ap (last_value Null t) (few_changes n [] 0 front (steps_front [] 0 front back lawful) behind)

  pub front_value : (p : AttributePath) → value_after (front ++ back) t p ≡ value_after front t p
  front_value p = of_path p (number_among (paths_of front) p) (number_among (paths_of (front ++ back)) p) refl (ap (λ l. number_among l p) (sym (paths_both front back)))

-- ---- of a merge: after its first steps, each answer is the state on replaying the whole of it, or not yet at or past the built end
pub agreement : (merge : List Merged) → IsMerge merge → (front back : List Step) → steps_of merge ≡ front ++ back → (t : ℕ) (p : AttributePath) → answer_after front t p ≡ replayed merge (built_of front) t p
agreement merge is front back same t p = by (nat_le (built_of front) t) refl
  where
    lawful : AreSteps [] 0 (front ++ back)
    lawful = subst (AreSteps [] 0) same (steps_lawful merge is)

    value : t < built_of front → value_after front t p ≡ state_at merge t p
    value early = sym (front_value front back lawful t early p) ∙ (ap (λ s. value_after s t p) (sym same) ∙ (value_is t (steps_of merge) p (steps_lawful merge is) ∙ state_values merge t p is.rises))

    by : (b : Bool) → nat_le (built_of front) t ≡ b → (if b then NotYet (built_of front) else State (value_after front t p)) ≡ (if b then NotYet (built_of front) else State (state_at merge t p))
    by true e = refl
    by false e = ap State (value (leb-false (built_of front) t e))

-- after all steps, each answer before the end of all times is the state
pub whole_agreement : (merge : List Merged) → IsMerge merge → (t : ℕ) (p : AttributePath) → t < END → answer_after (steps_of merge) t p ≡ State (state_at merge t p)
whole_agreement merge is t p below =
    agreement merge is (steps_of merge) [] (sym (append-nil (steps_of merge))) t p
    ∙ rw (steps_built merge, lt-leb END t below) refl
