-- Paths by the indices where they lie, and by their words.
use Rattle.std.proofs.Common.{◌≡◌, ◌∙◌, Bool, true, false, not, ◌||◌, if◌then◌else◌, List, [], ◌∷◌, ◌++◌, map, refl, ap}
use Rattle.std.specs.List.{list_any}

not_not : (b : Bool) → not (not b) ≡ b
not_not true = refl
not_not false = refl

module _ {R W : Type 0} (now : R → W) (same : W → W → Bool) where
  any_map : (r : R) (rs : List R) → list_any (λ s. same (now r) (now s)) rs ≡ list_any (same (now r)) (map now rs)
  any_map r [] = refl
  any_map r (s ∷ rs) = ap (λ b. same (now r) (now s) || b) (any_map r rs)

  push_map : (rs : List R) (r : R) → map now (rs ++ r ∷ []) ≡ map now rs ++ now r ∷ []
  push_map [] r = refl
  push_map (s ∷ rs) r = ap (λ l. now s ∷ l) (push_map rs r)

  pub stood : (r : R) (rs : List R) (is_new : Bool) (seen : List W) → map now rs ≡ seen → is_new ≡ not (list_any (λ s. same (now r) (now s)) rs) → not is_new ≡ list_any (same (now r)) seen
  stood r rs is_new seen e h = ap not h ∙ (not_not _ ∙ (any_map r rs ∙ ap (list_any (same (now r))) e))

  pub kept : (r : R) (rs news : List R) (seen : List W) → map now rs ≡ seen → news ≡ (if list_any (λ s. same (now r) (now s)) rs then rs else rs ++ r ∷ []) → map now news ≡ (if list_any (same (now r)) seen then seen else seen ++ now r ∷ [])
  kept r rs news seen e h = ap (map now) h ∙ (by (list_any (λ s. same (now r) (now s)) rs) (list_any (same (now r)) (map now rs)) (any_map r rs) ∙ ap (λ l. if list_any (same (now r)) l then l else l ++ now r ∷ []) e)
    where
      by : (b d : Bool) → b ≡ d → map now (if b then rs else rs ++ r ∷ []) ≡ (if d then map now rs else map now rs ++ now r ∷ [])
      by true true f = refl
      by false false f = push_map rs r
      by true false f = absurd (cc)
      by false true f = absurd (cc)
