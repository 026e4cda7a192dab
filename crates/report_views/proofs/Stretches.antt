-- The lines of stretches, one after the other, are those of the whole.
use Rattle.std.proofs.Common.{◌≡◌, ◌∙◌, ℕ, List, [], ◌∷◌, ◌++◌, map, IfOk, Ok, Err, refl, sym, ap₂, subst}
use Rattle.std.specs.Prelude.{MatchResult, Contains, flat_map}
use Rattle.std.specs.List.{AllByRecursion, AllZip}
use Rattle.std.specs.declared.result.Result.{Result}
use Rattle.std.proofs.lemmas.Grind.{flat_map-append}
use Rattle.trace_types.specs.declared.event.Merged.{Merged}
use Rattle.event_list.specs.Lines.{line_text}
use Rattle.report_views.specs.Stretches.{IsStretchText}

all_joined : {A : Type 0} (P : A → Type 0) (xs ys : List A) → AllByRecursion P xs → AllByRecursion P ys → AllByRecursion P (xs ++ ys)
all_joined P [] ys h k = k
all_joined P (x ∷ xs) ys h k = (h.0, all_joined P xs ys h.1 k)

module _ (names : ℕ → List (List ℕ)) where
  -- two stretches, one after the other
  pub two_stretches : (ms ns : List Merged) (text more : List ℕ) → IsStretchText names ms text → IsStretchText names ns more → IsStretchText names (ms ++ ns) (text ++ more)
  two_stretches ms ns text more a b = record {
    lines = ap₂ (λ x y. x ++ y) a.lines b.lines ∙ sym (flat_map-append (λ (m : Merged). line_text (names m.event.host) m) ms ns);
    bytes = all_joined _ ms ns a.bytes b.bytes;
  }

  module _ {V : Type 0} (E : Type 0) (items : V → List ℕ) where
    abbrev Gives : List Merged → Result V E → Type 0
    Gives ms r = IfOk r (λ v. IsStretchText names ms (items v))

    -- where all stretches were written
    all_stretches : (parts : List (List Merged)) (texts : List V) → AllZip Gives parts (map Ok texts) → IsStretchText names (flat_map (λ l. l) parts) (flat_map items texts)
    all_stretches [] [] h = record { lines = refl; bytes = tt }
    all_stretches [] (v ∷ vs) h = absurd h
    all_stretches (p ∷ ps) [] h = absurd h
    all_stretches (p ∷ ps) (v ∷ vs) h = two_stretches p (flat_map (λ l. l) ps) (items v) (flat_map items vs) h.0 (all_stretches ps vs h.1)

    pub collected : {C : Type 0} (of : C → List V) (whole : Result C E) (parts : List (List Merged)) (ms : List Merged) (results : List (Result V E)) → flat_map (λ l. l) parts ≡ ms → AllZip Gives parts results
        → MatchResult whole (λ c. (values : List V) × (results ≡ map Ok values) × (of c ≡ values)) (λ e. Contains results (Err e)) → IfOk whole (λ c. IsStretchText names ms (flat_map items (of c)))
    collected of (Ok c) parts ms results joined each is = subst (λ l. IsStretchText names l (flat_map items (of c))) joined
        (subst (λ vs. IsStretchText names (flat_map (λ l. l) parts) (flat_map items vs)) (sym is.2) (all_stretches parts is.0 (subst (AllZip Gives parts) is.1 each)))
    collected of (Err e) parts ms results joined each is = tt
