-- What is collected of the results of parallel calls.
use Rattle.std.proofs.Common.{◌≡◌, List, [], ◌∷◌, map, IfOk, Ok, Err, sym, subst}
use Rattle.std.specs.Prelude.{MatchResult, Contains}
use Rattle.std.specs.List.{AllZip}
use Rattle.std.specs.declared.result.Result.{Result}

module _ {S V : Type 0} (E : Type 0) (R : S → V → Type 0) where
  abbrev Gives : S → Result V E → Type 0
  Gives s r = IfOk r (R s)

  -- where all calls succeeded, each gave what belongs to its item
  all_given : (items : List S) (values : List V) → AllZip Gives items (map Ok values) → AllZip R items values
  all_given [] [] h = tt
  all_given [] (v ∷ vs) h = absurd h
  all_given (s ∷ ss) [] h = absurd h
  all_given (s ∷ ss) (v ∷ vs) h = (h.0, all_given ss vs h.1)

  pub collected : {C : Type 0} (of : C → List V) (whole : Result C E) (items : List S) (results : List (Result V E)) → AllZip Gives items results
      → MatchResult whole (λ c. (values : List V) × (results ≡ map Ok values) × (of c ≡ values)) (λ e. Contains results (Err e)) → IfOk whole (λ c. AllZip R items (of c))
  collected of (Ok c) items results each is = subst (AllZip R items) (sym is.2) (all_given items is.0 (subst (AllZip Gives items) is.1 each))
  collected of (Err e) items results each is = tt
