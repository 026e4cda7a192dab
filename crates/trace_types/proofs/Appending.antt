-- What is held where appending pieces, one after the other, came to an end early.
use Rattle.std.proofs.Common.{◌≡◌, List, [], ◌++◌, refl, sym, ap, ◌∙◌, append_assoc, append-nil, Result, Ok, Err, OnErr}
use Rattle.trace_types.specs.Fronts.{HasFront}

module _ {X : Type 0} where
  -- nothing was appended
  pub no_front : (old items new : List X) → new ≡ old → HasFront old items new
  no_front old items new e = record { front = []; rest = items; parts = refl; held = e ∙ sym (append-nil old) }

  -- the first piece was to be appended, and more after it
  pub first_front : (old piece rest items new : List X) → HasFront old piece new → items ≡ piece ++ rest → HasFront old items new
  first_front old piece rest items new h e = record {
    front = h.front;
    rest = h.rest ++ rest;
    parts = e ∙ (ap (λ p. p ++ rest) h.parts ∙ append_assoc h.front h.rest rest);
    held = h.held;
  }

  -- the first piece stands, and what follows it came to an end
  pub later_front : (old piece rest items mid new : List X) → mid ≡ old ++ piece → HasFront mid rest new → items ≡ piece ++ rest → HasFront old items new
  later_front old piece rest items mid new m h e = record {
    front = piece ++ h.front;
    rest = h.rest;
    parts = e ∙ (ap (λ r. piece ++ r) h.parts ∙ sym (append_assoc piece h.front h.rest));
    held = h.held ∙ (ap (λ o. o ++ h.front) m ∙ append_assoc old piece h.front);
  }

-- what holds without asking holds after an error
pub on_err : {A E P : Type 0} (r : Result A E) → P → OnErr r P
on_err (Ok x) p = tt
on_err (Err e) p = p
