-- What is said of an answer that is known.
use Rattle.std.proofs.Common.{◌≡◌, ℕ, List, ◌++◌, Option, Some, None, IfSome, IfNone, Result, Ok, Err, OnOk, subst, ap, ◌∙◌, append_assoc}

pub at_some : {A : Type 0} (P : A → Type 0) (o : Option A) (x : A) → o ≡ Some x → IfSome o P → P x
at_some P o x e h = subst (λ o. IfSome o P) e h

pub at_none : {A : Type 0} (P : Type 0) (o : Option A) → o ≡ None → IfNone o P → P
at_none P o e h = subst (λ o. IfNone o P) e h

pub on_ok : {A E : Type 0} {P Q : Type 0} (r : Result A E) → (P → Q) → OnOk r P → OnOk r Q
on_ok (Ok x) f h = f h
on_ok (Err e) f h = h

-- a word, and what is after it
pub behind_word : (old mid new word fields : List ℕ) → mid ≡ old ++ word → new ≡ mid ++ fields → new ≡ old ++ (word ++ fields)
behind_word old mid new word fields e f = f ∙ (ap (λ l. l ++ fields) e ∙ append_assoc old word fields)

pub nothing_more : {A E : Type 0} (r : Result A E) → OnOk r (Unit {0})
nothing_more (Ok x) = tt
nothing_more (Err e) = tt
