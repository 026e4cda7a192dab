-- A search in a list, from a place on.
use Rattle.std.proofs.Common.{◌≡◌, ℕ, zero, suc, ◌+◌, ◌<◌, Bool, false, List, [], ◌∷◌, length, drop, get_or, find, arith, refl, add-one}

find_further : {A : Type 0} (test : A → Bool) (xs : List A) (i : ℕ) (d : A) → i < length xs → test (get_or xs i d) ≡ false → find test (drop i xs) ≡ find test (drop (suc i) xs)
find_further test [] i d h e = absurd (omega arith)
find_further test (x ∷ xs) zero d h e = rw e refl
find_further test (x ∷ xs) (suc i) d h e = find_further test xs i d (omega arith) e

-- where an element fails the test, the search goes on after it
pub find_behind : {A : Type 0} (test : A → Bool) (xs : List A) (i : ℕ) (d : A) → i < length xs → test (get_or xs i d) ≡ false → find test (drop i xs) ≡ find test (drop (i + 1) xs)
find_behind test xs i d h e = rw add-one (find_further test xs i d h e)
