-- Texts are cut after a minus sign, and at an equals sign.
use Rattle.std.proofs.Common.{◌≡◌, ◌≢◌, ℕ, suc, ◌<◌, List, [], ◌∷◌, ◌++◌, Option, Some, None, length, get_or, arith}
use Rattle.std.specs.Prelude.{IfSome, IfNone}
use Rattle.std.specs.Borrow.{Bor}
use Rattle.std.specs.List.{AllByRecursion}
use Rattle.std.specs.Option.{MatchOption}

by_place : (bs : List ℕ) → ((i : ℕ) → i < length bs → get_or bs i 0 ≢ 61) → AllByRecursion (λ b. b ≢ 61) bs
by_place [] h = tt
by_place (b ∷ bs) h = (h 0 (omega arith), by_place bs (λ i l. h (suc i) (omega (arith, l))))

abbrev IsCut : List ℕ → Option (Bor (List ℕ) × Bor (List ℕ)) → Type 0
IsCut bs r = MatchOption r ((i : ℕ) → i < length bs → get_or bs i 0 ≢ 61) (λ x. (bs ≡ x.0.now ++ 61 ∷ x.1.now) × ((i : ℕ) → i < length x.0.now → get_or x.0.now i 0 ≢ 61))

pub cut_found : (bs : List ℕ) (r : Option (Bor (List ℕ) × Bor (List ℕ))) → IsCut bs r → IfSome r (λ x. (bs ≡ x.0.now ++ 61 ∷ x.1.now) × AllByRecursion (λ b. b ≢ 61) x.0.now)
cut_found bs None h = tt
cut_found bs (Some x) h = (h.0, by_place x.0.now h.1)

pub cut_none : (bs : List ℕ) (r : Option (Bor (List ℕ) × Bor (List ℕ))) → IsCut bs r → IfNone r (AllByRecursion (λ b. b ≢ 61) bs)
cut_none bs None h = by_place bs h
cut_none bs (Some x) h = tt

abbrev IsAfterDash : List ℕ → Option (Bor (List ℕ)) → Type 0
IsAfterDash bs r = MatchOption r ((rest : List ℕ) → bs ≢ 45 ∷ rest) (λ x. bs ≡ 45 ∷ x.now)

pub dash_found : (bs : List ℕ) (r : Option (Bor (List ℕ))) → IsAfterDash bs r → IfSome r (λ x. bs ≡ 45 ∷ x.now)
dash_found bs None h = tt
dash_found bs (Some x) h = h

pub dash_none : (bs : List ℕ) (r : Option (Bor (List ℕ))) → IsAfterDash bs r → IfNone r ((rest : List ℕ) → bs ≢ 45 ∷ rest)
dash_none bs None h = h
dash_none bs (Some x) h = tt
