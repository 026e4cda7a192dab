-- Two answers about the same merge are equal: lists in order that have the same members.
use Rattle.std.proofs.Common.{◌≡◌, ◌∙◌, ◌⊎◌, ◌<◌, inl, inr, ⊎_elim, ℕ, zero, suc, List, [], ◌∷◌, length, get_or, refl, sym, ap₂, subst, arith, Contains}
use Rattle.std.specs.List.{AllByRecursion, AllPairs}
use Rattle.disk_requests.specs.declared.device.Device.{Device}
use Rattle.disk_requests.specs.Devices.{HaveOneAnswer, IsBefore}

-- x is one of these
abbrev IsAmong : List Device → Device → Type 0
IsAmong [] x = ⊥
IsAmong (y ∷ ys) x = (y ≡ x) ⊎ IsAmong ys x

-- each is before each later one
abbrev AreInOrder : List Device → Type 0
AreInOrder [] = Unit {0}
AreInOrder (x ∷ xs) = AllByRecursion (IsBefore x) xs × AreInOrder xs

among_at : (xs : List Device) (k : ℕ) (x : Device) → k < length xs → get_or xs k x ≡ x → IsAmong xs x
among_at [] k x h e = absurd (omega (arith, h))
among_at (y ∷ ys) zero x h e = inl e
among_at (y ∷ ys) (suc k) x h e = inr (among_at ys k x (omega (arith, h)) e)

contained : (xs : List Device) (x : Device) → IsAmong xs x → Contains xs x
contained [] x h = absurd h
contained (y ∷ ys) x (inl e) = (0, omega arith, e)
contained (y ∷ ys) x (inr h) = let c = contained ys x h in (suc c.0, omega (arith, c.1), c.2)

each_from : (x : Device) (xs : List Device) → ((j : ℕ) (d : Device) → j < length xs → IsBefore x (get_or xs j d)) → AllByRecursion (IsBefore x) xs
each_from x [] f = tt
each_from x (y ∷ ys) f = (f 0 y (omega arith), each_from x ys (λ j d h. f (suc j) d (omega (arith, h))))

in_order : (xs : List Device) → AllPairs IsBefore xs → AreInOrder xs
in_order [] f = tt
in_order (x ∷ xs) f = (each_from x xs (λ j d h. f 0 (suc j) d (omega arith) (omega (arith, h))), in_order xs (λ i j d lt h. f (suc i) (suc j) d (omega (arith, lt)) (omega (arith, h))))

first_before : (x y : Device) (xs : List Device) → AllByRecursion (IsBefore x) xs → IsAmong xs y → IsBefore x y
first_before x y [] h among = absurd among
first_before x y (z ∷ zs) h (inl e) = subst (IsBefore x) e h.0
first_before x y (z ∷ zs) h (inr among) = first_before x y zs h.1 among

before_once : (a b : Device) → IsBefore a b → IsBefore b a → ⊥
before_once a b (inl h) (inl g) = omega (arith, h, g)
before_once a b (inl h) (inr g) = omega (arith, h, g.0)
before_once a b (inr h) (inl g) = omega (arith, h.0, g)
before_once a b (inr h) (inr g) = omega (arith, h.1, g.1)

same_list : (xs ys : List Device) → AreInOrder xs → AreInOrder ys → ((d : Device) → IsAmong xs d → IsAmong ys d) → ((d : Device) → IsAmong ys d → IsAmong xs d) → xs ≡ ys
same_list [] [] p q to back = refl
same_list [] (y ∷ ys) p q to back = absurd (back y (inl refl))
same_list (x ∷ xs) [] p q to back = absurd (to x (inl refl))
same_list (x ∷ xs) (y ∷ ys) p q to back =
    ap₂ (λ d ds. d ∷ ds) heads (same_list xs ys p.1 q.1 (λ d h. tail x y xs ys heads p.0 d h (to d (inr h))) (λ d h. tail y x ys xs (sym heads) q.0 d h (back d (inr h))))
  where
    heads : x ≡ y
    heads = ⊎_elim (λ e. sym e) (λ h. ⊎_elim (λ e. e) (λ g. absurd (before_once x y (first_before x y xs p.0 g) (first_before y x ys q.0 h))) (back y (inl refl))) (to x (inl refl))

    tail : (a b : Device) (us vs : List Device) → a ≡ b → AllByRecursion (IsBefore a) us → (d : Device) → IsAmong us d → IsAmong (b ∷ vs) d → IsAmong vs d
    tail a b us vs e all d h (inl g) = let p = subst (IsBefore a) (sym (e ∙ g)) (first_before a d us all h) in absurd (before_once a a p p)
    tail a b us vs e all d h (inr g) = g

pub one_answer : HaveOneAnswer
one_answer merged devices others a b =
    same_list devices others (in_order devices a.order) (in_order others b.order)
    (λ d h. among others d ((b.members d).1 ((a.members d).0 (contained devices d h)))) (λ d h. among devices d ((a.members d).1 ((b.members d).0 (contained others d h))))
  where
    among : (xs : List Device) (d : Device) → Contains xs d → IsAmong xs d
    among xs d c = among_at xs c.0 d c.1 c.2
