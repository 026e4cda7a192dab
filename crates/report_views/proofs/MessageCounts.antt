-- The counts of one more message.
use Rattle.std.proofs.Common.{◌≡◌, ◌≢◌, ◌⊎◌, inl, inr, ℕ, ◌+◌, ◌*◌, ◌<◌, ◌≤◌, true, false, List, length, get_or, take, set, sym, ap, ap₂, ◌∙◌, arith}
use Rattle.std.specs.Prelude.{◌==◌, ◌&&◌}
use Rattle.std.proofs.Math.Nat.{mul-le-mul_right}
use Rattle.std.proofs.lemmas.Bool.{cases_order}
use Rattle.std.proofs.lemmas.Bool.Decides.{eqb_tells}
use Rattle.std.proofs.lemmas.List.{get_or-set_same, get_or-set_other}
use Rattle.std.proofs.lemmas.List.Sums.{count_by-le-length, count_by_more_no, count_by_more_yes}
use Rattle.message_match.specs.declared.message.Message.{Message}
use Rattle.report_views.specs.Report.{AreCounted, count_at, count_from, goes}

-- a place is that of one pair
no_less : (h f t g s : ℕ) → t < h → f * h + t ≡ g * h + s → f < g → ⊥
no_less h f t g s below e less = let a : (f + 1) * h ≤ g * h = mul-le-mul_right h (omega (arith, less)) in omega (arith, a, e, below)

one_pair : (h f t g s : ℕ) → t < h → s < h → f * h + t ≡ g * h + s → (f ≡ g) × (t ≡ s)
one_pair h f t g s below below' e = by (cases_order f g)
  where
    by : (f ≡ g) ⊎ ((f < g) ⊎ (g < f)) → (f ≡ g) × (t ≡ s)
    by (inl same) = let a : f * h ≡ g * h = ap (λ n. n * h) same in (same, omega (arith, a, e))
    by (inr (inl less)) = absurd (no_less h f t g s below e less)
    by (inr (inr less)) = absurd (no_less h g s f t below' (sym e) less)

pub place_below : (h f t : ℕ) → f < h → t < h → f * h + t < h * h
place_below h f t f_in t_in = let a : (f + 1) * h ≤ h * h = mul-le-mul_right h (omega (arith, f_in)) in omega (arith, a, t_in)

goes_yes : (f t : ℕ) (m : Message) → m.from ≡ f → m.to ≡ t → goes f t m ≡ true
goes_yes f t m a b = by (eqb_tells m.from f) (eqb_tells m.to t)
  where
    by : ((m.from == f ≡ true) × (m.from ≡ f)) ⊎ ((m.from == f ≡ false) × (m.from ≢ f)) → ((m.to == t ≡ true) × (m.to ≡ t)) ⊎ ((m.to == t ≡ false) × (m.to ≢ t)) → goes f t m ≡ true
    by (inl x) (inl y) = ap₂ (λ p q. p && q) x.0 y.0
    by (inl x) (inr y) = absurd (y.1 b)
    by (inr x) y = absurd (x.1 a)

-- the number of one more message, at a pair
pub one_more : (h : ℕ) (matched : List Message) (i : ℕ) (d : Message) (counts : List ℕ) (now : ℕ) → i < length matched → AreCounted h (take i matched) counts
    → (get_or matched i d).from < h → (get_or matched i d).to < h → now ≡ get_or counts ((get_or matched i d).from * h + (get_or matched i d).to) 0
    → (f t : ℕ) → f < h → t < h → count_at h (set counts ((get_or matched i d).from * h + (get_or matched i d).to) (now + 1)) f t ≡ count_from (take (i + 1) matched) f t
one_more h matched i d counts now inside before from_in to_in is f t f_in t_in = by (eqb_tells m.from f) (eqb_tells m.to t)
  where
    m : Message
    m = get_or matched i d

    place : ℕ
    place = m.from * h + m.to

    fits : place < length counts
    fits = let a = place_below h m.from m.to from_in to_in in let b = before.count in omega (arith, a, b)

    other : goes f t m ≡ false → f * h + t ≢ place → count_at h (set counts place (now + 1)) f t ≡ count_from (take (i + 1) matched) f t
    other misses apart = get_or-set_other counts place (f * h + t) (now + 1) 0 apart ∙ (before.each f t f_in t_in ∙ sym (count_by_more_no (goes f t) matched i d inside misses))

    by : ((m.from == f ≡ true) × (m.from ≡ f)) ⊎ ((m.from == f ≡ false) × (m.from ≢ f)) → ((m.to == t ≡ true) × (m.to ≡ t)) ⊎ ((m.to == t ≡ false) × (m.to ≢ t)) → count_at h (set counts place (now + 1)) f t ≡ count_from (take (i + 1) matched) f t
    by (inl x) (inl y) =
        let at : f * h + t ≡ place = ap₂ (λ a b. a * h + b) (sym x.1) (sym y.1) in
        ap (λ p. get_or (set counts place (now + 1)) p 0) at
        ∙ (get_or-set_same counts place (now + 1) 0 fits
        ∙ (ap (λ n. n + 1) (is ∙ (ap (λ p. get_or counts p 0) (sym at) ∙ before.each f t f_in t_in))
        ∙ sym (count_by_more_yes (goes f t) matched i d inside (ap₂ (λ p q. p && q) x.0 y.0))))
    by (inl x) (inr y) = other (ap₂ (λ p q. p && q) x.0 y.0) (λ e. y.1 (sym (one_pair h f t m.from m.to t_in to_in e).1))
    by (inr x) y = other (ap (λ p. p && (m.to == t)) x.0) (λ e. x.1 (sym (one_pair h f t m.from m.to t_in to_in e).0))

pub counted_more : (h : ℕ) (matched : List Message) (i : ℕ) (d : Message) (counts : List ℕ) (now : ℕ) → i < length matched → AreCounted h (take i matched) counts
    → (get_or matched i d).from < h → (get_or matched i d).to < h → now ≡ get_or counts ((get_or matched i d).from * h + (get_or matched i d).to) 0
    → length (set counts ((get_or matched i d).from * h + (get_or matched i d).to) (now + 1)) ≡ length counts
    → AreCounted h (take (i + 1) matched) (set counts ((get_or matched i d).from * h + (get_or matched i d).to) (now + 1))
counted_more h matched i d counts now inside before from_in to_in is long = record { count = long ∙ before.count; each = one_more h matched i d counts now inside before from_in to_in is }

-- a count is no greater than the number of messages
pub count_small : (h : ℕ) (matched : List Message) (counts : List ℕ) (f t : ℕ) → AreCounted h matched counts → f < h → t < h → get_or counts (f * h + t) 0 ≤ length matched
count_small h matched counts f t are f_in t_in = let e = are.each f t f_in t_in in let b = count_by-le-length (goes f t) matched in omega (arith, e, b)
