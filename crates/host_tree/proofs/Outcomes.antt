-- The fits, pair by pair.
use Rattle.std.proofs.Common.{◌≡◌, ◌≢◌, ◌<◌, ◌≤◌, ◌+◌, ◌*◌, ◌/◌, ◌%◌, ◌^◌, ◌⊎◌, inl, inr, ℕ, zero, suc, Option, None, Some, List, [], ◌∷◌, ◌++◌, length, map, get_or, slice_get, refl, sym, ap, ◌∙◌, subst, arith}
use Rattle.std.specs.List.{filter_map, All}
use Rattle.std.proofs.lemmas.Bool.{cases_lt, cases_eq, eq-eqb, ne_eqb}
use Rattle.std.proofs.lemmas.Nat.{mul-add-lt, div_below, mod_below}
use Rattle.std.proofs.lemmas.Option.{slice_get_within, get_or_from_slice_get}
use Rattle.std.proofs.lemmas.List.{length-map, length_push, nil_from_length}
use Rattle.message_match.specs.declared.message.Message.{Message}
use Rattle.hull_lines.specs.declared.point.ClockPoint.{ClockPoint}
use Rattle.hull_lines.specs.declared.outcome.Fit.{Fit}
use Rattle.hull_lines.specs.declared.outcome.Fit.TheVariants.{Map, Absent, Refused}
use Rattle.hull_lines.specs.Outcomes.{AreCounts, IfAbsent, IsAbsent}
use Rattle.host_tree.specs.declared.points.Side.{Side}
use Rattle.host_tree.specs.declared.points.Side.TheVariants.{Lower, Upper}
use Rattle.host_tree.specs.Fits.{AreApartFromThemselves, AreFits, AreOutcomes, IsOutcome}
use Rattle.host_tree.specs.Gathered.{AreGathered}
use Rattle.host_tree.specs.Points.{IsBetween, lower_point, times_of, upper_point}
use Rattle.host_tree.proofs.Gathering.{points_few}
use Rattle.host_tree.proofs.Gets.{at_push, before_push, one_get}

pub outcomes_more : (lower upper : List (List ClockPoint)) (drift place : ℕ) (l u : List ClockPoint) (fits : List Fit) (fit : Fit) → length fits ≡ place → slice_get lower place ≡ Some l → slice_get upper place ≡ Some u → IsOutcome l u drift fit
    → AreOutcomes lower upper drift fits → AreOutcomes lower upper drift (fits ++ fit ∷ [])
outcomes_more lower upper drift place l u fits fit count at_l at_u here outcomes k m v h e f = by (cases_lt k (length fits))
  where
    by : (k < length fits) ⊎ (length fits ≤ k) → (x : Fit) × (slice_get (fits ++ fit ∷ []) k ≡ Some x) × IsOutcome m v drift x
    by (inl less) = let o = outcomes k m v less e f in (o.0, before_push fits k fit less ∙ o.1, o.2)
    by (inr more) =
        let last : k ≡ length fits = omega (arith, length_push fits fit) in
        let at : k ≡ place = last ∙ count in
        let same_l : l ≡ m = one_get lower place l m at_l (ap (slice_get lower) (sym at) ∙ e) in
        let same_u : u ≡ v = one_get upper place u v at_u (ap (slice_get upper) (sym at) ∙ f) in
        (fit, ap (slice_get (fits ++ fit ∷ [])) last ∙ at_push fits fit, subst (λ x. IsOutcome x v drift fit) same_l (subst (λ x. IsOutcome l x drift fit) same_u here))

-- no list is longer than the list of messages
pub all_few : (side : Side) (hosts : ℕ) (messages : List Message) (lists : List (List ClockPoint)) → length messages < 2 ^ 32 → AreGathered side hosts messages lists → All (λ l. length l < 2 ^ 32) lists
all_few side hosts messages lists few gathered k d h =
    let some : 0 < hosts = positive hosts (omega (arith, gathered.count)) in
    let p : k / hosts < hosts = div_below k hosts hosts some (omega (arith, gathered.count)) in
    let c : k % hosts < hosts = mod_below k hosts some in
    let g = gathered.each (k / hosts) (k % hosts) p c in
    let there : k / hosts * hosts + k % hosts ≡ k = omega arith in
    let at : get_or lists k d ≡ g.0 = get_or_from_slice_get lists k g.0 d (ap (slice_get lists) (sym there) ∙ g.1) in
    rw (at) (omega (arith, points_few side hosts (k / hosts) (k % hosts) messages g.0 g.2))
  where
    positive : (n : ℕ) → k < n * n → 0 < n
    positive zero h = omega arith
    positive (suc n) h = omega arith

pub fits_are : (hosts : ℕ) (messages : List Message) (drift : ℕ) (lower upper : List (List ClockPoint)) (fits : List Fit) → AreGathered Lower hosts messages lower → AreGathered Upper hosts messages upper
    → length fits ≡ length lower → AreOutcomes lower upper drift fits → AreFits hosts messages drift fits
fits_are hosts messages drift lower upper fits low up count outcomes = record {
  count = count ∙ low.count;
  each = λ parent child p c.
      let l = low.each parent child p c in
      let u = up.each parent child p c in
      let o = outcomes (parent * hosts + child) l.0 u.0 (omega (arith, mul-add-lt parent hosts child hosts p c, count, low.count)) l.1 u.1 in
      (o.0, o.1, record { lower = l.0; upper = u.0; lower_are = l.2; upper_are = u.2; outcome = o.2 });
}

-- ---- no message goes from a host to itself

none_filtered : {X Y : Type 0} (f : X → Option Y) (xs : List X) → ((x : X) (k : ℕ) → slice_get xs k ≡ Some x → f x ≡ None) → filter_map f xs ≡ []
none_filtered f [] h = refl
none_filtered f (x ∷ xs) h = rw (h x 0 refl) (none_filtered f xs (λ y k e. h y (suc k) e))

no_points : (points : List ClockPoint) → map times_of points ≡ [] → points ≡ []
no_points points e = nil_from_length points (sym (length-map points times_of) ∙ ap length e)

no_lower : (host : ℕ) (m : Message) → m.from ≢ m.to → lower_point host host m ≡ None
no_lower host m apart = by (cases_eq m.from host) (cases_eq m.to host)
  where
    by : (m.from ≡ host) ⊎ (m.from ≡ host → ⊥) → (m.to ≡ host) ⊎ (m.to ≡ host → ⊥) → lower_point host host m ≡ None
    by (inl f) (inl t) = absurd (apart (f ∙ sym t))
    by (inl f) (inr t) = rw (eq-eqb m.from host f, ne_eqb m.to host t) refl
    by (inr f) t = rw (ne_eqb m.from host f) refl

no_upper : (host : ℕ) (m : Message) → m.from ≢ m.to → upper_point host host m ≡ None
no_upper host m apart = by (cases_eq m.from host) (cases_eq m.to host)
  where
    by : (m.from ≡ host) ⊎ (m.from ≡ host → ⊥) → (m.to ≡ host) ⊎ (m.to ≡ host → ⊥) → upper_point host host m ≡ None
    by (inl f) (inl t) = absurd (apart (f ∙ sym t))
    by (inl f) (inr t) = rw (eq-eqb m.from host f, ne_eqb m.to host t) refl
    by (inr f) t = rw (ne_eqb m.from host f) refl

apart_at : (hosts : ℕ) (messages : List Message) → All (IsBetween hosts) messages → (m : Message) (k : ℕ) → slice_get messages k ≡ Some m → m.from ≢ m.to
apart_at hosts messages between m k e = let b : IsBetween hosts m = subst (IsBetween hosts) (get_or_from_slice_get messages k m m e) (between k m (slice_get_within messages k m e)) in b.apart

absent_is : (fit : Fit) → IsAbsent fit → IfAbsent fit (AreCounts [] []) → fit ≡ Absent 0 0
absent_is (Map map) a c = absurd a
absent_is (Absent n m) a c = ap (λ k. Absent k m) c.lower_count ∙ ap (λ k. Absent 0 k) c.upper_count
absent_is (Refused r) a c = absurd a

pub apart_from_themselves : (hosts : ℕ) (messages : List Message) (drift : ℕ) (fits : List Fit) → All (IsBetween hosts) messages → AreFits hosts messages drift fits → AreApartFromThemselves hosts fits
apart_from_themselves hosts messages drift fits between are host h =
    let f = are.each host host h h in
    let lower : f.2.lower ≡ [] = no_points f.2.lower (f.2.lower_are ∙ none_filtered (lower_point host host) messages (λ m k e. no_lower host m (apart_at hosts messages between m k e))) in
    let upper : f.2.upper ≡ [] = no_points f.2.upper (f.2.upper_are ∙ none_filtered (upper_point host host) messages (λ m k e. no_upper host m (apart_at hosts messages between m k e))) in
    let o : IsOutcome [] [] drift f.0 = subst (λ x. IsOutcome [] x drift f.0) upper (subst (λ x. IsOutcome x f.2.upper drift f.0) lower f.2.outcome) in
    f.1 ∙ ap Some (absent_is f.0 (o.lacking.1 (inl refl)) o.absent)
