-- The points of one more message.
use Rattle.std.proofs.Common.{◌≡◌, ◌<◌, ◌≤◌, ◌+◌, ◌*◌, ◌⊎◌, inl, inr, ℕ, suc, ◌&&◌, ◌==◌, if◌then◌else◌, Option, None, Some, List, [], ◌∷◌, ◌++◌, length, map, set, get_or, take, replicate, slice_get, refl, sym, ap, ◌∙◌, arith}
use Rattle.std.specs.List.{filter_map, cons_option}
use Rattle.std.proofs.lemmas.Bool.{cases_eq, eq-eqb, ne_eqb}
use Rattle.std.proofs.lemmas.Nat.{same_from_place}
use Rattle.std.proofs.lemmas.Option.{slice_get_within, slice_get_read}
use Rattle.std.proofs.lemmas.List.{length-set, length-replicate, length-map, take_more, map_push}
use Rattle.std.proofs.lemmas.List.Elements.{filter_map-append}
use Rattle.message_match.specs.declared.message.Message.{Message}
use Rattle.hull_lines.specs.declared.point.ClockPoint.{ClockPoint}
use Rattle.host_tree.specs.declared.points.PairPoint.{PairPoint}
use Rattle.host_tree.specs.declared.points.Side.{Side}
use Rattle.host_tree.specs.Gathered.{AreGathered, IsPointOf, point_on}
use Rattle.host_tree.specs.Points.{times_of}
use Rattle.host_tree.proofs.Gets.{at_replicate, at_set, beside_set, one_get}

pub none_gathered : (side : Side) (hosts : ℕ) → ((parent child : ℕ) → parent < hosts → child < hosts → parent * hosts + child < hosts * hosts) → AreGathered side hosts [] (replicate (hosts * hosts) [])
none_gathered side hosts room = record {
  count = length-replicate (hosts * hosts) [];
  each = λ parent child p c. ([], at_replicate (hosts * hosts) (parent * hosts + child) [] (room parent child p c), refl);
}

-- what a list and one more item give
taken : {X Y : Type 0} (f : X → Option Y) (xs : List X) (i : ℕ) (d : X) → i < length xs → filter_map f (take (i + 1) xs) ≡ filter_map f (take i xs) ++ cons_option (f (get_or xs i d)) []
taken f xs i d h = ap (filter_map f) (take_more xs i d h) ∙ filter_map-append f (take i xs) (get_or xs i d ∷ [])

pub gathered_more : (side : Side) (hosts : ℕ) (messages : List Message) (i : ℕ) (d : Message) (p : PairPoint) (lists : List (List ClockPoint)) (place : ℕ) (old : List ClockPoint)
    → p.parent < hosts → p.child < hosts → place ≡ p.parent * hosts + p.child → place < hosts * hosts → old ≡ get_or lists place old → i < length messages → IsPointOf side (get_or messages i d) p
    → AreGathered side hosts (take i messages) lists → AreGathered side hosts (take (i + 1) messages) (set lists place (old ++ p.point ∷ []))
gathered_more side hosts messages i d p lists place old pin cin place_is room at inside point gathered = record {
  count = length-set lists place (old ++ p.point ∷ []) ∙ gathered.count;
  each = λ parent child ph ch. by parent child ph ch (gathered.each parent child ph ch) (cases_eq p.parent parent) (cases_eq p.child child);
}
  where
    Each : ℕ → ℕ → Type 0
    Each parent child = (points : List ClockPoint) × (slice_get (set lists place (old ++ p.point ∷ [])) (parent * hosts + child) ≡ Some points) × (map times_of points ≡ filter_map (point_on side parent child) (take (i + 1) messages))

    old_at : slice_get lists place ≡ Some old
    old_at = slice_get_read lists (hosts * hosts) place old (sym gathered.count) room at

    more : (parent child : ℕ) (o : Option (ℕ × ℕ)) → (if (p.parent == parent) && (p.child == child) then Some (times_of p.point) else None) ≡ o → filter_map (point_on side parent child) (take (i + 1) messages) ≡ filter_map (point_on side parent child) (take i messages) ++ cons_option o []
    more parent child o e = taken (point_on side parent child) messages i d inside ∙ ap (λ x. filter_map (point_on side parent child) (take i messages) ++ cons_option x []) (point.for_pair parent child ∙ e)

    other : (parent child : ℕ) → child < hosts → ((p.parent ≡ parent) × (p.child ≡ child) → ⊥) → (parent * hosts + child ≡ place → ⊥)
    other parent child ch ne e = let s = same_from_place p.parent p.child parent child hosts cin ch (sym place_is ∙ sym e) in ne s

    beside : (parent child : ℕ) → child < hosts → ((p.parent ≡ parent) × (p.child ≡ child) → ⊥) → (if (p.parent == parent) && (p.child == child) then Some (times_of p.point) else None) ≡ None
        → (points : List ClockPoint) × (slice_get lists (parent * hosts + child) ≡ Some points) × (map times_of points ≡ filter_map (point_on side parent child) (take i messages)) → Each parent child
    beside parent child ch ne e old_points = (
      old_points.0,
      beside_set lists place (parent * hosts + child) (old ++ p.point ∷ []) (other parent child ch ne) ∙ old_points.1,
      old_points.2 ∙ (sym (append-nil' (filter_map (point_on side parent child) (take i messages))) ∙ sym (more parent child None e)),
    )
      where
        append-nil' : (xs : List (ℕ × ℕ)) → xs ++ [] ≡ xs
        append-nil' [] = refl
        append-nil' (x ∷ xs) = ap (λ l. x ∷ l) (append-nil' xs)

    by : (parent child : ℕ) → parent < hosts → child < hosts → (points : List ClockPoint) × (slice_get lists (parent * hosts + child) ≡ Some points) × (map times_of points ≡ filter_map (point_on side parent child) (take i messages))
        → (p.parent ≡ parent) ⊎ (p.parent ≡ parent → ⊥) → (p.child ≡ child) ⊎ (p.child ≡ child → ⊥) → Each parent child
    by parent child ph ch old_points (inl pe) (inl ce) =
        let there : parent * hosts + child ≡ place = ap (λ x. x * hosts + child) (sym pe) ∙ (ap (λ x. p.parent * hosts + x) (sym ce) ∙ sym place_is) in
        let same : old ≡ old_points.0 = one_get lists place old old_points.0 old_at (ap (slice_get lists) (sym there) ∙ old_points.1) in (
          old ++ p.point ∷ [],
          ap (slice_get (set lists place (old ++ p.point ∷ []))) there ∙ at_set lists place (old ++ p.point ∷ []) (slice_get_within lists place old old_at),
          map_push times_of old p.point ∙ (ap (λ l. l ++ times_of p.point ∷ []) (ap (map times_of) same ∙ old_points.2) ∙ sym (more parent child (Some (times_of p.point)) (rw (eq-eqb p.parent parent pe, eq-eqb p.child child ce) refl))),
        )
    by parent child ph ch old_points (inl pe) (inr cn) = beside parent child ch (λ s. cn s.1) (rw (eq-eqb p.parent parent pe, ne_eqb p.child child cn) refl) old_points
    by parent child ph ch old_points (inr pn) c = beside parent child ch (λ s. pn s.0) (rw (ne_eqb p.parent parent pn) refl) old_points

length_cons : {X : Type 0} (o : Option X) (xs : List X) → length (cons_option o xs) ≤ suc (length xs)
length_cons None xs = omega arith
length_cons (Some x) xs = omega arith

length_filtered : {X Y : Type 0} (f : X → Option Y) (xs : List X) → length (filter_map f xs) ≤ length xs
length_filtered f [] = omega arith
length_filtered f (x ∷ xs) = omega (arith, length_cons (f x) (filter_map f xs), length_filtered f xs)

-- no list of points is longer than the list of messages
pub points_few : (side : Side) (hosts parent child : ℕ) (messages : List Message) (points : List ClockPoint) → map times_of points ≡ filter_map (point_on side parent child) messages → length points ≤ length messages
points_few side hosts parent child messages points e = omega (arith, length-map points times_of, ap length e, length_filtered (point_on side parent child) messages)
