-- What is gathered over a range, in order, is what the content has there.
use Rattle.std.proofs.Common.{◌≡◌, ◌⊎◌, inl, inr, ◌↔◌, ℕ, ◌+◌, ◌<◌, ◌≤◌, Bool, true, false, eqb, List, [], ◌∷◌, length, map, flat_map, get_or, Contains, Some, refl, sym, ap, ◌∙◌, subst, arith}
use Rattle.std.specs.List.{AllByRecursion}
use Rattle.std.specs.List.Sorted.{IsNonDecreasingBy, IsNonDecreasing, IsStrictlyIncreasing, IsPermutation}
use Rattle.std.specs.FinMap.{get}
use Rattle.std.proofs.lemmas.Bool.{cases_order, le-leb, eq-eqb, eqb-true, eqb-false}
use Rattle.std.proofs.lemmas.List.{length-map, get_or-map}
use Rattle.std.proofs.lemmas.List.Sorted.{IsPermutation-sym, IsPermutation-map, Contains-permutation}
use Rattle.std.proofs.lemmas.Map.Keys.{IsDistinct-IsPermutation, IsStrictlyIncreasing-from_distinct}
use Rattle.trace_types.specs.declared.value.Value.{Value}
use Rattle.history_nodes.specs.declared.interval.Interval.{Interval}
use Rattle.history_nodes.specs.declared.node.Node.{Node}
use Rattle.history_nodes.specs.Nodes.{node_at, end_of}
use Rattle.history_tree.specs.declared.over.Sought.{Sought}
use Rattle.history_tree.specs.declared.places.Place.{Place}
use Rattle.history_tree.specs.Places.{PlaceList, places_of, place_of}
use Rattle.history_tree.specs.Records.{records_of, content_of}
use Rattle.history_tree.specs.Tree.{NodeTree, IsTree, IsInside, IsAmong}
use Rattle.history_tree.specs.Index.{AreIndexed}
use Rattle.history_tree.specs.Over.{IsMet, FollowFrom, HasStart, AreOver, MayMeet, HasLater, may_hold, sought_in, node_of, start_in}
use Rattle.history_tree.proofs.Contents.{IsMember, contained, member_in, member_has, all_members, apart_same, get_member, get_found, key_number, key_start}
use Rattle.history_tree.proofs.Seeking.{member_node, node_member}
use Rattle.history_tree.proofs.Filling.{filled_at}
use Rattle.history_tree.proofs.Indexing.{contains_cases, contains_none, contains_here, member_there}
use Rattle.history_tree.proofs.Contents.{contains_behind}
use Rattle.history_tree.proofs.Gathering.{Rises, rises, gathered, gathers, sought_split, sought_is, gathered_apart, starts_differ, unlike}

-- ---- numbers
pub among : (n : ℕ) (ns : List ℕ) → Contains ns n → IsAmong n ns
among n [] c = contains_none n c
among n (k ∷ ns) c = by (contains_cases ns k n c) (among n ns)
  where
    by : (k ≡ n) ⊎ Contains ns n → (Contains ns n → IsAmong n ns) → IsAmong n (k ∷ ns)
    by (inl e) rest = inl e
    by (inr d) rest = inr (rest d)

pub of_place : (places : List Place) (p : Place) → Contains places p → Contains (map node_of places) p.node
of_place [] p c = absurd (contains_none p c)
of_place (q ∷ qs) p c = by (contains_cases qs q p c) (of_place qs p)
  where
    by : (q ≡ p) ⊎ Contains qs p → (Contains qs p → Contains (map node_of qs) p.node) → Contains (map node_of (q ∷ qs)) p.node
    by (inl e) rest = subst (λ (r : Place). Contains (map node_of (q ∷ qs)) r.node) e (contains_here (map node_of qs) q.node)
    by (inr d) rest = contains_behind (map node_of qs) q.node p.node (rest d)

pub record HasNode (places : List Place) (n : ℕ) : Type 0 where
  pub place : Place
  pub listed : Contains places place
  pub is : place.node ≡ n

pub from_place : (places : List Place) (n : ℕ) → Contains (map node_of places) n → HasNode places n
from_place [] n c = absurd (contains_none n c)
from_place (q ∷ qs) n c = by (contains_cases (map node_of qs) q.node n c) (from_place qs n)
  where
    by : (q.node ≡ n) ⊎ Contains (map node_of qs) n → (Contains (map node_of qs) n → HasNode qs n) → HasNode (q ∷ qs) n
    by (inl e) rest = record { place = q; listed = contains_here qs q; is = e }
    by (inr d) rest = let r = rest d in record { place = r.place; listed = contains_behind qs q r.place r.listed; is = r.is }

-- each of the nodes of places is there
pub nodes_there : (nodes : List Node) (rows : List PlaceList) (number from to n : ℕ) (over : List Place) → AreIndexed nodes rows → MayMeet (places_of number rows) from to over → Contains (map node_of over) n → n < length nodes
nodes_there nodes rows number from to n over x may c =
    let p = from_place over n c in
    let k = x.held number p.place (may.listed p.place p.listed) in
    let there = member_there nodes p.place.node k.interval (member_in k.interval (node_at nodes p.place.node).intervals k.member) in
    omega (arith, there, p.is)

-- ---- order
-- that intervals of one number in a content don't overlap
abbrev AreOrdered : List Interval → Type 0
AreOrdered is = (i j : Interval) → IsMember i is → IsMember j is → i.start < j.start → i.end < j.start

pub follow : (is : List Interval) (s t : ℕ) → Rises s (map start_in is) → AreOrdered is → ((j : Interval) → IsMember j is → s ≤ j.start → t ≤ j.start) → FollowFrom t is
follow [] s t up apart g = tt
follow (i ∷ is) s t up apart g = (g i (inl refl) up.0, follow is (i.start + 1) (i.end + 1) up.1 (λ j k a b lt. apart j k (inr a) (inr b) lt) (λ j m le. let h = apart i j (inl refl) (inr m) (omega (arith, le)) in omega (arith, h)))

starts_rise : (is : List Interval) → IsNonDecreasingBy start_in is → IsNonDecreasing (map start_in is)
starts_rise is up i j d le lt =
    let long : j < length is = omega (arith, lt, length-map is start_in) in
    rises_at i j d le long (no_interval is j long)
  where
    no_interval : (xs : List Interval) (k : ℕ) → k < length xs → Interval
    no_interval [] k lt = absurd (omega (arith, lt))
    no_interval (x ∷ xs) k lt = x

    rises_at : (i j d : ℕ) → i ≤ j → j < length is → Interval → get_or (map start_in is) i d ≤ get_or (map start_in is) j d
    rises_at i j d le lt e = omega (arith, up i j e le lt, get_or-map start_in is i e d (omega arith), get_or-map start_in is j e d lt)

-- ---- all of it
module _ (t : NodeTree) (rows : List PlaceList) (sought : Sought) (over : List Place) (ns : List ℕ) (is : List Interval) (h : IsTree t) (x : AreIndexed t.nodes rows) (le : sought.from ≤ sought.to)
    (may : MayMeet (places_of sought.number rows) sought.from sought.to over) (up : IsStrictlyIncreasing ns) (each : (n : ℕ) → Contains ns n ↔ Contains (map node_of over) n)
    (perm : IsPermutation (flat_map (sought_in sought t.nodes) ns) is) (sorted : IsNonDecreasingBy start_in is) where
  abbrev found : List Interval
  found = flat_map (sought_in sought t.nodes) ns

  up_from : Rises 0 ns
  up_from = rises ns 0 up (λ n ms e. omega arith)

  back : (i : Interval) → Contains is i → IsMember i found
  back i c = member_in i found (Contains-permutation is found i (IsPermutation-sym found is perm) c)

  forth : (i : Interval) → IsMember i found → Contains is i
  forth i m = Contains-permutation found is i perm (contained i found m)

  stored : (i : Interval) → IsMember i found → IsMember i (records_of t.nodes)
  stored i m = let g = gathered sought t.nodes ns i m in node_member t.nodes g.node i (member_there t.nodes g.node i g.member) g.member

  -- an interval that is sought is in a node that is read
  pub record IsRead (i : Interval) : Type 0 where
    pub node : ℕ
    pub among : IsAmong node ns
    pub member : IsMember i (node_at t.nodes node).intervals

  read : (i : Interval) (n : ℕ) → IsMember i (records_of t.nodes) → IsMember i (node_at t.nodes n).intervals → i.number ≡ sought.number → IsMet sought.from sought.to i → IsRead i
  read i n stored' m of met = by (cases_order i.start sought.from)
    where
      place : Contains (places_of sought.number rows) (place_of i n)
      place = subst (λ e. Contains (places_of e rows) (place_of i n)) of (x.listed n i (contained i (node_at t.nodes n).intervals m))

      early : HasLater over i.start sought.from → IsRead i
      early q =
          let k = x.held sought.number q.place (may.listed q.place q.listed) in
          let member = member_in k.interval (node_at t.nodes q.place.node).intervals k.member in
          let start = k.start in
          let ordered = k.interval.ordered in
          let same : i ≡ k.interval = apart_same (records_of t.nodes) i k.interval q.place.start h.filled.apart stored' (node_member t.nodes q.place.node k.interval (member_there t.nodes q.place.node k.interval member) member) (of ∙ sym k.of)
          (record { begun = q.later; lasts = omega (arith, q.begun, met.lasts) }) (record { begun = omega (arith, start); lasts = omega (arith, start, ordered) }) in
          record { node = q.place.node; among = among q.place.node ns ((each q.place.node).1 (of_place over q.place q.listed)); member = subst (λ (j : Interval). IsMember j (node_at t.nodes q.place.node).intervals) (sym same) member }

      late : Contains over (place_of i n) → IsRead i
      late c = record { node = n; among = among n ns ((each n).1 (of_place over (place_of i n) c)); member = m }

      by : (i.start ≡ sought.from) ⊎ ((i.start < sought.from) ⊎ (sought.from < i.start)) → IsRead i
      by (inl e) = early (may.first (place_of i n) place (omega (arith, e)))
      by (inr (inl l)) = early (may.first (place_of i n) place (omega (arith, l)))
      by (inr (inr l)) = late (may.inside (place_of i n) place l met.begins)

  whole : (s e : ℕ) (v : Value) → get (content_of t.nodes) (sought.number ∷ s ∷ []) ≡ Some (e, v) → s ≤ sought.to → sought.from ≤ e → HasStart is s
  whole s e v g begins lasts =
      let f = get_found (records_of t.nodes) (sought.number ∷ s ∷ []) (e, v) g in
      let n = member_node t.nodes f.interval f.member in
      let number_is : sought.number ≡ f.interval.number = key_number sought.number s f.interval.number f.interval.start f.key in
      let start_is : s ≡ f.interval.start = key_start sought.number s f.interval.number f.interval.start f.key in
      let end_is : f.interval.end ≡ e = ap (λ (p : ℕ × Value). p.0) f.entry in
      let met : IsMet sought.from sought.to f.interval = record { begins = omega (arith, start_is, begins); lasts = omega (arith, end_is, lasts) } in
      let r = read f.interval n.number f.member n.member (sym number_is) met in
      let inside : IsInside (node_at t.nodes r.node) f.interval = member_has (IsInside (node_at t.nodes r.node)) (node_at t.nodes r.node).intervals f.interval (filled_at t.greatest t.nodes h.filled.each r.node).inside r.member in
      let may' : may_hold sought t.nodes r.node ≡ true = rw (le-leb (node_at t.nodes r.node).start sought.to (omega (arith, inside.begins, met.begins)), le-leb sought.from (end_of (node_at t.nodes r.node)) (omega (arith, inside.ends, met.lasts))) refl in
      record { interval = f.interval; listed = forth f.interval (gathers sought t.nodes ns r.node f.interval r.among may' r.member (sought_is sought f.interval (sym number_is) met)); begins = sym start_is }

  apart : (i j : Interval) → IsMember i is → IsMember j is → i.start < j.start → i.end < j.start
  apart i j a b lt = by (cases_order i.end j.start)
    where
      m : IsMember i found
      m = back i (contained i is a)

      k : IsMember j found
      k = back j (contained j is b)

      numbers : i.number ≡ j.number
      numbers = (sought_split sought i (gathered sought t.nodes ns i m).sought_for).0 ∙ sym (sought_split sought j (gathered sought t.nodes ns j k).sought_for).0

      never : j.start ≤ i.end → ⊥
      never late =
          let ordered = j.ordered in
          let same : i ≡ j = apart_same (records_of t.nodes) i j j.start h.filled.apart (stored i m) (stored j k) numbers (record { begun = omega (arith, lt); lasts = late }) (record { begun = omega arith; lasts = ordered }) in
          let start : i.start ≡ j.start = ap start_in same in
          omega (arith, start, lt)

      by : (i.end ≡ j.start) ⊎ ((i.end < j.start) ⊎ (j.start < i.end)) → i.end < j.start
      by (inl e) = absurd (never (omega (arith, e)))
      by (inr (inl l)) = l
      by (inr (inr l)) = absurd (never (omega (arith, l)))

  starts : IsStrictlyIncreasing (map start_in is)
  starts =
      let of : AllByRecursion (λ i. i.number ≡ sought.number) found = all_members (λ i. i.number ≡ sought.number) found (λ i m. (sought_split sought i (gathered sought t.nodes ns i m).sought_for).0) in
      IsStrictlyIncreasing-from_distinct (map start_in is) (starts_rise is sorted)
      (IsDistinct-IsPermutation eqb flips (map start_in found) (map start_in is) (IsPermutation-map start_in found is perm) (starts_differ sought.number found (gathered_apart sought t.nodes ns 0 h.filled.apart up_from) of))
    where
      flips : (a b : ℕ) → eqb a b ≡ eqb b a
      flips a b = by (eqb a b) refl
        where
          by : (k : Bool) → eqb a b ≡ k → k ≡ eqb b a
          by true e = sym (eq-eqb b a (sym (eqb-true a b e)))
          by false e = sym (unlike b a (λ g. eqb-false a b e (sym g)))

  pub are_over : AreOver (content_of t.nodes) sought.number sought.from sought.to is
  are_over = record {
    held = λ i c. get_member (records_of t.nodes) i h.filled.apart (stored i (back i c));
    of = λ i c. (sought_split sought i (gathered sought t.nodes ns i (back i c)).sought_for).0;
    met = λ i c. (sought_split sought i (gathered sought t.nodes ns i (back i c)).sought_for).1;
    whole = whole;
    order = follow is 0 0 (rises (map start_in is) 0 starts (λ n ms e. omega arith)) apart (λ j m le'. omega arith);
  }
