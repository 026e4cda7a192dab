-- The index of a tree, where the tree grows and where it is asked.
use Rattle.std.proofs.Common.{◌≡◌, ◌⊎◌, inl, inr, ℕ, zero, suc, ◌<◌, ◌≤◌, List, [], ◌∷◌, length, find, Contains, Option, None, Some, IfNone, refl, sym, ap, ◌∙◌, subst, arith, set}
use Rattle.std.specs.List.Sorted.{IsPermutation}
use Rattle.std.specs.FinMap.{get}
use Rattle.std.proofs.lemmas.Bool.{cases_eq}
use Rattle.std.proofs.lemmas.List.Elements.{Contains-append_left, Contains-append_right, Contains-append_cases}
use Rattle.std.proofs.lemmas.List.Sorted.{IsPermutation-sym, Contains-permutation}
use Rattle.trace_types.specs.declared.value.Value.{Value}
use Rattle.history_nodes.specs.declared.interval.Interval.{Interval}
use Rattle.history_nodes.specs.declared.node.Node.{Node}
use Rattle.history_nodes.specs.Intervals.{is_of}
use Rattle.history_nodes.specs.Nodes.{node_at, with_record}
use Rattle.history_tree.specs.declared.places.Place.{Place}
use Rattle.history_tree.specs.Places.{PlaceList, places_of, place_of, HaveSame, OthersHaveSame, IsLatest}
use Rattle.history_tree.specs.Records.{records_of, content_of, IsAt}
use Rattle.history_tree.specs.Tree.{NodeTree, IsTree}
use Rattle.history_tree.specs.Index.{IsHeldAt, AreIndexed}
use Rattle.history_tree.proofs.Steps.{at_set, at_other}
use Rattle.history_tree.proofs.Contents.{IsMember, contains_behind, contained, member_in, apart_same, get_found, key_number, key_start}
use Rattle.history_tree.proofs.Seeking.{member_node, node_member, none_in}

-- a node that holds an interval is there
pub member_there : (nodes : List Node) (n : ℕ) (i : Interval) → IsMember i (node_at nodes n).intervals → n < length nodes
member_there [] n i m = absurd m
member_there (x ∷ xs) zero i m = omega arith
member_there (x ∷ xs) (suc n) i m = let h = member_there xs n i m in omega (arith, h)

-- ---- where nodes keep their records
pub index_kept : (old new : List Node) (rows next : List PlaceList) → ((n : ℕ) → (node_at new n).intervals ≡ (node_at old n).intervals) → HaveSame rows next → AreIndexed old rows → AreIndexed new next
index_kept old new rows next records same h = record {
  held = λ number place c. let k = h.held number place (subst (λ ps. Contains ps place) (same.each number) c) in record {
    interval = k.interval;
    member = subst (λ is. Contains is k.interval) (sym (records place.node)) k.member;
    of = k.of;
    start = k.start;
  };
  listed = λ n i m. subst (λ ps. Contains ps (place_of i n)) (sym (same.each i.number)) (h.listed n i (subst (λ is. Contains is i) (records n) m));
}

-- ---- one more record
pub contains_here : {A : Type 0} (xs : List A) (x : A) → Contains (x ∷ xs) x
contains_here xs x = (0, omega arith, refl)

pub contains_cases : {A : Type 0} (xs : List A) (x y : A) → Contains (x ∷ xs) y → (x ≡ y) ⊎ Contains xs y
contains_cases xs x y (zero, lt, at) = inl at
contains_cases xs x y (suc k, lt, at) = inr (k, omega arith, at)

pub contains_none : {A : Type 0} (y : A) → Contains [] y → ⊥
contains_none y (k, lt, at) = omega (arith, lt)

pub index_put : (nodes : List Node) (k : ℕ) (i : Interval) (rows next : List PlaceList) → k < length nodes → IsPermutation (place_of i k ∷ places_of i.number rows) (places_of i.number next) → OthersHaveSame i.number rows next → AreIndexed nodes rows → AreIndexed (set nodes k (with_record i (node_at nodes k))) next
index_put nodes k i rows next there added others h = record {
  held = λ number place c. held number place c (cases_eq number i.number);
  listed = λ n j m. listed n j m (cases_eq n k);
}
  where
    x : Node
    x = with_record i (node_at nodes k)

    new : List Node
    new = set nodes k x

    -- records and places that were there
    member_kept : (n : ℕ) (j : Interval) → Contains (node_at nodes n).intervals j → Contains (node_at new n).intervals j
    member_kept n j m = by (cases_eq n k)
      where
        by : (n ≡ k) ⊎ (n ≡ k → ⊥) → Contains (node_at new n).intervals j
        by (inl is) = subst (λ e. Contains (node_at new e).intervals j) (sym is) (subst (λ (y : Node). Contains y.intervals j) (sym (at_set nodes k x there)) (Contains-append_left (node_at nodes k).intervals (i ∷ []) j (subst (λ e. Contains (node_at nodes e).intervals j) is m)))
        by (inr ne) = subst (λ (y : Node). Contains y.intervals j) (sym (at_other nodes k n x ne)) m

    place_kept : (number : ℕ) (p : Place) → Contains (places_of number rows) p → Contains (places_of number next) p
    place_kept number p c = by (cases_eq number i.number)
      where
        by : (number ≡ i.number) ⊎ (number ≡ i.number → ⊥) → Contains (places_of number next) p
        by (inl is) = subst (λ e. Contains (places_of e next) p) (sym is) (Contains-permutation _ _ p added (contains_behind (places_of i.number rows) (place_of i k) p (subst (λ e. Contains (places_of e rows) p) is c)))
        by (inr ne) = subst (λ ps. Contains ps p) (sym (others.others number ne)) c

    held_kept : (number : ℕ) (place : Place) → IsHeldAt nodes number place → IsHeldAt new number place
    held_kept number place e = record { interval = e.interval; member = member_kept place.node e.interval e.member; of = e.of; start = e.start }

    held : (number : ℕ) (place : Place) → Contains (places_of number next) place → (number ≡ i.number) ⊎ (number ≡ i.number → ⊥) → IsHeldAt new number place
    held number place c (inl is) = by (contains_cases (places_of i.number rows) (place_of i k) place (Contains-permutation _ _ place (IsPermutation-sym _ _ added) (subst (λ e. Contains (places_of e next) place) is c)))
      where
        by : (place_of i k ≡ place) ⊎ Contains (places_of i.number rows) place → IsHeldAt new number place
        by (inl e) = subst (IsHeldAt new number) e (record {
          interval = i;
          member = subst (λ (y : Node). Contains y.intervals i) (sym (at_set nodes k x there)) (Contains-append_right (node_at nodes k).intervals (i ∷ []) i (contains_here [] i));
          of = sym is;
          start = refl;
        })
        by (inr d) = held_kept number place (h.held number place (subst (λ e. Contains (places_of e rows) place) (sym is) d))
    held number place c (inr ne) = held_kept number place (h.held number place (subst (λ ps. Contains ps place) (others.others number ne) c))

    listed : (n : ℕ) (j : Interval) → Contains (node_at new n).intervals j → (n ≡ k) ⊎ (n ≡ k → ⊥) → Contains (places_of j.number next) (place_of j n)
    listed n j m (inl is) = by (Contains-append_cases (node_at nodes k).intervals (i ∷ []) j (subst (λ (y : Node). Contains y.intervals j) (at_set nodes k x there) (subst (λ e. Contains (node_at new e).intervals j) is m)))
      where
        last : (i ≡ j) ⊎ Contains [] j → Contains (places_of j.number next) (place_of j n)
        last (inl e) = subst (λ (l : Interval). Contains (places_of l.number next) (place_of l n)) e (subst (λ e. Contains (places_of i.number next) (place_of i e)) (sym is) (Contains-permutation _ _ (place_of i k) added (contains_here (places_of i.number rows) (place_of i k))))
        last (inr e) = absurd (contains_none j e)

        by : Contains (node_at nodes k).intervals j ⊎ Contains (i ∷ []) j → Contains (places_of j.number next) (place_of j n)
        by (inl a) = place_kept j.number (place_of j n) (h.listed n j (subst (λ e. Contains (node_at nodes e).intervals j) (sym is) a))
        by (inr c) = last (contains_cases [] i j c)
    listed n j m (inr ne) = place_kept j.number (place_of j n) (h.listed n j (subst (λ (y : Node). Contains y.intervals j) (at_other nodes k n x ne) m))

-- ---- what the index tells
-- an interval of the content that holds an instant, and its place
pub record IsListed (t : NodeTree) (rows : List PlaceList) (number time : ℕ) : Type 0 where
  pub interval : Interval
  pub node : ℕ
  pub member : IsMember interval (records_of t.nodes)
  pub of : interval.number ≡ number
  pub at : IsAt time interval
  pub place : Contains (places_of number rows) (place_of interval node)

pub is_listed : (t : NodeTree) (rows : List PlaceList) (number time s e : ℕ) (v : Value) → AreIndexed t.nodes rows → get (content_of t.nodes) (number ∷ s ∷ []) ≡ Some (e, v) → s ≤ time → time ≤ e → IsListed t rows number time
is_listed t rows number time s e v h g le ge =
    let f = get_found (records_of t.nodes) (number ∷ s ∷ []) (e, v) g in
    let n = member_node t.nodes f.interval f.member in
    let number_is : number ≡ f.interval.number = key_number number s f.interval.number f.interval.start f.key in
    let start_is : s ≡ f.interval.start = key_start number s f.interval.number f.interval.start f.key in
    let end_is : f.interval.end ≡ e = ap (λ (p : ℕ × Value). p.0) f.entry in
    record {
      interval = f.interval;
      node = n.number;
      member = f.member;
      of = sym number_is;
      at = record { begun = omega (arith, start_is, le); lasts = omega (arith, end_is, ge) };
      place = subst (λ e. Contains (places_of e rows) (place_of f.interval n.number)) (sym number_is) (h.listed n.number f.interval (contained f.interval (node_at t.nodes n.number).intervals n.member));
    }

-- where no place begins by the instant
pub none_listed : (t : NodeTree) (rows : List PlaceList) (number time : ℕ) → AreIndexed t.nodes rows → ((p : Place) → Contains (places_of number rows) p → time < p.start) → (s e : ℕ) (v : Value) → get (content_of t.nodes) (number ∷ s ∷ []) ≡ Some (e, v) → s ≤ time → time ≤ e → ⊥
none_listed t rows number time h none s e v g le ge =
    let l = is_listed t rows number time s e v h g le ge in
    let late : time < l.interval.start = none (place_of l.interval l.node) l.place in
    omega (arith, late, l.at.begun)

-- where the node of the last place that begins by the instant has no interval that holds it
pub none_found : (t : NodeTree) (rows : List PlaceList) (number time : ℕ) (place : Place) (found : Option Interval) → IsTree t → AreIndexed t.nodes rows → IsLatest (places_of number rows) time place → find (is_of number time) (node_at t.nodes place.node).intervals ≡ found
    → IfNone found ((s e : ℕ) (v : Value) → get (content_of t.nodes) (number ∷ s ∷ []) ≡ Some (e, v) → s ≤ time → time ≤ e → ⊥)
none_found t rows number time place (Some i) h x latest is = tt
none_found t rows number time place None h x latest is = λ s e v g le ge.
    let l = is_listed t rows number time s e v x g le ge in
    let k = x.held number place latest.listed in
    let late : l.interval.start ≤ place.start = latest.latest (place_of l.interval l.node) l.place l.at.begun in
    let start = k.start in
    let ordered = k.interval.ordered in
    let member = member_in k.interval (node_at t.nodes place.node).intervals k.member in
    let same : l.interval ≡ k.interval = apart_same (records_of t.nodes) l.interval k.interval place.start h.filled.apart l.member (node_member t.nodes place.node k.interval (member_there t.nodes place.node k.interval member) member) (l.of ∙ sym k.of)
    (record { begun = late; lasts = omega (arith, l.at.lasts, latest.begun) }) (record { begun = omega (arith, start); lasts = omega (arith, start, ordered) }) in
    none_in (node_at t.nodes place.node).intervals number time k.interval is member k.of (subst (IsAt time) same l.at)

-- the node of a place is there
pub place_there : (nodes : List Node) (rows : List PlaceList) (number time : ℕ) (place : Place) → AreIndexed nodes rows → IsLatest (places_of number rows) time place → place.node < length nodes
place_there nodes rows number time place h latest = let k = h.held number place latest.listed in member_there nodes place.node k.interval (member_in k.interval (node_at nodes place.node).intervals k.member)

pub at_none : {A : Type 0} (o : Option A) (P : Type 0) → P → IfNone o P
at_none None P h = h
at_none (Some x) P h = tt
