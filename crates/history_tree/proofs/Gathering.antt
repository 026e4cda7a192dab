-- What is gathered over a range from nodes, and how many of them are read.
use Rattle.std.proofs.Common.{◌≡◌, ◌⊎◌, inl, inr, ℕ, zero, suc, ◌+◌, ◌<◌, ◌≤◌, Bool, true, false, ◌&&◌, ◌==◌, nat_le, cond, eqb, List, [], ◌∷◌, ◌++◌, length, map, filter, flat_map, take, refl, sym, ◌∙◌, subst, arith}
use Rattle.std.specs.List.{AllByRecursion, IsDistinct, slice_index}
use Rattle.std.specs.List.Sorted.{IsStrictlyIncreasing}
use Rattle.std.proofs.lemmas.Bool.{leb-true, eqb-true, le-leb, eq-eqb}
use Rattle.std.proofs.lemmas.List.Filters.{length-filter_more}
use Rattle.std.proofs.lemmas.Map.Keys.{IsDistinct-cons, IsDistinct-from_apart}
use Rattle.history_nodes.specs.declared.interval.Interval.{Interval}
use Rattle.history_nodes.specs.declared.node.Node.{Node}
use Rattle.history_nodes.specs.Nodes.{node_at, opened}
use Rattle.history_tree.specs.Records.{records_of, IsApart, AreApart}
use Rattle.history_tree.specs.Tree.{IsAmong}
use Rattle.history_tree.specs.declared.over.Sought.{Sought}
use Rattle.history_tree.specs.Over.{IsMet, meets, is_sought, may_hold, sought_in, start_in}
use Rattle.history_tree.proofs.Stored.{all_left, all_both}
use Rattle.history_tree.proofs.Contents.{IsMember, member_left, member_right, member_split, member_has, all_members}
use Rattle.history_tree.proofs.Seeking.{node_member}
use Rattle.history_tree.proofs.Indexing.{member_there}

-- ---- numbers that rise
abbrev pub Rises : ℕ → List ℕ → Type 0
Rises k [] = Unit {0}
Rises k (n ∷ ns) = (k ≤ n) × Rises (n + 1) ns

pub rises : (ns : List ℕ) (k : ℕ) → IsStrictlyIncreasing ns → ((n : ℕ) (ms : List ℕ) → ns ≡ n ∷ ms → k ≤ n) → Rises k ns
rises [] k h g = tt
rises (n ∷ ns) k h g = (g n ns refl, rises ns (n + 1) tail (λ m ms e. next m ms e))
  where
    tail : IsStrictlyIncreasing ns
    tail j lt =
        let e : suc j + 1 ≡ suc (j + 1) = omega arith in
        subst (λ m. slice_index (n ∷ ns) (suc j) < slice_index (n ∷ ns) m) e (h (suc j) (omega (arith, lt)))

    next : (m : ℕ) (ms : List ℕ) → ns ≡ m ∷ ms → n + 1 ≤ m
    next m ms e = let up : IsStrictlyIncreasing (n ∷ (m ∷ ms)) = subst (λ l. IsStrictlyIncreasing (n ∷ l)) e h in omega (arith, up 0 (omega arith))

pub rises_high : (ns : List ℕ) (k m : ℕ) → Rises k ns → IsAmong m ns → k ≤ m
rises_high [] k m h a = absurd a
rises_high (n ∷ ns) k m h (inl e) = omega (arith, h.0, e)
rises_high (n ∷ ns) k m h (inr a) = omega (arith, h.0, rises_high ns (n + 1) m h.1 a)

-- numbers that rise and lie below another are no more than that
pub rises_few : (ns : List ℕ) (k m : ℕ) → Rises k ns → AllByRecursion (λ n. n < m) ns → k ≤ m → length ns + k ≤ m
rises_few [] k m h b le = omega (arith, le)
rises_few (n ∷ ns) k m h b le = omega (arith, h.0, rises_few ns (n + 1) m h.1 b.1 (omega (arith, b.0)))

-- ---- how many are read
pub fewer_kept : {X : Type 0} (p : X → Bool) (xs : List X) (k n : ℕ) → k ≤ n → length (filter p (take k xs)) ≤ length (filter p (take n xs))
fewer_kept p [] zero zero le = omega arith
fewer_kept p [] zero (suc n) le = omega arith
fewer_kept p [] (suc k) zero le = omega arith
fewer_kept p [] (suc k) (suc n) le = omega arith
fewer_kept p (x ∷ xs) zero n le = omega arith
fewer_kept p (x ∷ xs) (suc k) zero le = absurd (omega (arith, le))
fewer_kept p (x ∷ xs) (suc k) (suc n) le = by (p x) (fewer_kept p xs k n (omega (arith, le)))
  where
    by : (b : Bool) → length (filter p (take k xs)) ≤ length (filter p (take n xs)) → length (cond b (x ∷ filter p (take k xs)) (filter p (take k xs))) ≤ length (cond b (x ∷ filter p (take n xs)) (filter p (take n xs)))
    by true h = omega (arith, h)
    by false h = h

pub kept_all : {X : Type 0} (p : X → Bool) (xs : List X) (k : ℕ) → length (filter p (take k xs)) ≤ length (filter p xs)
kept_all p [] zero = omega arith
kept_all p [] (suc k) = omega arith
kept_all p (x ∷ xs) zero = omega arith
kept_all p (x ∷ xs) (suc k) = by (p x) (kept_all p xs k)
  where
    by : (b : Bool) → length (filter p (take k xs)) ≤ length (filter p xs) → length (cond b (x ∷ filter p (take k xs)) (filter p (take k xs))) ≤ length (cond b (x ∷ filter p xs) (filter p xs))
    by true h = omega (arith, h)
    by false h = h

pub kept_few : {X : Type 0} (p : X → Bool) (xs : List X) → length (filter p xs) ≤ length xs
kept_few p [] = omega arith
kept_few p (x ∷ xs) = by (p x) (kept_few p xs)
  where
    by : (b : Bool) → length (filter p xs) ≤ length xs → length (cond b (x ∷ filter p xs) (filter p xs)) ≤ suc (length xs)
    by true h = omega (arith, h)
    by false h = omega (arith, h)

pub counted_from : (sought : Sought) (nodes : List Node) (ns : List ℕ) (k : ℕ) → Rises k ns → AllByRecursion (λ n. n < length nodes) ns
    → length (filter (may_hold sought nodes) ns) + length (filter (meets sought.from sought.to) (take k nodes)) ≤ length (filter (meets sought.from sought.to) nodes)
counted_from sought nodes [] k h b = let all = kept_all (meets sought.from sought.to) nodes k in omega (arith, all)
counted_from sought nodes (n ∷ ns) k h b = by (may_hold sought nodes n) (length-filter_more (meets sought.from sought.to) nodes n (opened 0 0) b.0) (fewer_kept (meets sought.from sought.to) nodes k n h.0) (counted_from sought nodes ns (n + 1) h.1 b.1)
  where
    rest : List ℕ
    rest = filter (may_hold sought nodes) ns

    test : Node → Bool
    test = meets sought.from sought.to

    by : (m : Bool) → length (filter test (take (n + 1) nodes)) ≡ length (filter test (take n nodes)) + cond m 1 0 → length (filter test (take k nodes)) ≤ length (filter test (take n nodes))
        → length rest + length (filter test (take (n + 1) nodes)) ≤ length (filter test nodes) → length (cond m (n ∷ rest) rest) + length (filter test (take k nodes)) ≤ length (filter test nodes)
    by true e le g = omega (arith, e, le, g)
    by false e le g = omega (arith, e, le, g)

-- of nodes that differ no more meet the range than of all
pub counted : (sought : Sought) (nodes : List Node) (ns : List ℕ) → Rises 0 ns → AllByRecursion (λ n. n < length nodes) ns → length (filter (may_hold sought nodes) ns) ≤ length (filter (meets sought.from sought.to) nodes)
counted sought nodes ns h b = let c = counted_from sought nodes ns 0 h b in omega (arith, c)

-- ---- what is gathered
pub both : (a b : Bool) → (a && b) ≡ true → (a ≡ true) × (b ≡ true)
both true true h = (refl, refl)
both true false h = absurd (cc)
both false b h = absurd (cc)

pub sought_split : (sought : Sought) (i : Interval) → is_sought sought i ≡ true → (i.number ≡ sought.number) × IsMet sought.from sought.to i
sought_split sought i h =
    let p = both (i.number == sought.number) (nat_le i.start sought.to && nat_le sought.from i.end) h in
    let q = both (nat_le i.start sought.to) (nat_le sought.from i.end) p.1 in
    (eqb-true i.number sought.number p.0, record { begins = leb-true i.start sought.to q.0; lasts = leb-true sought.from i.end q.1 })

pub sought_is : (sought : Sought) (i : Interval) → i.number ≡ sought.number → IsMet sought.from sought.to i → is_sought sought i ≡ true
sought_is sought i e m = rw (eq-eqb i.number sought.number e, le-leb i.start sought.to m.begins, le-leb sought.from i.end m.lasts) refl

pub kept_member : (p : Interval → Bool) (xs : List Interval) (i : Interval) → IsMember i xs → p i ≡ true → IsMember i (filter p xs)
kept_member p [] i m h = absurd m
kept_member p (x ∷ xs) i (inl e) h = by (p x) refl
  where
    by : (b : Bool) → p x ≡ b → IsMember i (cond b (x ∷ filter p xs) (filter p xs))
    by true g = inl e
    by false g = let no : p i ≡ false = subst (λ (k : Interval). p k ≡ false) e g in absurd (cc)
kept_member p (x ∷ xs) i (inr m) h = by (p x) (kept_member p xs i m h)
  where
    by : (b : Bool) → IsMember i (filter p xs) → IsMember i (cond b (x ∷ filter p xs) (filter p xs))
    by true k = inr k
    by false k = k

pub member_kept : (p : Interval → Bool) (xs : List Interval) (i : Interval) → IsMember i (filter p xs) → IsMember i xs × (p i ≡ true)
member_kept p [] i m = absurd m
member_kept p (x ∷ xs) i m = by (p x) refl m (member_kept p xs i)
  where
    by : (b : Bool) → p x ≡ b → IsMember i (cond b (x ∷ filter p xs) (filter p xs)) → (IsMember i (filter p xs) → IsMember i xs × (p i ≡ true)) → IsMember i (x ∷ xs) × (p i ≡ true)
    by true g (inl e) rest = (inl e, subst (λ (k : Interval). p k ≡ true) e g)
    by true g (inr k) rest = let r = rest k in (inr r.0, r.1)
    by false g k rest = let r = rest k in (inr r.0, r.1)

-- where an interval was gathered
pub record IsGathered (sought : Sought) (nodes : List Node) (ns : List ℕ) (i : Interval) : Type 0 where
  pub node : ℕ
  pub among : IsAmong node ns
  pub member : IsMember i (node_at nodes node).intervals
  pub sought_for : is_sought sought i ≡ true

pub in_node : (sought : Sought) (nodes : List Node) (n : ℕ) (i : Interval) → IsMember i (sought_in sought nodes n) → IsMember i (node_at nodes n).intervals × (is_sought sought i ≡ true)
in_node sought nodes n i m = by (may_hold sought nodes n) m
  where
    by : (b : Bool) → IsMember i (cond b (filter (is_sought sought) (node_at nodes n).intervals) []) → IsMember i (node_at nodes n).intervals × (is_sought sought i ≡ true)
    by true m = member_kept (is_sought sought) (node_at nodes n).intervals i m
    by false m = absurd m

pub gathered : (sought : Sought) (nodes : List Node) (ns : List ℕ) (i : Interval) → IsMember i (flat_map (sought_in sought nodes) ns) → IsGathered sought nodes ns i
gathered sought nodes [] i m = absurd m
gathered sought nodes (n ∷ ns) i m = by (member_split i (sought_in sought nodes n) (flat_map (sought_in sought nodes) ns) m) (gathered sought nodes ns i)
  where
    by : IsMember i (sought_in sought nodes n) ⊎ IsMember i (flat_map (sought_in sought nodes) ns) → (IsMember i (flat_map (sought_in sought nodes) ns) → IsGathered sought nodes ns i) → IsGathered sought nodes (n ∷ ns) i
    by (inl a) rest = let h = in_node sought nodes n i a in record { node = n; among = inl refl; member = h.0; sought_for = h.1 }
    by (inr a) rest = let r = rest a in record { node = r.node; among = inr r.among; member = r.member; sought_for = r.sought_for }

pub gathers : (sought : Sought) (nodes : List Node) (ns : List ℕ) (n : ℕ) (i : Interval) → IsAmong n ns → may_hold sought nodes n ≡ true → IsMember i (node_at nodes n).intervals → is_sought sought i ≡ true → IsMember i (flat_map (sought_in sought nodes) ns)
gathers sought nodes [] n i a may m h = absurd a
gathers sought nodes (k ∷ ns) n i (inl e) may m h =
    member_left i (sought_in sought nodes k) (flat_map (sought_in sought nodes) ns) (subst (λ j. IsMember i (sought_in sought nodes j)) (sym e) (rw may (kept_member (is_sought sought) (node_at nodes n).intervals i m h)))
gathers sought nodes (k ∷ ns) n i (inr a) may m h = member_right i (sought_in sought nodes k) (flat_map (sought_in sought nodes) ns) (gathers sought nodes ns n i a may m h)

-- ---- apart
pub apart_left : (xs ys : List Interval) → AreApart (xs ++ ys) → AreApart xs
apart_left [] ys h = tt
apart_left (x ∷ xs) ys h = (all_left (IsApart x) xs ys h.0, apart_left xs ys h.1)

pub apart_right : (xs ys : List Interval) → AreApart (xs ++ ys) → AreApart ys
apart_right [] ys h = h
apart_right (x ∷ xs) ys h = apart_right xs ys h.1

pub apart_across : (xs ys : List Interval) (i j : Interval) → AreApart (xs ++ ys) → IsMember i xs → IsMember j ys → IsApart i j
apart_across [] ys i j h a b = absurd a
apart_across (x ∷ xs) ys i j h (inl e) b = subst (λ (k : Interval). IsApart k j) e (member_has (IsApart x) (xs ++ ys) j h.0 (member_right j xs ys b))
apart_across (x ∷ xs) ys i j h (inr a) b = apart_across xs ys i j h.1 a b

pub apart_both : (xs ys : List Interval) → AreApart xs → AreApart ys → ((i j : Interval) → IsMember i xs → IsMember j ys → IsApart i j) → AreApart (xs ++ ys)
apart_both [] ys h g c = g
apart_both (x ∷ xs) ys h g c = (all_both (IsApart x) xs ys h.0 (all_members (IsApart x) ys (λ j m. c x j (inl refl) m)), apart_both xs ys h.1 g (λ i j a b. c i j (inr a) b))

pub apart_kept : (p : Interval → Bool) (xs : List Interval) → AreApart xs → AreApart (filter p xs)
apart_kept p [] h = tt
apart_kept p (x ∷ xs) h = by (p x) (apart_kept p xs h.1)
  where
    by : (b : Bool) → AreApart (filter p xs) → AreApart (cond b (x ∷ filter p xs) (filter p xs))
    by true g = (all_members (IsApart x) (filter p xs) (λ j m. member_has (IsApart x) xs j h.0 (member_kept p xs j m).0), g)
    by false g = g

pub node_apart : (nodes : List Node) (n : ℕ) → AreApart (records_of nodes) → AreApart (node_at nodes n).intervals
node_apart [] n h = tt
node_apart (x ∷ xs) zero h = apart_left x.intervals (records_of xs) h
node_apart (x ∷ xs) (suc n) h = node_apart xs n (apart_right x.intervals (records_of xs) h)

pub nodes_apart : (nodes : List Node) (m n : ℕ) (i j : Interval) → AreApart (records_of nodes) → m < n → IsMember i (node_at nodes m).intervals → IsMember j (node_at nodes n).intervals → IsApart i j
nodes_apart [] m n i j h lt a b = absurd a
nodes_apart (x ∷ xs) zero zero i j h lt a b = absurd (omega (arith, lt))
nodes_apart (x ∷ xs) zero (suc n) i j h lt a b = apart_across x.intervals (records_of xs) i j h a (node_member xs n j (member_there xs n j b) b)
nodes_apart (x ∷ xs) (suc m) zero i j h lt a b = absurd (omega (arith, lt))
nodes_apart (x ∷ xs) (suc m) (suc n) i j h lt a b = nodes_apart xs m n i j (apart_right x.intervals (records_of xs) h) (omega (arith, lt)) a b

pub gathered_apart : (sought : Sought) (nodes : List Node) (ns : List ℕ) (k : ℕ) → AreApart (records_of nodes) → Rises k ns → AreApart (flat_map (sought_in sought nodes) ns)
gathered_apart sought nodes [] k h up = tt
gathered_apart sought nodes (n ∷ ns) k h up =
    apart_both (sought_in sought nodes n) (flat_map (sought_in sought nodes) ns) (here (may_hold sought nodes n)) (gathered_apart sought nodes ns (n + 1) h up.1)
    (λ i j a b. let g = gathered sought nodes ns j b in nodes_apart nodes n g.node i j h (omega (arith, rises_high ns (n + 1) g.node up.1 g.among)) (in_node sought nodes n i a).0 g.member)
  where
    here : (b : Bool) → AreApart (cond b (filter (is_sought sought) (node_at nodes n).intervals) [])
    here true = apart_kept (is_sought sought) (node_at nodes n).intervals (node_apart nodes n h)
    here false = tt

-- ---- starts that differ
no_starts : IsDistinct eqb []
no_starts = IsDistinct-from_apart eqb [] (λ i j d h g. absurd (omega arith))

pub unlike : (a b : ℕ) → (a ≡ b → ⊥) → eqb a b ≡ false
unlike a b h = by (eqb a b) refl
  where
    by : (k : Bool) → eqb a b ≡ k → k ≡ false
    by true e = absurd (h (eqb-true a b e))
    by false e = refl

pub starts_differ : (number : ℕ) (xs : List Interval) → AreApart xs → AllByRecursion (λ i. i.number ≡ number) xs → IsDistinct eqb (map start_in xs)
starts_differ number [] h of = no_starts
starts_differ number (x ∷ xs) h of = IsDistinct-cons eqb x.start (map start_in xs) (each xs h.0 of.1) (starts_differ number xs h.1 of.1)
  where
    each : (ys : List Interval) → AllByRecursion (IsApart x) ys → AllByRecursion (λ i. i.number ≡ number) ys → AllByRecursion (λ s. eqb x.start s ≡ false) (map start_in ys)
    each [] a o = tt
    each (y ∷ ys) a o =
        (unlike x.start y.start (λ e. a.0 (of.0 ∙ sym o.0) x.start (record { begun = omega arith; lasts = x.ordered }) (record { begun = omega (arith, e); lasts = omega (arith, e, y.ordered) })), each ys a.1 o.1)
