-- The links of nodes, when one more node is made.
use Rattle.std.proofs.Common.{◌≡◌, ℕ, zero, suc, ◌+◌, ◌<◌, ◌≤◌, ◌==◌, Bool, true, false, if◌then◌else◌, List, [], ◌∷◌, ◌++◌, map, length, Option, Some, None, get_or, slice_get, slice_set, rules, refl, sym, ap, ap₂, ◌∙◌, subst, arith, append-nil}
use Rattle.std.specs.Prelude.{unwrap_or, option_map, ◌||◌}
use Rattle.std.proofs.lemmas.Option.{slice_get-map}
use Rattle.std.specs.List.{AllByRecursion, IsDistinct, list_any}
use Rattle.std.proofs.lemmas.Bool.{eq-eqb, ne_eqb}
use Rattle.std.proofs.lemmas.List.{map-append}
use Rattle.std.proofs.lemmas.Map.Keys.{IsDistinct-head, IsDistinct-tail}
use Rattle.trace_types.proofs.Everywhere.{all_weaker, all_both}
use Rattle.attribute_tree.specs.declared.prefix.Prefix.{Prefix}
use Rattle.attribute_tree.specs.Nodes.{same_prefix, parent_of, is_some_prefix, is_child, places, first_of, last_from, is_sibling_by, is_sibling, firsts, lasts, nexts, siblings_at, rest_from, with_next, with_node, children_at, children_of, IsHeld, AreHeld, AreLinked}

pub prefix_is : (p q : Prefix) → same_prefix p q ≡ true → p ≡ q
prefix_is p q h = search rules

pub prefix_itself : (p : Prefix) → same_prefix p p ≡ true
prefix_itself p = search rules

pub turned : (p q : Prefix) → same_prefix p q ≡ false → same_prefix q p ≡ false
turned p q h = by (same_prefix q p) refl
  where
    by : (b : Bool) → same_prefix q p ≡ b → b ≡ false
    by true e = let same : q ≡ p = prefix_is q p e in let k : same_prefix p q ≡ true = subst (λ x. same_prefix p x ≡ true) (sym same) (prefix_itself p) in absurd (cc)
    by false e = refl

-- ---- children
child_parent : (r p : Prefix) (o : Option Prefix) → is_some_prefix o r ≡ true → o ≡ Some r
child_parent r p None h = absurd (cc)
child_parent r p (Some q) h = ap Some (prefix_is q r h)

sibling_is : (r p q : Prefix) → is_child r p ≡ true → is_sibling p q ≡ is_child r q
sibling_is r p q h = ap (λ o. is_sibling_by o q) (child_parent r p (parent_of p) h)

no_sibling : (r p q : Prefix) → parent_of q ≡ Some r → is_child r p ≡ false → is_sibling p q ≡ false
no_sibling r p q e h = by (parent_of p) h
  where
    by : (o : Option Prefix) → is_some_prefix o r ≡ false → is_sibling_by o q ≡ false
    by None k = refl
    by (Some s) k = ap (λ o. is_some_prefix o s) e ∙ turned s r k

own_child : (r q : Prefix) → parent_of q ≡ Some r → is_child r q ≡ true
own_child r q e = ap (λ o. is_some_prefix o r) e ∙ prefix_itself r

-- ---- places
places_push : (test : Prefix → Bool) (k : ℕ) (ps : List Prefix) (q : Prefix) → places test k (ps ++ q ∷ []) ≡ places test k ps ++ (if test q then (k + length ps) ∷ [] else [])
places_push test k [] q = by (test q)
  where
    by : (b : Bool) → (if b then k ∷ [] else []) ≡ [] ++ (if b then (k + 0) ∷ [] else [])
    by true = let same : k ≡ k + 0 = omega arith in ap (λ n. n ∷ []) same
    by false = refl
places_push test k (p ∷ ps) q = by (test p) (places_push test (suc k) ps q ∙ ap (λ n. places test (suc k) ps ++ (if test q then n ∷ [] else [])) next)
  where
    next : suc k + length ps ≡ k + suc (length ps)
    next = omega arith

    by : (b : Bool) → places test (suc k) (ps ++ q ∷ []) ≡ places test (suc k) ps ++ (if test q then (k + suc (length ps)) ∷ [] else [])
        → (if b then k ∷ places test (suc k) (ps ++ q ∷ []) else places test (suc k) (ps ++ q ∷ [])) ≡ (if b then k ∷ places test (suc k) ps else places test (suc k) ps) ++ (if test q then (k + suc (length ps)) ∷ [] else [])
    by true h = ap (λ l. k ∷ l) h
    by false h = h

places_same : (s t : Prefix → Bool) (k : ℕ) (ps : List Prefix) → ((p : Prefix) → s p ≡ t p) → places s k ps ≡ places t k ps
places_same s t k [] h = refl
places_same s t k (p ∷ ps) h = ap₂ (λ b l. if b then k ∷ l else l) (h p) (places_same s t (suc k) ps h)

places_none : (test : Prefix → Bool) (k : ℕ) (ps : List Prefix) → AllByRecursion (λ p. test p ≡ false) ps → places test k ps ≡ []
places_none test k [] h = refl
places_none test k (p ∷ ps) h = rw h.0 (places_none test (suc k) ps h.1)

places_from : (test : Prefix → Bool) (k : ℕ) (ps : List Prefix) (a : ℕ) (as' : List ℕ) → places test k ps ≡ a ∷ as' → k ≤ a
places_from test k [] a as' h = absurd (cc)
places_from test k (p ∷ ps) a as' h = by (test p) h (places_from test (suc k) ps a as')
  where
    by : (b : Bool) → (if b then k ∷ places test (suc k) ps else places test (suc k) ps) ≡ a ∷ as' → (places test (suc k) ps ≡ a ∷ as' → suc k ≤ a) → k ≤ a
    by true h rest = let same : k ≡ a = cc in omega (arith, same)
    by false h rest = omega (arith, rest h)

last_low : (o : Option ℕ) (ns : List ℕ) (k l : ℕ) → ((n : ℕ) → o ≡ Some n → k ≤ n) → AllByRecursion (λ n. k ≤ n) ns → last_from o ns ≡ Some l → k ≤ l
last_low o [] k l h g e = h l e
last_low o (n ∷ ns) k l h g e = last_low (Some n) ns k l (λ m f. let same : n ≡ m = cc in omega (arith, same, g.0)) g.1 e

places_low : (test : Prefix → Bool) (k j : ℕ) (ps : List Prefix) → j ≤ k → AllByRecursion (λ n. j ≤ n) (places test k ps)
places_low test k j [] h = tt
places_low test k j (p ∷ ps) h = by (test p) (places_low test (suc k) j ps (omega (arith, h)))
  where
    by : (b : Bool) → AllByRecursion (λ n. j ≤ n) (places test (suc k) ps) → AllByRecursion (λ n. j ≤ n) (if b then k ∷ places test (suc k) ps else places test (suc k) ps)
    by true g = (h, g)
    by false g = g

first_push : (ns : List ℕ) (m : ℕ) (o : Option ℕ) → first_of ns ≡ o → first_of (ns ++ m ∷ []) ≡ Some (unwrap_or o m)
first_push [] m None e = refl
first_push [] m (Some x) e = absurd (cc)
first_push (n ∷ ns) m None e = absurd (cc)
first_push (n ∷ ns) m (Some x) e = e

last_push : (o : Option ℕ) (ns : List ℕ) (m : ℕ) → last_from o (ns ++ m ∷ []) ≡ Some m
last_push o [] m = refl
last_push o (n ∷ ns) m = last_push (Some n) ns m

last_some : (n : ℕ) (ns : List ℕ) → last_from (Some n) ns ≡ None → ⊥
last_some n [] e = absurd (cc)
last_some n (m ∷ ms) e = last_some m ms e

-- ---- next siblings
set_from : ℕ → List (Option ℕ) → ℕ → Option ℕ → List (Option ℕ)
set_from k [] l v = []
set_from k (n ∷ ns) l v = if l == k then v ∷ ns else n ∷ set_from (suc k) ns l v

set_is : (k : ℕ) (ns : List (Option ℕ)) (i l : ℕ) (v : Option ℕ) → l ≡ k + i → set_from k ns l v ≡ slice_set ns i v
unfolding set_from
set_is k [] i l v e = refl
set_is k (n ∷ ns) zero l v e = rw (eq-eqb l k (omega (arith, e))) refl
set_is k (n ∷ ns) (suc i) l v e = rw (ne_eqb l k (λ s. omega (arith, s, e))) (ap (λ r. n ∷ r) (set_is (suc k) ns i l v (omega (arith, e))))

linked_next : ℕ → Option ℕ → List (Option ℕ) → ℕ → List (Option ℕ)
linked_next k None ns m = ns
linked_next k (Some l) ns m = set_from k ns l (Some m)

next_push : (k : ℕ) (ps : List Prefix) (q r : Prefix) → parent_of q ≡ Some r → (m : ℕ) → m ≡ k + length ps → nexts k (ps ++ q ∷ []) ≡ linked_next k (last_from None (places (is_child r) k ps)) (nexts k ps) m ++ None ∷ []
unfolding linked_next set_from
next_push k [] q r e m same = refl
next_push k (p ∷ ps) q r e m same = by (is_child r p) refl (next_push (suc k) ps q r e m (omega (arith, same)))
  where
    place : suc k + length ps ≡ m
    place = omega (arith, same)

    -- a link that isn't the first of the list
    further : (F : Option ℕ) (o : Option ℕ) → ((l : ℕ) → o ≡ Some l → suc k ≤ l) → nexts (suc k) (ps ++ q ∷ []) ≡ linked_next (suc k) o (nexts (suc k) ps) m ++ None ∷ []
        → F ∷ nexts (suc k) (ps ++ q ∷ []) ≡ linked_next k o (F ∷ nexts (suc k) ps) m ++ None ∷ []
    further F None low rest = ap (λ l. F ∷ l) rest
    further F (Some l) low rest = rw (ne_eqb l k (λ s. omega (arith, s, low l refl))) (ap (λ r. F ∷ r) rest)

    low : (R : List ℕ) → places (is_child r) (suc k) ps ≡ R → (l : ℕ) → last_from None R ≡ Some l → suc k ≤ l
    low R f l g = last_low None R (suc k) l (λ n h. absurd (cc)) (subst (AllByRecursion (λ n. suc k ≤ n)) f (places_low (is_child r) (suc k) (suc k) ps (omega arith))) g

    -- p is a child of r, as q is
    child : is_child r p ≡ true → (R : List ℕ) → places (is_child r) (suc k) ps ≡ R → nexts (suc k) (ps ++ q ∷ []) ≡ linked_next (suc k) (last_from None R) (nexts (suc k) ps) m ++ None ∷ []
        → first_of (places (is_sibling p) (suc k) (ps ++ q ∷ [])) ∷ nexts (suc k) (ps ++ q ∷ []) ≡ linked_next k (last_from (Some k) R) (first_of (places (is_sibling p) (suc k) ps) ∷ nexts (suc k) ps) m ++ None ∷ []
    child c R f rest = at R f rest (here R f) (places_same (is_sibling p) (is_child r) (suc k) ps (λ y. sibling_is r p y c) ∙ f)
      where
        here : (R : List ℕ) → places (is_child r) (suc k) ps ≡ R → places (is_sibling p) (suc k) (ps ++ q ∷ []) ≡ R ++ m ∷ []
        here R f =
            places_same (is_sibling p) (is_child r) (suc k) (ps ++ q ∷ []) (λ y. sibling_is r p y c)
            ∙ (places_push (is_child r) (suc k) ps q
            ∙ (ap (λ (b : Bool). places (is_child r) (suc k) ps ++ (if b then (suc k + length ps) ∷ [] else [])) (own_child r q e)
            ∙ ap₂ (λ l n. l ++ n ∷ []) f place))

        at : (R : List ℕ) → places (is_child r) (suc k) ps ≡ R → nexts (suc k) (ps ++ q ∷ []) ≡ linked_next (suc k) (last_from None R) (nexts (suc k) ps) m ++ None ∷ []
            → places (is_sibling p) (suc k) (ps ++ q ∷ []) ≡ R ++ m ∷ [] → places (is_sibling p) (suc k) ps ≡ R
            → first_of (places (is_sibling p) (suc k) (ps ++ q ∷ [])) ∷ nexts (suc k) (ps ++ q ∷ []) ≡ linked_next k (last_from (Some k) R) (first_of (places (is_sibling p) (suc k) ps) ∷ nexts (suc k) ps) m ++ None ∷ []
        at [] f rest now before = rw (eq-eqb k k refl) (ap₂ (λ a b. a ∷ b) (ap first_of now) rest)
        at (a ∷ as') f rest now before = ap (λ l. first_of l ∷ nexts (suc k) (ps ++ q ∷ [])) now ∙ (further (Some a) (last_from (Some a) as') (λ l g. low (a ∷ as') f l g) rest ∙ ap (λ l. linked_next k (last_from (Some a) as') (first_of l ∷ nexts (suc k) ps) m ++ None ∷ []) (sym before))

    other : is_child r p ≡ false → places (is_sibling p) (suc k) (ps ++ q ∷ []) ≡ places (is_sibling p) (suc k) ps
    other c = places_push (is_sibling p) (suc k) ps q ∙ (ap (λ (b : Bool). places (is_sibling p) (suc k) ps ++ (if b then (suc k + length ps) ∷ [] else [])) (no_sibling r p q e c) ∙ append-nil (places (is_sibling p) (suc k) ps))

    by : (b : Bool) → is_child r p ≡ b → nexts (suc k) (ps ++ q ∷ []) ≡ linked_next (suc k) (last_from None (places (is_child r) (suc k) ps)) (nexts (suc k) ps) m ++ None ∷ []
        → first_of (places (is_sibling p) (suc k) (ps ++ q ∷ [])) ∷ nexts (suc k) (ps ++ q ∷ []) ≡ linked_next k (last_from None (if b then k ∷ places (is_child r) (suc k) ps else places (is_child r) (suc k) ps)) (first_of (places (is_sibling p) (suc k) ps) ∷ nexts (suc k) ps) m ++ None ∷ []
    by true c rest = child c (places (is_child r) (suc k) ps) refl rest
    by false c rest = ap (λ l. first_of l ∷ nexts (suc k) (ps ++ q ∷ [])) (other c) ∙ further (first_of (places (is_sibling p) (suc k) ps)) (last_from None (places (is_child r) (suc k) ps)) (λ l g. low (places (is_child r) (suc k) ps) refl l g) rest

-- what the next siblings are, once a node is made
pub nexts_push : (ps : List Prefix) (q r : Prefix) → parent_of q ≡ Some r → (o : Option ℕ) → last_from None (places (is_child r) 0 ps) ≡ o → nexts 0 (ps ++ q ∷ []) ≡ with_next (nexts 0 ps) o (length ps) ++ None ∷ []
unfolding linked_next
nexts_push ps q r e None f = next_push 0 ps q r e (length ps) (omega arith) ∙ ap (λ o. linked_next 0 o (nexts 0 ps) (length ps) ++ None ∷ []) f
nexts_push ps q r e (Some l) f = next_push 0 ps q r e (length ps) (omega arith) ∙ (ap (λ o. linked_next 0 o (nexts 0 ps) (length ps) ++ None ∷ []) f ∙ ap (λ l. l ++ None ∷ []) (set_is 0 (nexts 0 ps) l l (Some (length ps)) (omega arith)))

-- ---- first and last children
map_same : {X : Type 0} (f g : Prefix → X) (r : Prefix) (xs : List Prefix) → AllByRecursion (λ x. same_prefix r x ≡ false) xs → ((x : Prefix) → same_prefix r x ≡ false → f x ≡ g x) → map f xs ≡ map g xs
map_same f g r [] h e = refl
map_same f g r (x ∷ xs) h e = ap₂ (λ a b. a ∷ b) (e x h.0) (map_same f g r xs h.1 e)

at_place : (xs : List Prefix) (u : ℕ) (r : Prefix) (P : Prefix → Type 0) → slice_get xs u ≡ Some r → AllByRecursion P xs → P r
at_place [] u r P e h = absurd (cc)
at_place (x ∷ xs) zero r P e h = let same : x ≡ r = cc in subst P same h.0
at_place (x ∷ xs) (suc u) r P e h = at_place xs u r P e h.1

-- one node alone has another link
map_set : {X : Type 0} (f g : Prefix → X) (xs : List Prefix) (u : ℕ) (r : Prefix) → IsDistinct same_prefix xs → slice_get xs u ≡ Some r → ((x : Prefix) → same_prefix r x ≡ false → f x ≡ g x) → map f xs ≡ slice_set (map g xs) u (f r)
map_set f g [] u r d s e = absurd (cc)
map_set f g (x ∷ xs) zero r d s e =
    let same : x ≡ r = cc in
    ap₂ (λ a b. a ∷ b) (ap f same) (map_same f g r xs (subst (λ y. AllByRecursion (λ k. same_prefix y k ≡ false) xs) same (IsDistinct-head same_prefix x xs d)) e)
map_set f g (x ∷ xs) (suc u) r d s e =
    ap₂ (λ a b. a ∷ b) (e x (turned x r (at_place xs u r (λ k. same_prefix x k ≡ false) s (IsDistinct-head same_prefix x xs d)))) (map_set f g xs u r (IsDistinct-tail same_prefix x xs d) s e)

any_push : (test : Prefix → Bool) (xs : List Prefix) (y : Prefix) → list_any test xs ≡ true → list_any test (xs ++ y ∷ []) ≡ true
any_push test [] y h = absurd (cc)
any_push test (x ∷ xs) y h = by (test x) h (any_push test xs y)
  where
    by : (b : Bool) → (b || list_any test xs) ≡ true → (list_any test xs ≡ true → list_any test (xs ++ y ∷ []) ≡ true) → (b || list_any test (xs ++ y ∷ [])) ≡ true
    by true h rest = refl
    by false h rest = rest h

held_push : (nodes : List Prefix) (q : Prefix) (o : Option Prefix) → IsHeld nodes o → IsHeld (nodes ++ q ∷ []) o
held_push nodes q None h = tt
held_push nodes q (Some r) h = any_push (same_prefix r) nodes q h

any_at : (xs : List Prefix) (u : ℕ) (r : Prefix) → slice_get xs u ≡ Some r → list_any (same_prefix r) xs ≡ true
any_at [] u r e = absurd (cc)
any_at (x ∷ xs) zero r e = let same : x ≡ r = cc in rw (ap (same_prefix r) same ∙ prefix_itself r) refl
any_at (x ∷ xs) (suc u) r e = by (same_prefix r x) (any_at xs u r e)
  where
    by : (b : Bool) → list_any (same_prefix r) xs ≡ true → (b || list_any (same_prefix r) xs) ≡ true
    by true h = refl
    by false h = h

pub held_more : (nodes : List Prefix) (q r : Prefix) (u : ℕ) → AreHeld nodes → parent_of q ≡ Some r → slice_get nodes u ≡ Some r → AreHeld (nodes ++ q ∷ [])
held_more nodes q r u h e s = all_both (λ p. IsHeld (nodes ++ q ∷ []) (parent_of p)) nodes (q ∷ []) (all_weaker _ _ nodes (λ p k. held_push nodes q (parent_of p) k) h)
    (subst (IsHeld (nodes ++ q ∷ [])) (sym e) (any_push (same_prefix r) nodes q (any_at nodes u r s)), tt)

module _ (nodes : List Prefix) (q r : Prefix) (u : ℕ) (distinct : IsDistinct same_prefix nodes) (held : AreHeld nodes) (parent : parent_of q ≡ Some r) (stands : slice_get nodes u ≡ Some r) (new : list_any (same_prefix q) nodes ≡ false) where
  -- a new node has no child
  childless : (o : Option Prefix) → IsHeld nodes o → is_some_prefix o q ≡ false
  childless None h = refl
  childless (Some s) h = by (same_prefix s q) refl
    where
      by : (b : Bool) → same_prefix s q ≡ b → b ≡ false
      by true e = let same : s ≡ q = prefix_is s q e in let k : list_any (same_prefix q) nodes ≡ true = subst (λ x. list_any (same_prefix x) nodes ≡ true) same h in absurd (cc)
      by false e = refl

  no_child : (k : ℕ) → places (is_child q) k (nodes ++ q ∷ []) ≡ []
  no_child k = places_none (is_child q) k (nodes ++ q ∷ []) (all_both (λ p. is_child q p ≡ false) nodes (q ∷ []) (all_weaker _ _ nodes (λ p h. childless (parent_of p) h) held) (childless (parent_of q) (subst (IsHeld nodes) (sym parent) (any_at nodes u r stands)), tt))

  -- only the parent has another child
  other_children : (x : Prefix) → same_prefix r x ≡ false → places (is_child x) 0 (nodes ++ q ∷ []) ≡ places (is_child x) 0 nodes
  other_children x h =
      places_push (is_child x) 0 nodes q
      ∙ (ap (λ (b : Bool). places (is_child x) 0 nodes ++ (if b then (0 + length nodes) ∷ [] else [])) (ap (λ o. is_some_prefix o x) parent ∙ h) ∙ append-nil (places (is_child x) 0 nodes))

  parent_children : places (is_child r) 0 (nodes ++ q ∷ []) ≡ places (is_child r) 0 nodes ++ length nodes ∷ []
  parent_children = let same : 0 + length nodes ≡ length nodes = omega arith in
      places_push (is_child r) 0 nodes q ∙ (ap (λ (b : Bool). places (is_child r) 0 nodes ++ (if b then (0 + length nodes) ∷ [] else [])) (own_child r q parent) ∙ ap (λ n. places (is_child r) 0 nodes ++ n ∷ []) same)

  pub lasts_push : lasts (nodes ++ q ∷ []) ≡ slice_set (lasts nodes) u (Some (length nodes)) ++ None ∷ []
  lasts_push =
      map-append (λ p. last_from None (places (is_child p) 0 (nodes ++ q ∷ []))) nodes (q ∷ [])
      ∙ ap₂ (λ a b. a ++ b ∷ [])
      (map_set (λ p. last_from None (places (is_child p) 0 (nodes ++ q ∷ []))) (λ p. last_from None (places (is_child p) 0 nodes)) nodes u r distinct stands (λ x h. ap (last_from None) (other_children x h))
      ∙ ap (λ l. slice_set (lasts nodes) u (last_from None l)) parent_children ∙ ap (slice_set (lasts nodes) u) (last_push None (places (is_child r) 0 nodes) (length nodes)))
      (ap (last_from None) (no_child 0))

  -- the first child of the parent stays where there is one
  pub firsts_push : (o : Option ℕ) → first_of (places (is_child r) 0 nodes) ≡ o → firsts (nodes ++ q ∷ []) ≡ slice_set (firsts nodes) u (Some (unwrap_or o (length nodes))) ++ None ∷ []
  firsts_push o f =
      map-append (λ p. first_of (places (is_child p) 0 (nodes ++ q ∷ []))) nodes (q ∷ [])
      ∙ ap₂ (λ a b. a ++ b ∷ [])
      (map_set (λ p. first_of (places (is_child p) 0 (nodes ++ q ∷ []))) (λ p. first_of (places (is_child p) 0 nodes)) nodes u r distinct stands (λ x h. ap first_of (other_children x h))
      ∙ ap (λ l. slice_set (firsts nodes) u (first_of l)) parent_children ∙ ap (slice_set (firsts nodes) u) (first_push (places (is_child r) 0 nodes) (length nodes) o f))
      (ap first_of (no_child 0))

-- ---- walking along siblings
walk : (r : Prefix) (k : ℕ) (ps : List Prefix) (a : ℕ) (as' : List ℕ) (n : ℕ) → places (is_child r) k ps ≡ a ∷ as' → a ≡ k + n → siblings_at k n ps ≡ as'
walk r k [] a as' n h e = absurd (cc)
walk r k (p ∷ ps) a as' n h e = by (is_child r p) refl n h e (walk r (suc k) ps a as')
  where
    by : (b : Bool) → is_child r p ≡ b → (n : ℕ) → (if b then k ∷ places (is_child r) (suc k) ps else places (is_child r) (suc k) ps) ≡ a ∷ as' → a ≡ k + n
        → ((n : ℕ) → places (is_child r) (suc k) ps ≡ a ∷ as' → a ≡ suc k + n → siblings_at (suc k) n ps ≡ as') → siblings_at k n (p ∷ ps) ≡ as'
    by true c zero h e rest = let same : places (is_child r) (suc k) ps ≡ as' = cc in places_same (is_sibling p) (is_child r) (suc k) ps (λ y. sibling_is r p y c) ∙ same
    by true c (suc n) h e rest = let same : k ≡ a = cc in absurd (omega (arith, same, e))
    by false c zero h e rest = absurd (omega (arith, e, places_from (is_child r) (suc k) ps a as' h))
    by false c (suc n) h e rest = rest n h (omega (arith, e))

no_places : (k : ℕ) (ps : List Prefix) → places (λ q. false) k ps ≡ []
no_places k [] = refl
no_places k (p ∷ ps) = no_places (suc k) ps

siblings_from : (k n : ℕ) (ps : List Prefix) (b : ℕ) (bs : List ℕ) → siblings_at k n ps ≡ b ∷ bs → k < b
siblings_from k n [] b bs h = absurd (cc)
siblings_from k zero (p ∷ ps) b bs h = omega (arith, places_from (is_sibling p) (suc k) ps b bs h)
siblings_from k (suc n) (p ∷ ps) b bs h = omega (arith, siblings_from (suc k) n ps b bs h)

walk_on : (k n : ℕ) (ps : List Prefix) (b : ℕ) (bs : List ℕ) (m : ℕ) → siblings_at k n ps ≡ b ∷ bs → b ≡ k + m → siblings_at k m ps ≡ bs
walk_on k n [] b bs m h e = absurd (cc)
walk_on k zero (p ∷ ps) b bs zero h e = absurd (omega (arith, e, siblings_from k zero (p ∷ ps) b bs h))
walk_on k zero (p ∷ ps) b bs (suc m) h e = by (parent_of p) h
  where
    by : (o : Option Prefix) → places (is_sibling_by o) (suc k) ps ≡ b ∷ bs → siblings_at (suc k) m ps ≡ bs
    by None g = let none = no_places (suc k) ps in absurd (cc)
    by (Some r) g = walk r (suc k) ps b bs m g (omega (arith, e))
walk_on k (suc n) (p ∷ ps) b bs zero h e = absurd (omega (arith, e, siblings_from k (suc n) (p ∷ ps) b bs h))
walk_on k (suc n) (p ∷ ps) b bs (suc m) h e = walk_on (suc k) n ps b bs m h (omega (arith, e))

pub rest_children : (nodes : List Prefix) (r : Prefix) (cs : List ℕ) → places (is_child r) 0 nodes ≡ cs → rest_from nodes (first_of cs) ≡ cs
rest_children nodes r [] h = refl
rest_children nodes r (a ∷ as') h = ap (λ l. a ∷ l) (walk r 0 nodes a as' a h (omega arith))

pub rest_siblings : (nodes : List Prefix) (n : ℕ) (cs : List ℕ) → siblings_at 0 n nodes ≡ cs → rest_from nodes (first_of cs) ≡ cs
rest_siblings nodes n [] h = refl
rest_siblings nodes n (b ∷ bs) h = ap (λ l. b ∷ l) (walk_on 0 n nodes b bs b h (omega arith))

-- the links as they are read
first_at : (nodes ps : List Prefix) (u : ℕ) → get_or (map (λ p. first_of (places (is_child p) 0 nodes)) ps) u None ≡ first_of (children_at nodes (slice_get ps u))
first_at nodes [] u = refl
first_at nodes (p ∷ ps) zero = refl
first_at nodes (p ∷ ps) (suc u) = first_at nodes ps u

next_at : (k : ℕ) (ps : List Prefix) (u : ℕ) → get_or (nexts k ps) u None ≡ first_of (siblings_at k u ps)
next_at k [] u = refl
next_at k (p ∷ ps) zero = refl
next_at k (p ∷ ps) (suc u) = next_at (suc k) ps u

length_map : {X : Type 0} (f : Prefix → X) (ps : List Prefix) → length (map f ps) ≡ length ps
length_map f [] = refl
length_map f (p ∷ ps) = ap suc (length_map f ps)

pub length_nexts : (k : ℕ) (ps : List Prefix) → length (nexts k ps) ≡ length ps
length_nexts k [] = refl
length_nexts k (p ∷ ps) = ap suc (length_nexts (suc k) ps)

-- ---- all links, once a node is made
map_at : {X : Type 0} (f : Prefix → X) (nodes : List Prefix) (u : ℕ) (o : X) → slice_get (map f nodes) u ≡ Some o → (p : Prefix) → slice_get nodes u ≡ Some p → f p ≡ o
map_at f nodes u o h p s = let both : Some (f p) ≡ Some o = sym (ap (option_map f) s) ∙ (sym (slice_get-map f nodes u) ∙ h) in cc

module _ {f l n : List (Option ℕ)} (nodes : List Prefix) (links : AreLinked nodes f l n) where
  pub linked_push : (q r : Prefix) (u : ℕ) (a b : Option ℕ) → parent_of q ≡ Some r → slice_get nodes u ≡ Some r → list_any (same_prefix q) nodes ≡ false → IsDistinct same_prefix (nodes ++ q ∷ [])
      → slice_get f u ≡ Some a → slice_get l u ≡ Some b
      → AreLinked (nodes ++ q ∷ []) (slice_set f u (Some (unwrap_or a (length nodes))) ++ None ∷ []) (slice_set l u (Some (length nodes)) ++ None ∷ []) (with_next n b (length nodes) ++ None ∷ [])
  linked_push q r u a b parent stands new distinct first last =
      let first_is : first_of (places (is_child r) 0 nodes) ≡ a = map_at (λ p. first_of (places (is_child p) 0 nodes)) nodes u a (ap (λ x. slice_get x u) (sym links.first) ∙ first) r stands in
      let last_is : last_from None (places (is_child r) 0 nodes) ≡ b = map_at (λ p. last_from None (places (is_child p) 0 nodes)) nodes u b (ap (λ x. slice_get x u) (sym links.last) ∙ last) r stands in
      record {
        first = ap (λ x. slice_set x u (Some (unwrap_or a (length nodes))) ++ None ∷ []) links.first ∙ sym (firsts_push nodes q r u links.distinct links.held parent stands new a first_is);
        last = ap (λ x. slice_set x u (Some (length nodes)) ++ None ∷ []) links.last ∙ sym (lasts_push nodes q r u links.distinct links.held parent stands new);
        next = ap (λ x. with_next x b (length nodes) ++ None ∷ []) links.next ∙ sym (nexts_push nodes q r parent b last_is);
        distinct = distinct;
        held = held_more nodes q r u links.held parent stands;
      }

  pub first_link : (u : ℕ) → get_or f u None ≡ first_of (children_of nodes u)
  first_link u = ap (λ x. get_or x u None) links.first ∙ first_at nodes nodes u

  pub next_link : (u : ℕ) → get_or n u None ≡ first_of (siblings_at 0 u nodes)
  next_link u = ap (λ x. get_or x u None) links.next ∙ next_at 0 nodes u

  pub lengths : (length f ≡ length nodes) × (length l ≡ length nodes) × (length n ≡ length nodes)
  lengths = (
    ap length links.first ∙ length_map (λ p. first_of (places (is_child p) 0 nodes)) nodes,
    ap length links.last ∙ length_map (λ p. last_from None (places (is_child p) 0 nodes)) nodes,
    ap length links.next ∙ length_nexts 0 nodes,
  )

pub with_new : (nodes : List Prefix) (q : Prefix) → list_any (same_prefix q) nodes ≡ false → with_node nodes q ≡ nodes ++ q ∷ []
with_new nodes q h = rw h refl

-- the children of any number
pub rest_children_of : (nodes : List Prefix) (n : ℕ) → rest_from nodes (first_of (children_of nodes n)) ≡ children_of nodes n
rest_children_of nodes n = by (slice_get nodes n)
  where
    by : (o : Option Prefix) → rest_from nodes (first_of (children_at nodes o)) ≡ children_at nodes o
    by None = refl
    by (Some p) = rest_children nodes p (places (is_child p) 0 nodes) refl
