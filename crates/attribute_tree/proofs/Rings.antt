-- The rings of children, as a node gets one more.
use Rattle.std.proofs.Common.{◌≡◌, ℕ, zero, suc, ◌<◌, ◌==◌, Bool, true, false, List, [], ◌∷◌, ◌++◌, map, length, Option, Some, None, get_or, slice_set, refl, sym, ap, ap₂, ◌∙◌, subst, arith}
use Rattle.std.specs.Prelude.{unwrap_or}
use Rattle.std.specs.List.{AllByRecursion}
use Rattle.std.proofs.Math.Seq.{get_or-append_seam}
use Rattle.std.proofs.lemmas.Bool.{eqb-true, eqb-false}
use Rattle.std.proofs.lemmas.List.{get_or_append_left, get_or-set_same, get_or-set_other, length-append, length-set, map-append, map-set}
use Rattle.trace_types.proofs.Everywhere.{all_weaker, all_both}
use Rattle.attribute_tree.specs.Nodes.{with_next}
use Rattle.attribute_tree.specs.Links.{LinkLists, GetsChild, AreRings, link_said, links_said, first_said, firsts_said, nexts_said, with_ringed}
use Rattle.attribute_tree.proofs.Said.{said_at, said_set, said_some, first_some, first_is, firsts_length, nexts_push, nexts_set}

all_set : (P : ℕ → Type 0) (numbers : List ℕ) (i n : ℕ) → AllByRecursion P numbers → P n → AllByRecursion P (slice_set numbers i n)
all_set P [] i n h p = tt
all_set P (x ∷ xs) zero n h p = (p, h.1)
all_set P (x ∷ xs) (suc i) n h p = (h.0, all_set P xs i n h.1 p)

-- what is read of numbers that are below m is below m, also past their end
pub below : (numbers : List ℕ) (m i : ℕ) → AllByRecursion (λ n. n < m) numbers → 0 < m → get_or numbers i 0 < m
below [] m i h some = some
below (x ∷ xs) m zero h some = h.0
below (x ∷ xs) m (suc i) h some = below xs m i h.1 some

-- ---- a ring with the new node
ringed_length : (ring : List ℕ) (l n : ℕ) → length (with_ringed ring l n) ≡ suc (length ring)
ringed_length ring zero n = let k = length-append ring (n ∷ []) in omega (arith, k)
ringed_length ring (suc l) n = let k = length-append (slice_set ring (suc l) n) (get_or ring (suc l) 0 ∷ []) in let s = length-set ring (suc l) n in omega (arith, k, s)

-- the new node comes before the first child
ringed_new : (ring : List ℕ) (l n : ℕ) → get_or (with_ringed ring l n) (length ring) 0 ≡ unwrap_or (first_said ring l) n
ringed_new ring zero n = get_or-append_seam ring n [] 0
ringed_new ring (suc l) n = subst (λ j. get_or (with_ringed ring (suc l) n) j 0 ≡ get_or ring (suc l) 0) (length-set ring (suc l) n) (get_or-append_seam (slice_set ring (suc l) n) (get_or ring (suc l) 0) [] 0)

-- other nodes are followed by what followed them
ringed_other : (ring : List ℕ) (l n m : ℕ) → m < length ring → (m ≡ l → ⊥) → get_or (with_ringed ring l n) m 0 ≡ get_or ring m 0
ringed_other ring zero n m within other = get_or_append_left ring (n ∷ []) 0 m within
ringed_other ring (suc l) n m within other = get_or_append_left (slice_set ring (suc l) n) (get_or ring (suc l) 0 ∷ []) 0 m (let s = length-set ring (suc l) n in omega (arith, s, within)) ∙ get_or-set_other ring (suc l) m n 0 other

first_other : (ring : List ℕ) (l n m : ℕ) → m < length ring → (0 < m → m ≡ l → ⊥) → first_said (with_ringed ring l n) m ≡ first_said ring m
first_other ring l n zero within other = refl
first_other ring l n (suc m) within other = ap Some (ringed_other ring l n (suc m) within (other (omega arith)))

-- ---- the first children
same_everywhere : (f g : ℕ → Option ℕ) (xs : List ℕ) → ((i : ℕ) → i < length xs → f (get_or xs i 0) ≡ g (get_or xs i 0)) → map f xs ≡ map g xs
same_everywhere f g [] h = refl
same_everywhere f g (x ∷ xs) h = ap₂ (λ a l. a ∷ l) (h 0 (omega arith)) (same_everywhere f g xs (λ i w. h (suc i) (omega (arith, w))))

same_elsewhere : (f g : ℕ → Option ℕ) (xs : List ℕ) (p : ℕ) (o : Option ℕ) → ((i : ℕ) → i < length xs → (i ≡ p → ⊥) → f (get_or xs i 0) ≡ g (get_or xs i 0)) → slice_set (map f xs) p o ≡ slice_set (map g xs) p o
same_elsewhere f g [] p o h = refl
same_elsewhere f g (x ∷ xs) zero o h = ap (λ l. o ∷ l) (same_everywhere f g xs (λ i w. h (suc i) (omega (arith, w)) (λ e. omega (arith, e))))
same_elsewhere f g (x ∷ xs) (suc p) o h = ap₂ (λ a l. a ∷ l) (h 0 (omega arith) (λ e. omega (arith, e))) (same_elsewhere f g xs p o (λ i w other. h (suc i) (omega (arith, w)) (λ e. other (omega (arith, e)))))

-- ---- what stands in the rings
ringed_within : (ring : List ℕ) (l n m : ℕ) → n < m → AllByRecursion (λ k. k < m) ring → AllByRecursion (λ k. k < m) (with_ringed ring l n)
ringed_within ring zero n m h within = all_both (λ k. k < m) ring (n ∷ []) within (h, tt)
ringed_within ring (suc l) n m h within = all_both (λ k. k < m) (slice_set ring (suc l) n) (get_or ring (suc l) 0 ∷ []) (all_set (λ k. k < m) ring (suc l) n within h) (below ring m (suc l) within (omega (arith, h)), tt)

nexts_grow : (ring : List ℕ) (l n : ℕ) → n ≡ length ring → l < n → AllByRecursion (λ k. k < length ring) ring → nexts_said 0 (with_ringed ring l n) ≡ with_next (nexts_said 0 ring) (link_said l) n ++ None ∷ []
nexts_grow ring zero n e h within = nexts_push ring n (omega (arith, e))
nexts_grow ring (suc l) n e h within =
    let first : get_or ring (suc l) 0 < length ring = below ring (length ring) (suc l) within (omega (arith, e, h)) in
    let long = length-set ring (suc l) n in
    nexts_push (slice_set ring (suc l) n) (get_or ring (suc l) 0) (omega (arith, first, long)) ∙ ap (λ k. k ++ None ∷ []) (nexts_set ring (suc l) n h)

push_none : (numbers : List ℕ) (i : ℕ) → get_or (numbers ++ 0 ∷ []) i 0 ≡ get_or numbers i 0
push_none [] zero = refl
push_none [] (suc i) = refl
push_none (x ∷ xs) zero = refl
push_none (x ∷ xs) (suc i) = push_none xs i

module _ (last ring : List ℕ) (p l n : ℕ) (rings : AreRings last ring) (within : p < length last) (l_is : l ≡ get_or last p 0) (n_is : n ≡ length last) where
  some : 0 < n
  some = omega (arith, within, n_is)

  n_ring : n ≡ length ring
  n_ring = n_is ∙ rings.lasts

  low : (i : ℕ) → get_or last i 0 < length ring
  low i = below last (length ring) i rings.last_within (omega (arith, some, n_ring))

  others : (i : ℕ) → i < length last → (i ≡ p → ⊥) → first_said (with_ringed ring l n) (get_or last i 0) ≡ first_said ring (get_or last i 0)
  others i w other = first_other ring l n (get_or last i 0) (low i) (λ z e. other (rings.apart i p z (e ∙ l_is)))

  new_first : first_said (with_ringed ring l n) n ≡ Some (unwrap_or (get_or (firsts_said ring last) p None) n)
  new_first = first_some (with_ringed ring l n) n some ∙ ap Some (subst (λ j. get_or (with_ringed ring l n) j 0 ≡ unwrap_or (first_said ring l) n) (sym n_ring) (ringed_new ring l n) ∙ ap (λ o. unwrap_or o n) (ap (first_said ring) l_is ∙ sym (first_is ring last p)))

  -- a first child that is there stays, and else it is the new node
  first_comes : firsts_said (with_ringed ring l n) (slice_set last p n ++ 0 ∷ []) ≡ slice_set (firsts_said ring last) p (Some (unwrap_or (get_or (firsts_said ring last) p None) n)) ++ None ∷ []
  first_comes =
      map-append (first_said (with_ringed ring l n)) (slice_set last p n) (0 ∷ [])
      ∙ ap (λ k. k ++ None ∷ []) (map-set (first_said (with_ringed ring l n)) last p n
      ∙ same_elsewhere (first_said (with_ringed ring l n)) (first_said ring) last p (first_said (with_ringed ring l n) n) others
      ∙ ap (slice_set (firsts_said ring last) p) new_first)

  -- ---- the rings stay
  longer : length (with_ringed ring l n) ≡ suc (length ring)
  longer = ringed_length ring l n

  more : (numbers : List ℕ) → AllByRecursion (λ k. k < length ring) numbers → AllByRecursion (λ k. k < length (with_ringed ring l n)) numbers
  more numbers h = all_weaker (λ k. k < length ring) (λ k. k < length (with_ringed ring l n)) numbers (λ k g. omega (arith, g, longer)) h

  at_parent : (i : ℕ) → i ≡ p → get_or (slice_set last p n ++ 0 ∷ []) i 0 ≡ n
  at_parent i e = push_none (slice_set last p n) i ∙ subst (λ j. get_or (slice_set last p n) j 0 ≡ n) (sym e) (get_or-set_same last p n 0 within)

  at_other : (i : ℕ) → (i ≡ p → ⊥) → get_or (slice_set last p n ++ 0 ∷ []) i 0 ≡ get_or last i 0
  at_other i other = push_none (slice_set last p n) i ∙ get_or-set_other last p i n 0 other

  apart_by : (i j : ℕ) (a b : Bool) → (i == p) ≡ a → (j == p) ≡ b → 0 < get_or (slice_set last p n ++ 0 ∷ []) i 0 → get_or (slice_set last p n ++ 0 ∷ []) i 0 ≡ get_or (slice_set last p n ++ 0 ∷ []) j 0 → i ≡ j
  apart_by i j true true e f z same = eqb-true i p e ∙ sym (eqb-true j p f)
  apart_by i j true false e f z same =
      let new : n ≡ get_or last j 0 = sym (at_parent i (eqb-true i p e)) ∙ same ∙ at_other j (eqb-false j p f) in
      absurd (omega (arith, new, low j, n_ring))
  apart_by i j false true e f z same =
      let new : get_or last i 0 ≡ n = sym (at_other i (eqb-false i p e)) ∙ same ∙ at_parent j (eqb-true j p f) in
      absurd (omega (arith, new, low i, n_ring))
  apart_by i j false false e f z same =
      rings.apart i j (subst (λ k. 0 < k) (at_other i (eqb-false i p e)) z) (sym (at_other i (eqb-false i p e)) ∙ same ∙ at_other j (eqb-false j p f))

  pub rings_stay : AreRings (slice_set last p n ++ 0 ∷ []) (with_ringed ring l n)
  rings_stay = record {
    lasts = (let a = length-append (slice_set last p n) (0 ∷ []) in let s = length-set last p n in omega (arith, a, s, longer, rings.lasts));
    last_within = all_both (λ k. k < length (with_ringed ring l n)) (slice_set last p n) (0 ∷ []) (all_set (λ k. k < length (with_ringed ring l n)) last p n (more last rings.last_within) (omega (arith, n_ring, longer))) (omega (arith, longer), tt);
    ring_within = ringed_within ring l n (length (with_ringed ring l n)) (omega (arith, n_ring, longer)) (more ring rings.ring_within);
    apart = λ i j. apart_by i j (i == p) (j == p) refl refl;
  }

  -- the last child so far gets the new node as its next sibling
  next_comes : nexts_said 0 (with_ringed ring l n) ≡ with_next (nexts_said 0 ring) (get_or (links_said last) p None) n ++ None ∷ []
  next_comes = nexts_grow ring l n n_ring (omega (arith, l_is, low p, n_ring)) rings.ring_within ∙ ap (λ o. with_next (nexts_said 0 ring) o n ++ None ∷ []) (ap link_said l_is ∙ sym (said_at last p))

  new_node : n ≡ length (firsts_said ring last)
  new_node = n_is ∙ sym (firsts_length ring last)

  pub gets_child : (room : ℕ) (old new : LinkLists) (grown ringed : List ℕ) → record { first = firsts_said ring last; last = links_said last; next = nexts_said 0 ring; room = room } ≡ old → grown ≡ slice_set last p n ++ 0 ∷ [] → ringed ≡ with_ringed ring l n → new.first ≡ firsts_said ringed grown → new.last ≡ links_said grown → new.next ≡ nexts_said 0 ringed → GetsChild old new p
  gets_child room old new grown ringed e grown_is ringed_is f g h = subst (λ o. GetsChild o new p) e (record {
    first = f ∙ ap₂ firsts_said ringed_is grown_is ∙ first_comes ∙ ap (λ m. slice_set (firsts_said ring last) p (Some (unwrap_or (get_or (firsts_said ring last) p None) m)) ++ None ∷ []) new_node;
    last = g ∙ ap links_said grown_is ∙ said_set last p n ∙ ap (λ (o : Option ℕ). slice_set (links_said last) p o ++ None ∷ []) (said_some n some ∙ ap Some new_node);
    next = h ∙ ap (nexts_said 0) ringed_is ∙ next_comes ∙ ap (λ m. with_next (nexts_said 0 ring) (get_or (links_said last) p None) m ++ None ∷ []) new_node;
  })
