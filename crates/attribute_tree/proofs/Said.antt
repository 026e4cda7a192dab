-- The links that two lists of numbers say.
use Rattle.std.proofs.Common.{◌≡◌, ℕ, zero, suc, ◌+◌, ◌<◌, ◌≤◌, Bool, true, false, nat_lt, if◌then◌else◌, List, [], ◌∷◌, ◌++◌, length, Option, Some, None, get_or, slice_set, refl, sym, ap, ◌∙◌, arith}
use Rattle.std.specs.Bool.{then_some}
use Rattle.std.proofs.Math.ListN.{get_or-map}
use Rattle.std.proofs.lemmas.Bool.{lt-ltb, le-ltb}
use Rattle.std.proofs.lemmas.List.{get_or_default, get_or_past, length-map, map-append, map-set}
use Rattle.attribute_tree.specs.Links.{link_said, links_said, first_said, firsts_said, next_said, nexts_said, rooted_links}

pub said_some : (n : ℕ) → 0 < n → link_said n ≡ Some n
said_some zero h = absurd (omega arith)
said_some (suc n) h = refl

-- what is read within a list is there whatever stands for its end
pub read_at : (numbers : List ℕ) (i n : ℕ) → i < length numbers → n ≡ get_or numbers i n → n ≡ get_or numbers i 0
read_at numbers i n within e = e ∙ get_or_default numbers i n 0 within

-- the link of a node
pub said_at : (numbers : List ℕ) (i : ℕ) → get_or (links_said numbers) i None ≡ link_said (get_or numbers i 0)
said_at numbers i = get_or-map link_said numbers i 0

-- the links once one is set, and a node without it is added
pub said_set : (numbers : List ℕ) (i n : ℕ) → links_said (slice_set numbers i n ++ 0 ∷ []) ≡ slice_set (links_said numbers) i (link_said n) ++ None ∷ []
said_set numbers i n = map-append link_said (slice_set numbers i n) (0 ∷ []) ∙ ap (λ l. l ++ None ∷ []) (map-set link_said numbers i n)

-- ---- first children
pub first_some : (ring : List ℕ) (l : ℕ) → 0 < l → first_said ring l ≡ Some (get_or ring l 0)
first_some ring zero h = absurd (omega arith)
first_some ring (suc l) h = refl

pub first_is : (ring last : List ℕ) (i : ℕ) → get_or (firsts_said ring last) i None ≡ first_said ring (get_or last i 0)
first_is ring last i = get_or-map (first_said ring) last i 0

pub firsts_length : (ring last : List ℕ) → length (firsts_said ring last) ≡ length last
firsts_length ring last = length-map last (first_said ring)

-- ---- next siblings
pub next_some : (k n : ℕ) → k < n → next_said k n ≡ Some n
next_some k n h = ap (λ b. if b then Some n else None) (lt-ltb k n h)

pub next_none : (k n : ℕ) → n ≤ k → next_said k n ≡ None
next_none k n h = ap (λ b. if b then Some n else None) (le-ltb k n h)

nexts_at : (k i : ℕ) (ring : List ℕ) → get_or (nexts_said k ring) i None ≡ next_said (k + i) (get_or ring i 0)
nexts_at k i [] = sym (next_none (k + i) 0 (omega arith))
nexts_at k zero (n ∷ ns) = let same : k ≡ k + 0 = omega arith in ap (λ j. next_said j n) same
nexts_at k (suc i) (n ∷ ns) = let same : suc k + i ≡ k + suc i = omega arith in nexts_at (suc k) i ns ∙ ap (λ j. next_said j (get_or ns i 0)) same

pub next_is : (ring : List ℕ) (i : ℕ) → get_or (nexts_said 0 ring) i None ≡ next_said i (get_or ring i 0)
next_is ring i = let same : 0 + i ≡ i = omega arith in nexts_at 0 i ring ∙ ap (λ j. next_said j (get_or ring i 0)) same

pub nexts_length : (k : ℕ) (ring : List ℕ) → length (nexts_said k ring) ≡ length ring
nexts_length k [] = refl
nexts_length k (n ∷ ns) = ap suc (nexts_length (suc k) ns)

pub next_past : (ring : List ℕ) (i : ℕ) → length ring ≤ i → get_or (nexts_said 0 ring) i None ≡ None
next_past ring i h = get_or_past (nexts_said 0 ring) i None (let k = nexts_length 0 ring in omega (arith, h, k))

pub next_then : (ring : List ℕ) (i : ℕ) → then_some (nat_lt i (get_or ring i 0)) (get_or ring i 0) ≡ get_or (nexts_said 0 ring) i None
next_then ring i = by (nat_lt i (get_or ring i 0)) ∙ sym (next_is ring i)
  where
    by : (b : Bool) → then_some b (get_or ring i 0) ≡ (if b then Some (get_or ring i 0) else None)
    by true = refl
    by false = refl

nexts_push_from : (k : ℕ) (ring : List ℕ) (n : ℕ) → nexts_said k (ring ++ n ∷ []) ≡ nexts_said k ring ++ next_said (k + length ring) n ∷ []
nexts_push_from k [] n = let same : k ≡ k + 0 = omega arith in ap (λ j. next_said j n ∷ []) same
nexts_push_from k (r ∷ rs) n =
    let same : suc k + length rs ≡ k + suc (length rs) = omega arith in
    ap (λ l. next_said k r ∷ l) (nexts_push_from (suc k) rs n ∙ ap (λ j. nexts_said (suc k) rs ++ next_said j n ∷ []) same)

-- a node that is followed by none that is greater has no next sibling
pub nexts_push : (ring : List ℕ) (n : ℕ) → n ≤ length ring → nexts_said 0 (ring ++ n ∷ []) ≡ nexts_said 0 ring ++ None ∷ []
nexts_push ring n h = nexts_push_from 0 ring n ∙ ap (λ o. nexts_said 0 ring ++ o ∷ []) (next_none (0 + length ring) n (omega arith))

nexts_set_from : (k : ℕ) (ring : List ℕ) (i n : ℕ) → nexts_said k (slice_set ring i n) ≡ slice_set (nexts_said k ring) i (next_said (k + i) n)
nexts_set_from k [] i n = refl
nexts_set_from k (r ∷ rs) zero n = let same : k ≡ k + 0 = omega arith in ap (λ j. next_said j n ∷ nexts_said (suc k) rs) same
nexts_set_from k (r ∷ rs) (suc i) n =
    let same : suc k + i ≡ k + suc i = omega arith in
    ap (λ l. next_said k r ∷ l) (nexts_set_from (suc k) rs i n ∙ ap (λ j. slice_set (nexts_said (suc k) rs) i (next_said j n)) same)

-- a node that is followed by a greater one has it as its next sibling
pub nexts_set : (ring : List ℕ) (i n : ℕ) → i < n → nexts_said 0 (slice_set ring i n) ≡ slice_set (nexts_said 0 ring) i (Some n)
nexts_set ring i n h = nexts_set_from 0 ring i n ∙ ap (slice_set (nexts_said 0 ring) i) (next_some (0 + i) n (omega arith))

-- ---- the root
pub root_stays : (links : List (Option ℕ)) → 0 < length links → links ≡ rooted_links links
root_stays [] h = absurd (omega arith)
root_stays (l ∷ ls) h = refl
