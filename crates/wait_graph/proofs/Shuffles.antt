-- What a list keeps in another order, and lists that rise.
use Rattle.std.proofs.Common.{◌≡◌, ◌∙◌, ℕ, ◌+◌, ◌*◌, ◌^◌, ◌<◌, ◌≤◌, if◌then◌else◌, List, Some, length, set, get_or, slice_get, refl, sym, ap, subst, nat_eq, ne_eqb, eq-eqb, arith}
use Rattle.std.specs.Prelude.{IsPermutation, swap}
use Rattle.std.specs.List.Sorted.{IsNonDecreasingBy}
use Rattle.std.proofs.lemmas.List.Sorted.{IsPermutation-keeps}
use Rattle.std.proofs.lemmas.List.Edits.{swap_is}
use Rattle.std.proofs.lemmas.List.{length-set}
use Rattle.std.proofs.lemmas.Option.{slice_get-get_or, slice_get_within, get_or_from_slice_get}
use Rattle.host_tree.proofs.Gets.{at_set, beside_set, within}
use Rattle.wait_graph.specs.Changes.{order_of}
use Rattle.wait_graph.specs.Cuts.{Rises}
use native.Mathlib.Decide.{dec_lt, ℕ_discrete}
use mathlib.Core.Logic.{dite}

-- where an element comes from, or goes to, when those at two places change places
abbrev turn : ℕ → ℕ → ℕ → ℕ
turn i j k = if nat_eq k j then i else if nat_eq k i then j else k

turn_twice : (i j k : ℕ) → turn i j (turn i j k) ≡ k
turn_twice i j k = dite (ℕ_discrete k j)
    (λ e. rw (eq-eqb k j e) (dite (ℕ_discrete i j) (λ f. rw (eq-eqb i j f) (f ∙ sym e)) (λ nf. rw (ne_eqb i j nf, eq-eqb i i refl) (sym e))))
    (λ ne. rw (ne_eqb k j ne) (dite (ℕ_discrete k i) (λ f. rw (eq-eqb k i f, eq-eqb j j refl) (sym f)) (λ nf. rw (ne_eqb k i nf, ne_eqb k j ne, ne_eqb k i nf) refl)))

module _ {X : Type 0} where
  turned : (l : List X) (i j k : ℕ) → i < length l → j < length l → slice_get (swap l i j) k ≡ slice_get l (turn i j k)
  turned l i j k li lj =
      let d = (within l i li).0 in
      let is = swap_is l i j d li lj in
      ap (λ xs. slice_get xs k) (sym is) ∙ dite (ℕ_discrete k j)
      (λ e. rw (eq-eqb k j e, e) (at_set (set l i (get_or l j d)) j (get_or l i d) (subst (λ n. j < n) (sym (length-set l i (get_or l j d))) lj) ∙ sym (slice_get-get_or l i d li)))
      (λ ne. beside_set (set l i (get_or l j d)) j k (get_or l i d) ne ∙ rw (ne_eqb k j ne) (dite (ℕ_discrete k i)
      (λ f. rw (eq-eqb k i f, f) (at_set l i (get_or l j d) li ∙ sym (slice_get-get_or l j d lj)))
      (λ nf. rw (ne_eqb k i nf) (beside_set l i k (get_or l j d) nf))))

  -- no two elements are alike
  abbrev pub Apart : (X → X → Type 0) → List X → Type 0
  Apart Same xs = (j k : ℕ) (c d : X) → slice_get xs j ≡ Some c → slice_get xs k ≡ Some d → Same c d → j ≡ k

  pub apart_still : (Same : X → X → Type 0) (xs ys : List X) → IsPermutation xs ys → Apart Same xs → Apart Same ys
  apart_still Same xs ys is apart = IsPermutation-keeps xs (Apart Same) apart
      (λ l a b la lb old j k c d atj atk same.
      let e = old (turn a b j) (turn a b k) c d (sym (turned l a b j la lb) ∙ atj) (sym (turned l a b k la lb) ∙ atk) same in
      sym (turn_twice a b j) ∙ (ap (turn a b) e ∙ turn_twice a b k)) ys is

  pub goes : (xs ys : List X) → IsPermutation xs ys → (k : ℕ) (x : X) → slice_get xs k ≡ Some x → (m : ℕ) × (slice_get ys m ≡ Some x)
  goes xs ys is = IsPermutation-keeps xs (λ l. (k : ℕ) (x : X) → slice_get xs k ≡ Some x → (m : ℕ) × (slice_get l m ≡ Some x)) (λ k x at. (k, at))
      (λ l a b la lb old k x at. let o = old k x at in (turn a b o.0, turned l a b (turn a b o.0) la lb ∙ (ap (slice_get l) (turn_twice a b o.0) ∙ o.1))) ys is

  pub comes : (xs ys : List X) → IsPermutation xs ys → (m : ℕ) (x : X) → slice_get ys m ≡ Some x → (k : ℕ) × (slice_get xs k ≡ Some x)
  comes xs ys is = IsPermutation-keeps xs (λ l. (m : ℕ) (x : X) → slice_get l m ≡ Some x → (k : ℕ) × (slice_get xs k ≡ Some x)) (λ k x at. (k, at))
      (λ l a b la lb old m x at. old (turn a b m) x (sym (turned l a b m la lb) ∙ at)) ys is

  pub rises : (key : X → ℕ) (xs : List X) → IsNonDecreasingBy key xs → Apart (λ c d. key c ≡ key d) xs → Rises key xs
  rises key xs sorted apart j k c d lt atj atk =
      let le = sorted j k c (omega (arith, lt)) (slice_get_within xs k d atk) in
      let ej = get_or_from_slice_get xs j c c atj in
      let ek = get_or_from_slice_get xs k d c atk in
      let le' : key c ≤ key d = subst (λ x. key x ≤ key d) ej (subst (λ x. key (get_or xs j c) ≤ key x) ek le) in
      dite (ℕ_discrete (key c) (key d)) (λ same. let e = apart j k c d atj atk same in absurd (omega (arith, e, lt))) (λ ne. omega (arith, le', ne))

  -- the less of two keys stands first
  pub stands_before : (key : X → ℕ) (xs : List X) → Rises key xs → (j k : ℕ) (c d : X) → slice_get xs j ≡ Some c → slice_get xs k ≡ Some d → key c < key d → j < k
  stands_before key xs up j k c d atj atk lt = dite (dec_lt j k) (λ l. l) (λ nl. dite (ℕ_discrete j k)
      (λ e. let at = subst (λ n. slice_get xs n ≡ Some c) e atj in let same : c ≡ d = cc in let k' = ap key same in absurd (omega (arith, k', lt)))
      (λ ne. let g = up k j d c (omega (arith, nl, ne)) atk atj in absurd (omega (arith, g, lt))))

-- ---- the order by three numbers
inner : (a b p q : ℕ) → p < 2 ^ 32 → q < 2 ^ 32 → a * 2 ^ 32 + p ≡ b * 2 ^ 32 + q → (a ≡ b) × (p ≡ q)
inner a b p q lp lq e = (omega (arith, lp, lq, e), omega (arith, lp, lq, e))

pub one_order : (h g t u p q : ℕ) → t < 2 ^ 32 → u < 2 ^ 32 → p < 2 ^ 32 → q < 2 ^ 32 → order_of h t p ≡ order_of g u q → (h ≡ g) × ((t ≡ u) × (p ≡ q))
one_order h g t u p q lt lu lp lq e =
    let outer = inner (h * 2 ^ 32 + t) (g * 2 ^ 32 + u) p q lp lq e in
    let rest = inner h g t u lt lu outer.0 in (rest.0, (rest.1, outer.1))

-- what stands between two of one thread is of that thread
pub between_orders : (h g t u p q r : ℕ) → t < 2 ^ 32 → u < 2 ^ 32 → p < 2 ^ 32 → q < 2 ^ 32 → r < 2 ^ 32 → order_of h t p ≤ order_of g u q → order_of g u q ≤ order_of h t r → (g ≡ h) × (u ≡ t)
between_orders h g t u p q r lt lu lp lq lr low high =
    let a : g * 2 ^ 32 + u ≡ h * 2 ^ 32 + t = omega (arith, low, high, lp, lq, lr) in inner g h u t lu lt a
