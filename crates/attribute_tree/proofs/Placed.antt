-- The numbers that rows have, once a place of one of them is set.
use Rattle.std.proofs.Common.{◌≡◌, ℕ, zero, suc, ◌<◌, Bool, true, false, cond, nat_eq, List, [], ◌∷◌, length, get_or, slice_set, Option, Some, None, rules, refl, sym, ap, ◌∙◌, subst}
use Rattle.std.specs.List.{AllByRecursion}
use Rattle.std.proofs.lemmas.Bool.{eq-eqb, eqb-true}
use Rattle.std.proofs.lemmas.List.{get_or-set_same, get_or-set_other}
use Rattle.trace_types.specs.declared.path.Path.{Path as AttributePath}
use Rattle.trace_types.specs.declared.path.Path.TheVariants.{Cpu, Thread}
use Rattle.trace_types.specs.declared.path.ThreadKey.TheVariants.{Idle, Tid}
use Rattle.trace_types.specs.Same.{same_path}
use Rattle.trace_types.proofs.Same.{path_itself, path_from_rank}
use Rattle.attribute_tree.specs.declared.owner.Owner.{Owner}
use Rattle.attribute_tree.specs.declared.rows.Row.{Row}
use Rattle.attribute_tree.specs.Rows.{same_owner, owner_of, leaf_of, number_said, number_in, number_by, node_in}
use Rattle.attribute_tree.proofs.Numbers.{apart}
use Rattle.attribute_tree.proofs.Fronts.{owner_is}

pub owner_itself : (a : Owner) → same_owner a a ≡ true
owner_itself a = search rules

-- a path is its owner and its leaf
path_by : (p q : AttributePath) → owner_of p ≡ owner_of q → leaf_of p ≡ leaf_of q → p ≡ q
path_by (Cpu h c l) (Cpu g d m) e f = path_from_rank (Cpu h c l) (Cpu g d m) (cc)
path_by (Thread h (Idle c) l) (Thread g (Idle d) m) e f = path_from_rank (Thread h (Idle c) l) (Thread g (Idle d) m) (cc)
path_by (Thread h (Tid c) l) (Thread g (Tid d) m) e f = path_from_rank (Thread h (Tid c) l) (Thread g (Tid d) m) (cc)
path_by (Thread h (Idle c) l) (Thread g (Tid d) m) e f = absurd (cc)
path_by (Thread h (Tid c) l) (Thread g (Idle d) m) e f = absurd (cc)
path_by (Cpu h c l) (Thread g (Idle d) m) e f = absurd (cc)
path_by (Cpu h c l) (Thread g (Tid d) m) e f = absurd (cc)
path_by (Thread h (Idle c) l) (Cpu g d m) e f = absurd (cc)
path_by (Thread h (Tid c) l) (Cpu g d m) e f = absurd (cc)

pub blank : (zeros : List ℕ) → AllByRecursion (λ z. z ≡ 0) zeros → (j : ℕ) → get_or zeros j 0 ≡ 0
blank [] h j = refl
blank (z ∷ zs) h zero = h.0
blank (z ∷ zs) h (suc j) = blank zs h.1 j

-- without a row there is no number
pub no_row : (o : Option Row) (leaf : ℕ) → node_in o ≡ None → number_in o leaf ≡ None
no_row None leaf e = refl
no_row (Some row) leaf e = absurd (cc)

-- setting a path's place in its owner's row changes the path's number alone
module _ (rows more : Owner → Option Row) (numbers : List ℕ) (row : Row) (p : AttributePath) (n : ℕ) (before : (leaf : ℕ) → number_said (get_or numbers leaf 0) ≡ number_in (rows (owner_of p)) leaf) (within : leaf_of p < length numbers)
    (is : row.numbers ≡ slice_set numbers (leaf_of p) (suc n)) (updates : (a : Owner) → more a ≡ cond (same_owner (owner_of p) a) (Some row) (rows a)) where
  leaf : (q : AttributePath) (b : Bool) → nat_eq (leaf_of p) (leaf_of q) ≡ b → owner_of p ≡ owner_of q
      → number_said (get_or (slice_set numbers (leaf_of p) (suc n)) (leaf_of q) 0) ≡ cond (same_path p q) (Some n) (number_in (rows (owner_of q)) (leaf_of q))
  leaf q true e o =
      let place : leaf_of p ≡ leaf_of q = eqb-true _ _ e in
      let same : p ≡ q = path_by p q o place in
      let itself : same_path p q ≡ true = subst (λ x. same_path p x ≡ true) same (path_itself p) in
      rw itself (ap (λ j. number_said (get_or (slice_set numbers (leaf_of p) (suc n)) j 0)) (sym place) ∙ ap number_said (get_or-set_same numbers (leaf_of p) (suc n) 0 within))
  leaf q false e o =
      let other : leaf_of q ≡ leaf_of p → ⊥ = λ same. let k : nat_eq (leaf_of p) (leaf_of q) ≡ true = eq-eqb _ _ (sym same) in absurd (cc) in
      rw (apart p q (λ same. other (ap leaf_of (sym same))))
      (ap number_said (get_or-set_other numbers (leaf_of p) (leaf_of q) (suc n) 0 other) ∙ (before (leaf_of q) ∙ ap (λ a. number_in (rows a) (leaf_of q)) o))

  pub number_set : (q : AttributePath) → number_by more q ≡ cond (same_path p q) (Some n) (number_by rows q)
  number_set q = rw (updates (owner_of q)) (by (same_owner (owner_of p) (owner_of q)) refl)
    where
      by : (b : Bool) → same_owner (owner_of p) (owner_of q) ≡ b → number_in (cond b (Some row) (rows (owner_of q))) (leaf_of q) ≡ cond (same_path p q) (Some n) (number_in (rows (owner_of q)) (leaf_of q))
      by true e = ap (λ l. number_said (get_or l (leaf_of q) 0)) is ∙ leaf q (nat_eq (leaf_of p) (leaf_of q)) refl (owner_is (owner_of p) (owner_of q) e)
      by false e = rw (apart p q (λ same. let k : same_owner (owner_of p) (owner_of q) ≡ true = subst (λ x. same_owner (owner_of p) (owner_of x) ≡ true) same (owner_itself (owner_of p)) in absurd (cc))) refl
