-- Ways up past nodes that began too late.
use Rattle.std.proofs.Common.{◌≡◌, ◌≢◌, ◌⊎◌, inl, inr, ℕ, ◌+◌, ◌<◌, ◌≤◌, List, [], ◌∷◌, ◌++◌, length, Option, Some, refl, sym, ◌∙◌, subst, arith, length-append}
use Rattle.std.specs.List.{AllByRecursion}
use Rattle.std.proofs.lemmas.Bool.{cases_eq, cases_order}
use Rattle.std.proofs.lemmas.List.{get_or_append_left, get_or_push, get_or_past}
use Rattle.history_nodes.specs.declared.node.Node.{Node}
use Rattle.history_nodes.specs.Nodes.{node_at}
use Rattle.history_tree.specs.Placement.{LeadUp}
use Rattle.history_tree.specs.Climbing.{AreClimbed}
use Rattle.history_tree.specs.Earlier.{IsLate, LeadsPastLate, AreEarlier, earlier_of}

-- ---- one node up
pub late_up : (nodes : List Node) (n : ℕ) (o : Option ℕ) → AreClimbed nodes → n < length nodes → o ≡ (node_at nodes n).parent → LeadsPastLate nodes n o
late_up nodes n o c there e = record {
  begins = there;
  passed = n ∷ [];
  up = (refl, sym e);
  late = (record { there = there; late = omega arith }, tt);
  there = λ p is. (c.parents n p there (sym e ∙ is)).there;
  higher = λ p is. let a = c.parents n p there (sym e ∙ is) in omega (arith, a.level);
}

late_all : (nodes : List Node) (low start : ℕ) (ns : List ℕ) → low ≤ start → AllByRecursion (IsLate nodes start) ns → AllByRecursion (IsLate nodes low) ns
late_all nodes low start [] le h = tt
late_all nodes low start (n ∷ ns) le h = (record { there = h.0.there; late = omega (arith, h.0.late, le) }, late_all nodes low start ns le h.1)

-- where the parent didn't begin earlier, what is known of it
pub late_on : (nodes : List Node) (n p k : ℕ) → AreClimbed nodes → n < length nodes → (node_at nodes n).parent ≡ Some p → (node_at nodes n).start ≤ (node_at nodes p).start → (k ≢ p → LeadsPastLate nodes p (Some k)) → LeadsPastLate nodes n (Some k)
late_on nodes n p k c there e le known = by (cases_eq k p)
  where
    by : (k ≡ p) ⊎ (k ≡ p → ⊥) → LeadsPastLate nodes n (Some k)
    by (inl is) = subst (λ m. LeadsPastLate nodes n (Some m)) (sym is) (late_up nodes n (Some p) c there (sym e))
    by (inr ne) =
        let l = known ne in
        let a = c.parents n p there e in
        record {
          begins = there;
          passed = n ∷ l.passed;
          up = (refl, subst (λ o. LeadUp nodes o l.passed (Some k)) (sym e) l.up);
          late = (record { there = there; late = omega arith }, late_all nodes (node_at nodes n).start (node_at nodes p).start l.passed le l.late);
          there = l.there;
          higher = λ m is. let h = l.higher m is in omega (arith, h, a.level);
        }

-- ---- one more node
pub record IsReaching (nodes : List Node) (numbers : List ℕ) (number : ℕ) : Type 0 where
  pub earlier : AreEarlier nodes numbers
  pub len : number ≡ length numbers

pub reaching_on : (nodes : List Node) (old new : List ℕ) (number above : ℕ) → IsReaching nodes old number → number < length nodes → (above ≢ number → LeadsPastLate nodes number (Some above)) → new ≡ old ++ above ∷ [] → IsReaching nodes new (number + 1)
reaching_on nodes old new number above h there known is = subst (λ ns. IsReaching nodes ns (number + 1)) (sym is) (record {
  earlier = record { few = omega (arith, h.len, length-append old (above ∷ [])); each = λ n ne. by n ne (cases_order n (length old)) };
  len = omega (arith, h.len, length-append old (above ∷ []));
})
  where
    pushed : List ℕ
    pushed = old ++ above ∷ []

    by : (n : ℕ) → earlier_of pushed n ≢ n → (n ≡ length old) ⊎ ((n < length old) ⊎ (length old < n)) → LeadsPastLate nodes n (Some (earlier_of pushed n))
    by n ne (inl e) =
        let here : earlier_of pushed n ≡ above = get_or_push old above n n (sym e) in
        let number_is : number ≡ n = h.len ∙ sym e in
        subst (λ k. LeadsPastLate nodes n (Some k)) (sym here) (subst (λ k. LeadsPastLate nodes k (Some above)) number_is (known (λ x. ne (here ∙ (x ∙ number_is)))))
    by n ne (inr (inl lt)) = let same = get_or_append_left old (above ∷ []) n n lt in subst (λ k. LeadsPastLate nodes n (Some k)) (sym same) (h.earlier.each n (λ x. ne (same ∙ x)))
    by n ne (inr (inr gt)) = absurd (ne (get_or_past pushed n n (omega (arith, length-append old (above ∷ [])))))

pub earlier_known : (nodes : List Node) (numbers : List ℕ) (n : ℕ) → AreEarlier nodes numbers → (k : ℕ) → k ≡ earlier_of numbers n → k ≢ n → LeadsPastLate nodes n (Some k)
earlier_known nodes numbers n h k is ne = subst (λ m. LeadsPastLate nodes n (Some m)) (sym is) (h.each n (λ e. ne (is ∙ e)))
