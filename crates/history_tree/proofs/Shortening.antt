-- Chains past full nodes, and shortcuts along them.
use Rattle.std.proofs.Common.{◌≡◌, ◌≢◌, ◌⊎◌, inl, inr, ℕ, ◌+◌, ◌<◌, false, List, [], ◌∷◌, ◌++◌, length, Option, None, Some, IfNone, IfSome, refl, sym, ◌∙◌, subst, arith, length-append}
use Rattle.std.specs.List.{AllByRecursion}
use Rattle.std.specs.Option.{unwrap_or}
use Rattle.std.proofs.lemmas.Bool.{cases_order}
use Rattle.std.proofs.lemmas.List.{get_or_append_left, get_or_push, get_or_past}
use Rattle.history_nodes.specs.declared.node.Node.{Node}
use Rattle.history_nodes.specs.Nodes.{node_at}
use Rattle.history_tree.specs.Placement.{LeadUp, has_room}
use Rattle.history_tree.specs.Climbing.{AreClimbed}
use Rattle.history_tree.specs.Shortcuts.{LeadsPast, EndsClimb, IsShortcut, AreShortcuts, IsShortened, HaveSameShortcuts, shortcut_of}
use Rattle.history_tree.proofs.Climbs.{height}

-- ---- chains one after the other
pub lead_join : (nodes : List Node) (from : Option ℕ) (ns ms : List ℕ) (mid to : Option ℕ) → LeadUp nodes from ns mid → LeadUp nodes mid ms to → LeadUp nodes from (ns ++ ms) to
lead_join nodes from [] ms mid to h g = subst (λ o. LeadUp nodes o ms to) (sym h) g
lead_join nodes from (n ∷ ns) ms mid to h g = (h.0, lead_join nodes (node_at nodes n).parent ns ms mid to h.1 g)

pub all_join : (P : ℕ → Type 0) (ns ms : List ℕ) → AllByRecursion P ns → AllByRecursion P ms → AllByRecursion P (ns ++ ms)
all_join P [] ms h g = g
all_join P (n ∷ ns) ms h g = (h.0, all_join P ns ms h.1 g)

pub past_none : (nodes : List Node) (n : ℕ) → n < length nodes → LeadsPast nodes n n
past_none nodes n there = record { begins = there; there = there; level = omega arith; passed = []; up = refl; full = tt }

pub past_both : (nodes : List Node) (a b c : ℕ) → LeadsPast nodes a b → LeadsPast nodes b c → LeadsPast nodes a c
past_both nodes a b c f g = record {
  begins = f.begins;
  there = g.there;
  level = omega (arith, f.level, g.level);
  passed = f.passed ++ g.passed;
  up = lead_join nodes (Some a) f.passed g.passed (Some b) (Some c) f.up g.up;
  full = all_join (λ n. has_room (node_at nodes n) ≡ false) f.passed g.passed f.full g.full;
}

-- ---- shortcuts
pub shortcut_up : (nodes : List Node) (n : ℕ) (o : Option ℕ) → AreClimbed nodes → n < length nodes → has_room (node_at nodes n) ≡ false → o ≡ (node_at nodes n).parent → IfSome o (IsShortcut nodes n)
shortcut_up nodes n None c there full e = tt
shortcut_up nodes n (Some p) c there full e =
    let a = c.parents n p there (sym e) in
    record {
      past = record { begins = there; there = a.there; level = omega (arith, a.level); passed = n ∷ []; up = (refl, sym e); full = (full, tt) };
      higher = omega (arith, a.level);
    }

pub ends_there : (nodes : List Node) (n : ℕ) (o : Option ℕ) → o ≡ (node_at nodes n).parent → IfNone o (EndsClimb nodes n)
ends_there nodes n None e = inr (sym e)
ends_there nodes n (Some p) e = tt

-- one step further, where there's one
pub shortcut_further : (nodes : List Node) (low mid high : ℕ) (o : Option ℕ) → IsShortcut nodes low mid → IfSome o (IsShortcut nodes mid) → high ≡ unwrap_or o mid → IsShortcut nodes low high
shortcut_further nodes low mid high None s h is = subst (IsShortcut nodes low) (sym is) s
shortcut_further nodes low mid high (Some k) s h is = subst (IsShortcut nodes low) (sym is) (record { past = past_both nodes low mid k s.past h.past; higher = omega (arith, s.higher, h.past.level) })

shortened : (nodes : List Node) (low high : ℕ) (old new : List ℕ) → IsShortcut nodes low high → IsShortened low high old new → AreShortcuts nodes old → AreShortcuts nodes new
shortened nodes low high old new s step h = record { each = λ n ne. by n ne (step.each n) }
  where
    by : (n : ℕ) → shortcut_of new n ≢ n → (shortcut_of new n ≡ shortcut_of old n) ⊎ ((n ≡ low) × (shortcut_of new n ≡ high)) → IsShortcut nodes n (shortcut_of new n)
    by n ne (inl same) = subst (IsShortcut nodes n) (sym same) (h.each n (λ e. ne (same ∙ e)))
    by n ne (inr is) = subst (IsShortcut nodes n) (sym is.1) (subst (λ k. IsShortcut nodes k high) (sym is.0) s)

pub shortcuts_same : (nodes : List Node) (old new : List ℕ) → HaveSameShortcuts old new → AreShortcuts nodes old → AreShortcuts nodes new
shortcuts_same nodes old new s h = record { each = λ n ne. subst (IsShortcut nodes n) (sym (s.each n)) (h.each n (λ e. ne (s.each n ∙ e))) }

-- ---- the climb past full nodes
pub record IsPassing (nodes : List Node) (from number : ℕ) (shortcuts : List ℕ) : Type 0 where
  pub past : LeadsPast nodes from number
  pub shortcuts_hold : AreShortcuts nodes shortcuts

pub passing_on : (nodes : List Node) (from number further : ℕ) (old new : List ℕ) → IsPassing nodes from number old → IsShortcut nodes number further → IsShortened number further old new → IsPassing nodes from further new
passing_on nodes from number further old new p s step = record {
  past = past_both nodes from number further p.past s.past;
  shortcuts_hold = shortened nodes number further old new s step p.shortcuts_hold;
}

pub shortcut_falls : (nodes : List Node) (low high : ℕ) → AreClimbed nodes → IsShortcut nodes low high → height nodes (Some high) < height nodes (Some low)
shortcut_falls nodes low high c s = let few = c.few low s.past.begins in omega (arith, s.higher, few)

-- ---- nodes that have no shortcut yet
shortcut_pushed : (old : List ℕ) (number n : ℕ) → number ≡ length old → shortcut_of (old ++ number ∷ []) n ≡ shortcut_of old n
shortcut_pushed old number n is = by (cases_order n (length old))
  where
    by : (n ≡ length old) ⊎ ((n < length old) ⊎ (length old < n)) → shortcut_of (old ++ number ∷ []) n ≡ shortcut_of old n
    by (inl e) = get_or_push old number n n (sym e) ∙ (is ∙ (sym e ∙ sym (get_or_past old n n (omega (arith, e)))))
    by (inr (inl lt)) = get_or_append_left old (number ∷ []) n n lt
    by (inr (inr gt)) = get_or_past (old ++ number ∷ []) n n (omega (arith, length-append old (number ∷ []))) ∙ sym (get_or_past old n n (omega arith))

pub record IsReached (old now : List ℕ) (number : ℕ) : Type 0 where
  pub same : HaveSameShortcuts old now
  pub len : number ≡ length now

pub reached_on : (old now new : List ℕ) (number : ℕ) → IsReached old now number → new ≡ now ++ number ∷ [] → IsReached old new (number + 1)
reached_on old now new number h is = subst (λ ns. IsReached old ns (number + 1)) (sym is) (record {
  same = record { each = λ n. shortcut_pushed now number n h.len ∙ h.same.each n };
  len = omega (arith, h.len, length-append now (number ∷ []));
})
