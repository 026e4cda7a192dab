-- Ranges that are adjacent, and the ends of nodes.
use Rattle.std.proofs.Common.{◌≡◌, ◌≢◌, ◌⊎◌, inl, inr, ℕ, ◌+◌, ◌-◌, ◌<◌, ◌≤◌, List, [], ◌∷◌, ◌++◌, Option, None, Some, refl, sym, ap, ◌∙◌, subst, arith}
use Rattle.std.specs.Prelude.{unwrap_or}
use Rattle.std.proofs.lemmas.Bool.{cases_eq}
use Rattle.trace_types.specs.declared.limits.TheConstants.{TIME_END}
use Rattle.history_nodes.specs.declared.node.Node.{Node}
use Rattle.history_nodes.specs.Nodes.{node_at, end_of}
use Rattle.history_tree.specs.Tree.{IsAmong, AreAdjacent}

-- ---- members
pub among_left : (n : ℕ) (xs ys : List ℕ) → IsAmong n xs → IsAmong n (xs ++ ys)
among_left n [] ys h = absurd h
among_left n (x ∷ xs) ys (inl e) = inl e
among_left n (x ∷ xs) ys (inr h) = inr (among_left n xs ys h)

pub among_new : (n : ℕ) (xs : List ℕ) → IsAmong n (xs ++ n ∷ [])
among_new n [] = inl refl
among_new n (x ∷ xs) = inr (among_new n xs)

pub among_split : (n m : ℕ) (xs : List ℕ) → IsAmong n (xs ++ m ∷ []) → IsAmong n xs ⊎ (m ≡ n)
among_split n m [] (inl e) = inr e
among_split n m [] (inr h) = absurd h
among_split n m (x ∷ xs) (inl e) = inl (inl e)
among_split n m (x ∷ xs) (inr h) = by (among_split n m xs h)
  where
    by : IsAmong n xs ⊎ (m ≡ n) → IsAmong n (x ∷ xs) ⊎ (m ≡ n)
    by (inl g) = inl (inr g)
    by (inr e) = inr e

-- ---- ends
-- no range goes past the end of all times
pub end_within : (o : Option ℕ) (greatest : ℕ) → ((e : ℕ) → o ≡ Some e → e ≤ greatest) → greatest + 1 < TIME_END → unwrap_or o (TIME_END - 1) + 1 ≤ TIME_END
end_within None greatest h lt = omega arith
end_within (Some e) greatest h lt = omega (arith, h e refl)

-- where it goes to the end of all times, the node has no end
pub none_at_last : (o : Option ℕ) (greatest : ℕ) → ((e : ℕ) → o ≡ Some e → e ≤ greatest) → greatest + 1 < TIME_END → unwrap_or o (TIME_END - 1) + 1 ≡ TIME_END → o ≡ None
none_at_last None greatest h lt e = refl
none_at_last (Some x) greatest h lt e = absurd (omega (arith, h x refl))

pub last_at_none : (o : Option ℕ) → o ≡ None → unwrap_or o (TIME_END - 1) + 1 ≡ TIME_END
last_at_none o e = rw e refl

-- ---- adjacent ranges
-- a node has one range among both
pub record HasSameRange (old new : List Node) (n : ℕ) : Type 0 where
  pub start : (node_at new n).start ≡ (node_at old n).start
  pub ends : (node_at new n).end ≡ (node_at old n).end

pub adjacent_same : (old new : List Node) (from : ℕ) (cs : List ℕ) (to : ℕ) → ((c : ℕ) → IsAmong c cs → HasSameRange old new c) → AreAdjacent old from cs to → AreAdjacent new from cs to
adjacent_same old new from [] to same h = h
adjacent_same old new from (c ∷ cs) to same h =
    let s = same c (inl refl) in (
      s.start ∙ h.0,
      subst (λ (o : Option ℕ). AreAdjacent new (unwrap_or o (TIME_END - 1) + 1) cs to) (sym s.ends) (adjacent_same old new (end_of (node_at old c) + 1) cs to (λ d m. same d (inr m)) h.1),
    )

-- one more range at the end
pub adjacent_push : (nodes : List Node) (from : ℕ) (cs : List ℕ) (c mid to : ℕ) → AreAdjacent nodes from cs mid → (node_at nodes c).start ≡ mid → end_of (node_at nodes c) + 1 ≡ to → AreAdjacent nodes from (cs ++ c ∷ []) to
adjacent_push nodes from [] c mid to h s e = (s ∙ sym h, e)
adjacent_push nodes from (d ∷ cs) c mid to h s e = (h.0, adjacent_push nodes (end_of (node_at nodes d) + 1) cs c mid to h.1 s e)

-- a node's range lies between two instants
pub record IsWithin (nodes : List Node) (from to n : ℕ) : Type 0 where
  pub begins : from ≤ (node_at nodes n).start
  pub ends : end_of (node_at nodes n) + 1 ≤ to

-- adjacent ranges, none of which is empty, lie between their ends
pub adjacent_rise : (nodes : List Node) (from : ℕ) (cs : List ℕ) (to : ℕ) → ((c : ℕ) → IsAmong c cs → (node_at nodes c).start ≤ end_of (node_at nodes c)) → AreAdjacent nodes from cs to → from ≤ to
adjacent_rise nodes from [] to some h = omega (arith, h)
adjacent_rise nodes from (c ∷ cs) to some h = omega (arith, h.0, some c (inl refl), adjacent_rise nodes (end_of (node_at nodes c) + 1) cs to (λ d m. some d (inr m)) h.1)

pub adjacent_within : (nodes : List Node) (from : ℕ) (cs : List ℕ) (to n : ℕ) → ((c : ℕ) → IsAmong c cs → (node_at nodes c).start ≤ end_of (node_at nodes c)) → AreAdjacent nodes from cs to → IsAmong n cs → IsWithin nodes from to n
adjacent_within nodes from [] to n some h m = absurd m
adjacent_within nodes from (c ∷ cs) to n some h (inl e) =
    subst (λ k. IsWithin nodes from to k) e
    (record { begins = omega (arith, h.0); ends = adjacent_rise nodes (end_of (node_at nodes c) + 1) cs to (λ d m. some d (inr m)) h.1 })
adjacent_within nodes from (c ∷ cs) to n some h (inr m) =
    let w = adjacent_within nodes (end_of (node_at nodes c) + 1) cs to n (λ d k. some d (inr k)) h.1 m in
    record { begins = omega (arith, w.begins, h.0, some c (inl refl)); ends = w.ends }

-- a node without an end is the last of adjacent ones, which reach to the end of all times; if it ends now, they reach to its end
pub adjacent_closed : (old new : List Node) (from : ℕ) (cs : List ℕ) (to n end : ℕ) → AreAdjacent old from cs to → IsAmong n cs → end_of (node_at old n) + 1 ≡ TIME_END
    → ((c : ℕ) → IsAmong c cs → (node_at old c).start + 1 ≤ TIME_END)
    → ((c : ℕ) → IsAmong c cs → c ≢ n → HasSameRange old new c) → (node_at new n).start ≡ (node_at old n).start → (node_at new n).end ≡ Some end
    → AreAdjacent new from cs (end + 1) × (to ≡ TIME_END)
adjacent_closed old new from [] to n end h m e below same s x = absurd m
adjacent_closed old new from (c ∷ cs) to n end h m e below same s x =
    by (cases_eq c n) (λ g. adjacent_closed old new (end_of (node_at old c) + 1) cs to n end h.1 g e (λ d k. below d (inr k)) (λ d k. same d (inr k)) s x)
  where
    alone : (ds : List ℕ) → c ≡ n → AreAdjacent old (end_of (node_at old c) + 1) ds to → ((d : ℕ) → IsAmong d ds → (node_at old d).start + 1 ≤ TIME_END) → AreAdjacent new (end_of (node_at new c) + 1) ds (end + 1) × (to ≡ TIME_END)
    alone [] is g lt = (rw (is, x) refl, sym g ∙ (ap (λ k. end_of (node_at old k) + 1) is ∙ e))
    alone (d ∷ ds) is g lt = let big : end_of (node_at old c) + 1 ≡ TIME_END = ap (λ k. end_of (node_at old k) + 1) is ∙ e in absurd (omega (arith, lt d (inl refl), g.0, big))

    there : c ≢ n → (c ≡ n) ⊎ IsAmong n cs → IsAmong n cs
    there ne (inl is) = absurd (ne is)
    there ne (inr g) = g

    by : (c ≡ n) ⊎ (c ≡ n → ⊥) → (IsAmong n cs → AreAdjacent new (end_of (node_at old c) + 1) cs (end + 1) × (to ≡ TIME_END)) → AreAdjacent new from (c ∷ cs) (end + 1) × (to ≡ TIME_END)
    by (inl is) rest =
        let r = alone cs is h.1 (λ d g. below d (inr g)) in ((ap (λ k. (node_at new k).start) is ∙ (s ∙ (ap (λ k. (node_at old k).start) (sym is) ∙ h.0)), r.0), r.1)
    by (inr ne) rest =
        let w = same c (inl refl) ne in
        let r = rest (there ne m) in
        ((w.start ∙ h.0, subst (λ (o : Option ℕ). AreAdjacent new (unwrap_or o (TIME_END - 1) + 1) cs (end + 1)) (sym w.ends) r.0), r.1)
