-- The records of nodes, and what is found in them.
use Rattle.std.proofs.Common.{◌≡◌, ◌⊎◌, inl, inr, ℕ, zero, suc, ◌<◌, Bool, true, false, ◌&&◌, ◌==◌, nat_le, List, [], ◌∷◌, length, find, cond, Option, None, Some, refl, sym, ap, ◌∙◌, subst, arith}
use Rattle.std.specs.Prelude.{unwrap_or, IfSome}
use Rattle.std.proofs.lemmas.Bool.{leb-true, leb-false, eqb-true, eqb-false}
use Rattle.history_nodes.specs.declared.interval.Interval.{Interval}
use Rattle.history_nodes.specs.declared.node.Node.{Node}
use Rattle.history_nodes.specs.Intervals.{is_of}
use Rattle.history_nodes.specs.Nodes.{node_at}
use Rattle.history_tree.specs.Records.{records_of, IsAt, content_of, IsHeld}
use Rattle.history_tree.specs.Tree.{NodeTree, IsTree}
use Rattle.history_tree.proofs.Contents.{IsMember, member_left, member_right, member_split, get_member}

-- ---- records of nodes
pub record IsStoredIn (nodes : List Node) (i : Interval) : Type 0 where
  pub number : ℕ
  pub there : number < length nodes
  pub member : IsMember i (node_at nodes number).intervals

pub member_node : (nodes : List Node) (i : Interval) → IsMember i (records_of nodes) → IsStoredIn nodes i
member_node [] i m = absurd m
member_node (x ∷ xs) i m = by (member_split i x.intervals (records_of xs) m) (member_node xs i)
  where
    by : IsMember i x.intervals ⊎ IsMember i (records_of xs) → (IsMember i (records_of xs) → IsStoredIn xs i) → IsStoredIn (x ∷ xs) i
    by (inl a) rest = record { number = 0; there = omega arith; member = a }
    by (inr a) rest = let r = rest a in record { number = suc r.number; there = omega (arith, r.there); member = r.member }

pub node_member : (nodes : List Node) (n : ℕ) (i : Interval) → n < length nodes → IsMember i (node_at nodes n).intervals → IsMember i (records_of nodes)
node_member [] n i there m = absurd (omega arith)
node_member (x ∷ xs) zero i there m = member_left i x.intervals (records_of xs) m
node_member (x ∷ xs) (suc n) i there m = member_right i x.intervals (records_of xs) (node_member xs n i (omega arith) m)

-- ---- what is found in a node
pub record IsFoundIn (is : List Interval) (number t : ℕ) (i : Interval) : Type 0 where
  pub member : IsMember i is
  pub of : i.number ≡ number
  pub at : IsAt t i

split_of : (number t : ℕ) (i : Interval) → is_of number t i ≡ true → (i.number ≡ number) × IsAt t i
split_of number t i h = by (i.number == number) (nat_le i.start t) (nat_le t i.end) refl refl refl h
  where
    by : (a b c : Bool) → (i.number == number) ≡ a → nat_le i.start t ≡ b → nat_le t i.end ≡ c → (a && (b && c)) ≡ true → (i.number ≡ number) × IsAt t i
    by true true true p q r k = (eqb-true i.number number p, record { begun = leb-true i.start t q; lasts = leb-true t i.end r })
    by true true false p q r k = absurd (cc)
    by true false c p q r k = absurd (cc)
    by false b c p q r k = absurd (cc)

is_split : (number t : ℕ) (i : Interval) → i.number ≡ number → IsAt t i → is_of number t i ≡ true
is_split number t i e a = by (i.number == number) (nat_le i.start t) (nat_le t i.end) refl refl refl
  where
    by : (x y z : Bool) → (i.number == number) ≡ x → nat_le i.start t ≡ y → nat_le t i.end ≡ z → (x && (y && z)) ≡ true
    by true true true p q r = refl
    by true true false p q r = absurd (omega (arith, a.lasts, leb-false t i.end r))
    by true false z p q r = absurd (omega (arith, a.begun, leb-false i.start t q))
    by false y z p q r = absurd (eqb-false i.number number p e)

pub found_in : (is : List Interval) (number t : ℕ) (i : Interval) → find (is_of number t) is ≡ Some i → IsFoundIn is number t i
found_in [] number t i h = absurd (cc)
found_in (j ∷ js) number t i h = by (is_of number t j) refl h (found_in js number t i)
  where
    by : (b : Bool) → is_of number t j ≡ b → cond b (Some j) (find (is_of number t) js) ≡ Some i → (find (is_of number t) js ≡ Some i → IsFoundIn js number t i) → IsFoundIn (j ∷ js) number t i
    by true e g rest =
        let same : j ≡ i = ap (λ (o : Option Interval). unwrap_or o j) g in
        let s = split_of number t i (subst (λ (k : Interval). is_of number t k ≡ true) same e) in record { member = inl same; of = s.0; at = s.1 }
    by false e g rest = let r = rest g in record { member = inr r.member; of = r.of; at = r.at }

pub none_in : (is : List Interval) (number t : ℕ) (i : Interval) → find (is_of number t) is ≡ None → IsMember i is → i.number ≡ number → IsAt t i → ⊥
none_in [] number t i h m e a = m
none_in (j ∷ js) number t i h m e a = by (is_of number t j) refl h m (λ g k. none_in js number t i g k e a)
  where
    by : (b : Bool) → is_of number t j ≡ b → cond b (Some j) (find (is_of number t) js) ≡ None → (j ≡ i) ⊎ IsMember i js → (find (is_of number t) js ≡ None → IsMember i js → ⊥) → ⊥
    by true f g k rest = absurd (cc)
    by false f g (inl same) rest = let yes' : is_of number t j ≡ true = is_split number t j (ap (λ (k : Interval). k.number) same ∙ e) (subst (λ (k : Interval). IsAt t k) (sym same) a) in absurd (cc)
    by false f g (inr k) rest = rest g k

-- an interval that was found in a node is the content's
pub held : (t : NodeTree) (n number time : ℕ) (i : Interval) → IsTree t → n < length t.nodes → find (is_of number time) (node_at t.nodes n).intervals ≡ Some i → IsHeld (content_of t.nodes) i × (i.number ≡ number) × IsAt time i
held t n number time i h there e =
    let f = found_in (node_at t.nodes n).intervals number time i e in
    (get_member (records_of t.nodes) i h.filled.apart (node_member t.nodes n i there f.member), f.of, f.at)

pub held_some : (t : NodeTree) (n number time : ℕ) (o : Option Interval) → IsTree t → n < length t.nodes → find (is_of number time) (node_at t.nodes n).intervals ≡ o → IfSome o (λ i. IsHeld (content_of t.nodes) i × (i.number ≡ number) × IsAt time i)
held_some t n number time None h there e = tt
held_some t n number time (Some i) h there e = held t n number time i h there e
