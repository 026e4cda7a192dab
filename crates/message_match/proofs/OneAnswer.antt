-- Two answers about the same hosts are equal.
use Rattle.std.proofs.Common.{◌≡◌, ◌≢◌, ◌∙◌, ◌≤◌, inl, inr, ⊎_elim, ℕ, suc, List, [], ◌∷◌, length, refl, sym, ap, ap₂, subst, arith}
use Rattle.std.specs.List.{AllByRecursion}
use Rattle.trace_types.specs.declared.host.HostEvents.{HostEvents}
use Rattle.trace_types.specs.declared.segment.SegKey.{SegKey}
use Rattle.message_match.specs.declared.message.Message.{Message}
use Rattle.message_match.specs.Messages.{CountsAmbiguous, HaveOneAnswer, IsEarlier, Precedes}
use Rattle.message_match.specs.Standings.{IsAmong}
use Rattle.message_match.proofs.Lists.{Pairs, among, contained, each, pairs}

-- a list without one of its elements
dropped : (ks : List SegKey) (key : SegKey) → IsAmong ks key → (ls : List SegKey) × (length ks ≡ suc (length ls)) × ((k : SegKey) → key ≢ k → IsAmong ks k → IsAmong ls k)
dropped [] key h = absurd h
dropped (x ∷ xs) key (inl e) = (xs, refl, λ k ne h. ⊎_elim (λ w. absurd (ne (sym e ∙ w))) (λ w. w) h)
dropped (x ∷ xs) key (inr h) = let d = dropped xs key h in (x ∷ d.0, ap suc d.1, λ k ne w. ⊎_elim (λ e. inl e) (λ v. inr (d.2 k ne v)) w)

length-le : (ks ls : List SegKey) → Pairs ◌≢◌ ks → ((k : SegKey) → IsAmong ks k → IsAmong ls k) → length ks ≤ length ls
length-le [] ls a within = omega arith
length-le (k ∷ ks) ls a within =
    let d = dropped ls k (within k (inl refl)) in
    let rest = length-le ks d.0 a.1 (λ l h. d.2 l (apart l h) (within l (inr h))) in
    omega (arith, d.1, rest)
  where
    apart : (l : SegKey) → IsAmong ks l → k ≢ l
    apart l h e = let w = each (λ m. k ≢ m) ks l a.0 h in w.2 (e ∙ sym w.1)

one_count : (hosts : List HostEvents) (a b : ℕ) → CountsAmbiguous hosts a → CountsAmbiguous hosts b → a ≤ b
one_count hosts a b c d =
    let le : length c.0 ≤ length d.0 = length-le c.0 d.0 (pairs ◌≢◌ c.0 c.1) (λ k h. among d.0 k ((d.2 k).1 ((c.2 k).0 (contained c.0 k h)))) in
    omega (arith, c.3, d.3)

earlier_once : (h i h' i' : ℕ) → IsEarlier h i h' i' → IsEarlier h' i' h i → ⊥
earlier_once h i h' i' (inl a) (inl b) = omega arith
earlier_once h i h' i' (inl a) (inr b) = omega (arith, b.0)
earlier_once h i h' i' (inr a) (inl b) = omega (arith, a.0)
earlier_once h i h' i' (inr a) (inr b) = omega (arith, a.1, b.1)

-- the head precedes each other element
precedes : (m n : Message) (ms : List Message) → AllByRecursion (Precedes m) ms → IsAmong ms n → Precedes m n
precedes m n ms a h = let w = each (Precedes m) ms n a h in subst (Precedes m) w.1 w.2

not_twice : (m : Message) (ms : List Message) → AllByRecursion (Precedes m) ms → ¬ IsAmong ms m
not_twice m ms a h = let p = precedes m m ms a h in earlier_once m.from m.send m.from m.send p p

same_list : (ms ns : List Message) → Pairs Precedes ms → Pairs Precedes ns → ((m : Message) → IsAmong ms m → IsAmong ns m) → ((m : Message) → IsAmong ns m → IsAmong ms m) → ms ≡ ns
same_list [] [] p q to back = refl
same_list [] (n ∷ ns) p q to back = absurd (back n (inl refl))
same_list (m ∷ ms) [] p q to back = absurd (to m (inl refl))
same_list (m ∷ ms) (n ∷ ns) p q to back =
    ap₂ (λ x xs. x ∷ xs) heads (same_list ms ns p.1 q.1 (λ x h. tail m n ms ns heads p.0 x h (to x (inr h))) (λ x h. tail n m ns ms (sym heads) q.0 x h (back x (inr h))))
  where
    heads : m ≡ n
    heads = ⊎_elim (λ e. sym e) (λ h. ⊎_elim (λ e. e) (λ w. absurd (earlier_once m.from m.send n.from n.send (precedes m n ms p.0 w) (precedes n m ns q.0 h))) (back n (inl refl))) (to m (inl refl))

    tail : (a b : Message) (xs ys : List Message) → a ≡ b → AllByRecursion (Precedes a) xs → (x : Message) → IsAmong xs x → IsAmong (b ∷ ys) x → IsAmong ys x
    tail a b xs ys e all x h (inl w) = absurd (not_twice a xs all (subst (IsAmong xs) (sym w ∙ sym e) h))
    tail a b xs ys e all x h (inr w) = w

pub one_answer : HaveOneAnswer
one_answer hosts matched others ambiguous count a b = (
  same_list matched others (pairs Precedes matched a.order) (pairs Precedes others b.order)
      (λ m h. among others m ((b.members m).1 ((a.members m).0 (contained matched m h)))) (λ m h. among matched m ((a.members m).1 ((b.members m).0 (contained others m h)))),
  (let le : ambiguous ≤ count = one_count hosts ambiguous count a.counted b.counted in let ge : count ≤ ambiguous = one_count hosts count ambiguous b.counted a.counted in omega arith),
)
