-- One holder at most holds a thread up at each instant.
use Rattle.std.proofs.Common.{◌≡◌, ◌∙◌, inl, inr, ℕ, zero, suc, List, length, sym, subst, arith}
use Rattle.trace_types.specs.declared.event.Merged.{Merged}
use Rattle.host_merge.specs.declared.placed.Placed.{Placed}
use Rattle.wait_graph.specs.Graph.{AreMessagePlaces, IsLastAt}
use Rattle.wait_graph.specs.declared.vertex.ThreadState.{ThreadState}
use Rattle.wait_graph.specs.declared.vertex.ThreadState.TheVariants as state
use Rattle.wait_graph.specs.declared.vertex.Link.{Link}
use Rattle.wait_graph.specs.declared.vertex.Link.TheVariants.{Nothing, Thread, Net, Timer, Disk, Interrupt, Nobody}
use Rattle.critical_path.specs.Holder.{EndsBy, HoldsAt, HoldsBlocked, HoldsBy, HoldsByState, IsFollowed}
use Rattle.wait_graph.specs.Links.{IsLinkAt}
use Rattle.critical_path.specs.Laws.{HaveOneHolder}
use Rattle.critical_path.specs.declared.piece.Holder.{Holder}
use Rattle.critical_path.proofs.LinkViews.{one_link}
use native.Mathlib.Decide.{dec_lt, ℕ_discrete}
use mathlib.Core.Logic.{dite}

one_end : (merged : List Merged) (host tid place limit a b : ℕ) → EndsBy merged host tid place limit a → EndsBy merged host tid place limit b → a ≡ b
one_end merged host tid place limit a b x y = dite (ℕ_discrete a b) (λ e. e) (λ ne. dite (dec_lt a b)
    (λ lt. absurd (y.next.next a x.next.after lt x.next.changes))
    (λ ge. absurd (x.next.next b y.next.after (omega (arith, ne, ge)) y.next.changes)))

-- one holder at most, for the waits for others
abbrev Agree : (ℕ → ℕ → ℕ → ℕ → Holder → Type 0) → (ℕ → ℕ → ℕ → ℕ → Holder → Type 0) → Type 0
Agree A B = (host tid place limit : ℕ) (h k : Holder) → A host tid place limit h → B host tid place limit k → h ≡ k

module _ (merged : List Merged) (placed : List Placed) (messages : AreMessagePlaces merged placed) where
  module _ (A B : ℕ → ℕ → ℕ → ℕ → Holder → Type 0) (agree : Agree A B) where
    one_followed : (host tid place end : ℕ) (l : Link) (h k : Holder) → IsFollowed merged placed A host tid place end l h → IsFollowed merged placed B host tid place end l k → h ≡ k
    one_followed host tid place end (Thread g u) h k x y = agree g u place end h k x y
    one_followed host tid place end (Net g u send) h k (inl x) (inl y) = agree g u place send h k x.1 y.1
    one_followed host tid place end (Net g u send) h k (inl x) (inr y) = let a = x.0 in let b = y.0 in absurd (omega (arith, a, b))
    one_followed host tid place end (Net g u send) h k (inr x) (inl y) = let a = x.0 in let b = y.0 in absurd (omega (arith, a, b))
    one_followed host tid place end (Net g u send) h k (inr x) (inr y) = x.1 ∙ sym y.1
    one_followed host tid place end Timer h k x y = x ∙ sym y
    one_followed host tid place end Disk h k x y = x ∙ sym y
    one_followed host tid place end Interrupt h k x y = x ∙ sym y
    one_followed host tid place end Nobody h k x y = x ∙ sym y
    one_followed host tid place end Nothing h k x y = absurd x

    one_blocked : (host tid place limit : ℕ) (h k : Holder) → HoldsBlocked merged placed A host tid place limit h → HoldsBlocked merged placed B host tid place limit k → h ≡ k
    one_blocked host tid place limit h k (inl x) (inl y) = x.1 ∙ sym y.1
    one_blocked host tid place limit h k (inl x) (inr y) = absurd (x.0 y.0 y.2)
    one_blocked host tid place limit h k (inr x) (inl y) = absurd (y.0 x.0 x.2)
    one_blocked host tid place limit h k (inr x) (inr y) =
        let ends = one_end merged host tid place limit x.0 y.0 x.2 y.2 in
        let links = one_link merged placed messages host y.0 tid x.1 y.1 (subst (λ n. IsLinkAt merged placed host tid n x.1) ends x.3) y.3 in
        one_followed host tid place y.0 y.1 h k (subst (λ l. IsFollowed merged placed A host tid place y.0 l h) links (subst (λ n. IsFollowed merged placed A host tid place n x.1 h) ends x.4)) y.4

    one_by_state : (s : ThreadState) (host tid place limit : ℕ) (h k : Holder) → HoldsByState merged placed A s host tid place limit h → HoldsByState merged placed B s host tid place limit k → h ≡ k
    one_by_state state.Running host tid place limit h k x y = x ∙ sym y
    one_by_state state.Waiting host tid place limit h k x y = x ∙ sym y
    one_by_state state.Unknown host tid place limit h k x y = x ∙ sym y
    one_by_state state.Blocked host tid place limit h k x y = one_blocked host tid place limit h k x y

  -- however many waits are allowed
  pub one_by : (m n : ℕ) → Agree (HoldsBy merged placed m) (HoldsBy merged placed n)
  one_by zero zero host tid place limit h k x y = one_by_state (λ _ _ _ _ _. ⊥) (λ _ _ _ _ _. ⊥) (λ _ _ _ _ _ _ a b. absurd a) _ host tid place limit h k x y
  one_by zero (suc n) host tid place limit h k x y = one_by_state (λ _ _ _ _ _. ⊥) (HoldsBy merged placed n) (λ _ _ _ _ _ _ a b. absurd a) _ host tid place limit h k x y
  one_by (suc m) zero host tid place limit h k x y = one_by_state (HoldsBy merged placed m) (λ _ _ _ _ _. ⊥) (λ _ _ _ _ _ _ a b. absurd b) _ host tid place limit h k x y
  one_by (suc m) (suc n) host tid place limit h k x y = one_by_state (HoldsBy merged placed m) (HoldsBy merged placed n) (one_by m n) _ host tid place limit h k x y

one_last : (keys : List ℕ) (t p q : ℕ) → IsLastAt keys t p → IsLastAt keys t q → p ≡ q
one_last keys t p q a b = dite (ℕ_discrete p q) (λ e. e) (λ ne. dite (dec_lt p q)
    (λ lt. let c = a.last q b.key lt b.there in let d = b.not_after in absurd (omega (arith, c, d)))
    (λ ge. let c = b.last p a.key (omega (arith, ne, ge)) a.there in let d = a.not_after in absurd (omega (arith, c, d))))

pub one_holder : HaveOneHolder
one_holder merged placed is host tid t h k x y = by x y
  where
    by : HoldsAt merged placed host tid t h → HoldsAt merged placed host tid t k → h ≡ k
    by (inl a) (inl b) = one_by merged placed is.messages a.1 b.1 host tid b.0 (length merged) h k (subst (λ p. HoldsBy merged placed a.1 host tid p (length merged) h) (one_last _ t a.0 b.0 a.2 b.2) a.3) b.3
    by (inl a) (inr b) = absurd (b.0 a.0 a.2)
    by (inr a) (inl b) = absurd (a.0 b.0 b.2)
    by (inr a) (inr b) = a.1 ∙ sym b.1
