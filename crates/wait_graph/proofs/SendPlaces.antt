-- The sends of messages, by the places of their receives.
use Rattle.std.proofs.Common.{◌≡◌, ◌∙◌, ℕ, ◌+◌, ◌<◌, ◌≤◌, List, Option, None, Some, length, set, replicate, slice_get, refl, sym, ap, subst, arith}
use Rattle.std.proofs.lemmas.Option.{slice_get_within}
use Rattle.std.proofs.lemmas.List.{length-replicate, length-set}
use Rattle.trace_types.specs.declared.event.Merged.{Merged}
use Rattle.host_merge.specs.declared.placed.Placed.{Placed}
use Rattle.host_tree.proofs.Gets.{at_set, beside_set, at_replicate}
use Rattle.wait_graph.specs.Graph.{AreMessagePlaces}
use Rattle.wait_graph.specs.Moments.{AreSends, AreSendsSoFar}
use native.Mathlib.Decide.{dec_lt, ℕ_discrete}
use mathlib.Core.Logic.{dite}

none_some : (sends : List (Option ℕ)) (i send : ℕ) → slice_get sends i ≡ Some (Some send) → slice_get sends i ≡ Some None → ⊥
none_some sends i send g h = cc

named : (p : Placed) (send receive : ℕ) → p.send ≡ send → p.receive ≡ receive → Some p ≡ Some (record { send = send; receive = receive })
named p send receive e f = rw (sym e, sym f) refl

module _ (merged : List Merged) (placed : List Placed) where
  pub none_so_far : (sends : List (Option ℕ)) → sends ≡ replicate (length merged) None → AreSendsSoFar merged placed 0 sends
  none_so_far sends is = record {
    places = ap length is ∙ length-replicate (length merged) None;
    some = λ receive send at. let r = subst (λ l. slice_get l receive ≡ Some (Some send)) is at in
        let lt : receive < length merged = subst (λ n. receive < n) (length-replicate (length merged) None) (slice_get_within _ receive _ r) in
        let e = at_replicate (length merged) receive None lt in absurd (none_some _ receive send r e);
    all = λ k receive send lt at before. absurd (omega (arith, lt));
  }

  pub put_so_far : (i : ℕ) (p : Placed) (sends : List (Option ℕ)) → AreMessagePlaces merged placed → slice_get placed i ≡ Some p → p.send < p.receive → p.receive < length merged → AreSendsSoFar merged placed i sends
      → AreSendsSoFar merged placed (i + 1) (set sends p.receive (Some p.send))
  put_so_far i p sends messages at lt within old = record {
    places = length-set sends p.receive (Some p.send) ∙ old.places;
    some = λ receive send got. dite (ℕ_discrete receive p.receive)
        (λ q. let g = subst (λ r. slice_get (set sends p.receive (Some p.send)) r ≡ Some (Some send)) q got in
        let h = at_set sends p.receive (Some p.send) room in
        let e : p.send ≡ send = cc in
        (subst (λ s. s < receive) e (subst (λ r. p.send < r) (sym q) lt), (i, at ∙ named p send receive e (sym q))))
        (λ ne. old.some receive send (sym (beside_set sends p.receive receive (Some p.send) ne) ∙ got));
    all = λ k receive send below got before. dite (ℕ_discrete k i)
        (λ q. let g = subst (λ n. slice_get placed n ≡ Some (record { send = send; receive = receive })) q got in
        let e : p ≡ record { send = send; receive = receive } = cc in
        let s = ap (λ x. x.send) e in
        let r = ap (λ x. x.receive) e in
        subst (λ n. slice_get (set sends p.receive (Some p.send)) n ≡ Some (Some send)) r (at_set sends p.receive (Some p.send) room ∙ ap (λ n. Some (Some n)) s))
        (λ ne. beside_set sends p.receive receive (Some p.send) (λ q. ne (messages.once k i (record { send = send; receive = receive }) p got at q)) ∙ old.all k receive send (omega (arith, below, ne)) got before);
  }
    where
      room : p.receive < length sends
      room = subst (λ n. p.receive < n) (sym old.places) within

  pub skip_so_far : (i : ℕ) (p : Placed) (sends : List (Option ℕ)) → slice_get placed i ≡ Some p → p.receive ≤ p.send → AreSendsSoFar merged placed i sends → AreSendsSoFar merged placed (i + 1) sends
  skip_so_far i p sends at nlt old = record {
    places = old.places;
    some = old.some;
    all = λ k receive send below got before. dite (ℕ_discrete k i)
        (λ q. let g = subst (λ n. slice_get placed n ≡ Some (record { send = send; receive = receive })) q got in
        let e : p ≡ record { send = send; receive = receive } = cc in
        let lt = subst (λ (x : Placed). x.send < x.receive) (sym e) before in absurd (omega (arith, lt, nlt)))
        (λ ne. old.all k receive send (omega (arith, below, ne)) got before);
  }

  pub one_so_far : (i : ℕ) (p : Placed) (sends new : List (Option ℕ)) → AreMessagePlaces merged placed → slice_get placed i ≡ Some p → p.receive < length merged → AreSendsSoFar merged placed i sends
      → (p.send < p.receive → new ≡ set sends p.receive (Some p.send)) → (p.receive ≤ p.send → new ≡ sends) → AreSendsSoFar merged placed (i + 1) new
  one_so_far i p sends new messages at within old put skip = dite (dec_lt p.send p.receive)
      (λ lt. subst (AreSendsSoFar merged placed (i + 1)) (sym (put lt)) (put_so_far i p sends messages at lt within old))
      (λ nlt. subst (AreSendsSoFar merged placed (i + 1)) (sym (skip (omega arith))) (skip_so_far i p sends at (omega arith) old))

  pub sends_so_far : (sends : List (Option ℕ)) (i : ℕ) → length placed ≤ i → AreSendsSoFar merged placed i sends → AreSends merged placed sends
  sends_so_far sends i all old = record {
    count = old.places;
    some = old.some;
    all = λ k receive send got before. old.all k receive send (let w = slice_get_within placed k _ got in omega (arith, w, all)) got before;
  }
