-- Somebody holds each thread up at each instant.
use Rattle.std.proofs.Common.{◌≡◌, ◌⊎◌, inl, inr, ⊎_elim, ℕ, zero, suc, ◌+◌, ◌<◌, ◌≤◌, List, length, map, refl, subst, arith}
use Rattle.std.proofs.lemmas.Option.{slice_get_within}
use Rattle.trace_types.specs.declared.event.Merged.{Merged}
use Rattle.host_merge.specs.declared.placed.Placed.{Placed}
use Rattle.wait_graph.specs.States.{state_after}
use Rattle.wait_graph.specs.Graph.{AreMessagePlaces, IsChange, IsLastAt}
use Rattle.wait_graph.specs.declared.vertex.ThreadState.{ThreadState}
use Rattle.wait_graph.specs.declared.vertex.ThreadState.TheVariants as state
use Rattle.wait_graph.specs.declared.vertex.Link.{Link}
use Rattle.wait_graph.specs.declared.vertex.Link.TheVariants.{Nothing, Thread, Net, Timer, Disk, Interrupt, Nobody}
use Rattle.wait_graph.proofs.Noting.{same_or_not}
use Rattle.critical_path.specs.Holder.{holds, EndsBy, HoldsAt}
use Rattle.critical_path.specs.Laws.{SomebodyHolds}
use Rattle.critical_path.specs.Steps.{FollowsOn, HasHolder, IsWaitBy, WakesNot}
use Rattle.critical_path.specs.declared.piece.Holder.{Holder}
use Rattle.critical_path.specs.declared.piece.What.TheVariants as what
use Rattle.critical_path.specs.declared.holder.Followed.{Followed}
use Rattle.critical_path.proofs.Keys.{last_or_none}
use Rattle.critical_path.proofs.LinkExists.{link_exists}
use Rattle.critical_path.proofs.Following.{by_disk, by_interrupt, by_nobody, by_nothing, by_sender, by_thread, by_timer, by_transit, held_endless, held_running, held_unknown, held_waiting}
use native.Mathlib.Decide.{dec_lt}
use mathlib.Core.Logic.{dite}

module _ (merged : List Merged) (host tid place : ℕ) where
  -- the next change among some places, or none
  abbrev NextBy : ℕ → Type 0
  NextBy k = (p : ℕ) × ((place < p) × (IsChange merged host tid p × ((q : ℕ) → place < q → q < p → ¬ IsChange merged host tid q)))

  next_or_none : (k : ℕ) → NextBy k ⊎ ((p : ℕ) → place < p → p ≤ place + k → ¬ IsChange merged host tid p)
  next_or_none zero = inr (λ p lo hi. absurd (omega (arith, lo, hi)))
  next_or_none (suc k) = ⊎_elim (λ f. inl f) (λ none. by none) (next_or_none k)
    where
      changes : ((p : ℕ) → place < p → p ≤ place + k → ¬ IsChange merged host tid p) → IsChange merged host tid (place + suc k) → NextBy (suc k)
      changes none ch = (place + suc k, (omega arith, (ch, λ q lo hi. none q lo (omega (arith, hi)))))

      same : ((p : ℕ) → place < p → p ≤ place + k → ¬ IsChange merged host tid p) → ¬ IsChange merged host tid (place + suc k) → (p : ℕ) → place < p → p ≤ place + suc k → ¬ IsChange merged host tid p
      same none still p lo hi = dite (dec_lt p (place + suc k)) (λ lt. none p lo (omega (arith, lt)))
          (λ ge. let e : place + suc k ≡ p = omega (arith, ge, hi) in subst (λ n. ¬ IsChange merged host tid n) e still)

      by : ((p : ℕ) → place < p → p ≤ place + k → ¬ IsChange merged host tid p) → NextBy (suc k) ⊎ ((p : ℕ) → place < p → p ≤ place + suc k → ¬ IsChange merged host tid p)
      by none = dite (dec_lt (place + suc k) (length merged))
          (λ lt. ⊎_elim (λ e. inr (same none (λ ch. ch.1 e))) (λ ne. inl (changes none (lt, ne))) (same_or_not (state_after merged host tid ((place + suc k) + 1)) (state_after merged host tid (place + suc k))))
          (λ ge. inr (same none (λ ch. ge ch.0)))

  -- a wait ends by the limit, or not
  ends_or_not : (limit : ℕ) → ((end : ℕ) × EndsBy merged host tid place limit end) ⊎ ((end : ℕ) → ¬ EndsBy merged host tid place limit end)
  ends_or_not limit = ⊎_elim found (λ none. inr (λ end is. let lt = is.next.after in let le = is.within in none end lt (omega (arith, le)) is.next.changes)) (next_or_none limit)
    where
      found : NextBy limit → ((end : ℕ) × EndsBy merged host tid place limit end) ⊎ ((end : ℕ) → ¬ EndsBy merged host tid place limit end)
      found f = dite (dec_lt limit f.0)
          (λ late. inr (λ end is. let le = is.within in f.1.1.1 end is.next.after (omega (arith, late, le)) is.next.changes))
          (λ by. inl (f.0, record { next = record { after = f.1.0; changes = f.1.1.0; next = f.1.1.1 }; within = omega (arith, by) }))

module _ (merged : List Merged) (placed : List Placed) (messages : AreMessagePlaces merged placed) (place : ℕ) where
  abbrev Somebody : Followed → Type 0
  Somebody f = (h : Holder) × HasHolder merged placed f.host f.tid place f.limit h

  -- the followed thread has a holder where those with lower limits have one
  module _ (followed : Followed) (unwoken : WakesNot merged followed.tid followed.limit) (lower : (next : Followed) → next.limit < followed.limit → WakesNot merged next.tid next.limit → Somebody next) where
    on : (next : Followed) → FollowsOn merged placed place followed next → Somebody followed
    on next is = let more = lower next (is.falls unwoken) is.unwoken in (more.0, is.held more.0 more.1)

    by_link : (end : ℕ) (l : Link) → IsWaitBy merged placed place followed end l → Somebody followed
    by_link end (Thread g u) is = on _ (by_thread merged placed place followed end g u is)
    by_link end (Net g u send) is = dite (dec_lt place send) (λ lt. on _ (by_sender merged placed place followed end g u send lt is)) (λ ge. (_, by_transit merged placed place followed end g u send (omega (arith, ge)) is))
    by_link end Timer is = (_, by_timer merged placed place followed end is)
    by_link end Disk is = (_, by_disk merged placed place followed end is)
    by_link end Interrupt is = (_, by_interrupt merged placed place followed end is)
    by_link end Nobody is = (_, by_nobody merged placed place followed end is)
    by_link end Nothing is = absurd (by_nothing merged placed place followed end is)

    by_end : state_after merged followed.host followed.tid (place + 1) ≡ state.Blocked → ((end : ℕ) × EndsBy merged followed.host followed.tid place followed.limit end) ⊎ ((end : ℕ) → ¬ EndsBy merged followed.host followed.tid place followed.limit end) → Somebody followed
    by_end now (inl f) =
        let l = link_exists merged placed messages followed.host followed.tid f.0 f.1.next.changes.0 in
        by_link f.0 l.0 (record { messages = messages; now = now; ends = f.1; ended_by = l.1 })
    by_end now (inr none) = (_, held_endless merged placed followed.host followed.tid place followed.limit now none)

    by_state : (s : ThreadState) → state_after merged followed.host followed.tid (place + 1) ≡ s → Somebody followed
    by_state state.Running e = (_, held_running merged placed followed.host followed.tid place followed.limit e)
    by_state state.Waiting e = (_, held_waiting merged placed followed.host followed.tid place followed.limit e)
    by_state state.Unknown e = (_, held_unknown merged placed followed.host followed.tid place followed.limit e)
    by_state state.Blocked e = by_end e (ends_or_not merged followed.host followed.tid place followed.limit)

  somebody_by : (n : ℕ) (followed : Followed) → followed.limit ≤ n → WakesNot merged followed.tid followed.limit → Somebody followed
  somebody_by zero followed le unwoken = by_state followed unwoken (λ next lt _. absurd (omega (arith, le, lt))) _ refl
  somebody_by (suc n) followed le unwoken = by_state followed unwoken (λ next lt quiet. somebody_by n next (omega (arith, le, lt)) quiet) _ refl

pub somebody_holds : SomebodyHolds
somebody_holds merged placed is host tid t = ⊎_elim found (λ none. (holds host tid what.Unknown, inr ((λ p last. let lt = none p last.key last.there in let le = last.not_after in omega (arith, lt, le)), refl))) (last_or_none (map (λ (m : Merged). m.key) merged) t)
  where
    found : (p : ℕ) × IsLastAt (map (λ (m : Merged). m.key) merged) t p → (h : Holder) × HoldsAt merged placed host tid t h
    found f =
        let some = somebody_by merged placed is.messages f.0 (length merged) (record { host = host; tid = tid; limit = length merged }) (omega arith) (λ event at. let lt = slice_get_within merged (length merged) event at in absurd (omega (arith, lt))) in
        (some.0, inl (f.0, some.1.0, f.1, some.1.1))
