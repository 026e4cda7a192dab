-- Steps on the way to who holds a thread up.
use Rattle.std.proofs.Common.{◌≡◌, ◌≢◌, ◌∙◌, ◌⊎◌, inl, inr, ⊎_elim, ℕ, zero, suc, ◌+◌, ◌-◌, ◌<◌, ◌≤◌, Bool, true, false, true≢false, List, Option, None, Some, IfSome, length, map, slice_get, refl, sym, ap, subst, arith}
use Rattle.std.proofs.lemmas.Option.{slice_get_within}
use Rattle.std.proofs.lemmas.List.{length-map}
use Rattle.trace_types.specs.declared.event.Merged.{Merged}
use Rattle.trace_types.specs.declared.event.KernelEvent.TheVariants.{Send}
use Rattle.trace_types.specs.declared.segment.SegKey.{SegKey}
use Rattle.host_merge.specs.declared.placed.Placed.{Placed}
use Rattle.host_tree.proofs.Gets.{one_get}
use Rattle.wait_graph.specs.States.{state_after}
use Rattle.wait_graph.specs.Links.{wakes, IsLinkAt}
use Rattle.wait_graph.specs.Graph.{AreMessagePlaces, HoldsPlace, IsChange, IsGraphOf, IsStretch, WaitGraph}
use Rattle.wait_graph.specs.declared.vertex.ThreadState.{ThreadState}
use Rattle.wait_graph.specs.declared.vertex.ThreadState.TheVariants as state
use Rattle.wait_graph.specs.declared.vertex.Link.{Link}
use Rattle.wait_graph.specs.declared.vertex.Link.TheVariants.{Nothing, Thread, Net, Timer, Disk, Interrupt, Nobody}
use Rattle.wait_graph.specs.declared.vertex.Vertex.{Vertex}
use Rattle.wait_graph.proofs.Noting.{same_or_not}
use Rattle.wait_graph.proofs.Waking.{wakes_one}
use Rattle.critical_path.specs.Holder.{holds, EndsBy, HoldsBlocked, HoldsBy, HoldsByState, IsFollowed}
use Rattle.critical_path.specs.Steps.{FollowsOn, HasHolder, IsFollowedBy, IsNext, IsWaitBy, IsWithin, LeadsTo}
use Rattle.critical_path.specs.declared.piece.What.TheVariants as what
use Rattle.critical_path.specs.declared.piece.Holder.{Holder}
use Rattle.critical_path.specs.declared.holder.Followed.{Followed}
use Rattle.critical_path.specs.declared.holder.Next.TheVariants.{Held}
use Rattle.critical_path.proofs.LinkViews.{link_known, IsKnown, IsSentBefore, IsWoken}
use native.Mathlib.Decide.{dec_lt, ℕ_discrete}
use mathlib.Core.Logic.{dite}

moved : (P : ℕ → ℕ → Type 0) (h g t u : ℕ) → h ≡ g → t ≡ u → P h t → P g u
moved P h g t u e f x = subst (λ n. P n u) e (subst (P h) f x)

-- ---- states between changes
module _ (merged : List Merged) (host tid : ℕ) where
  still : (place : ℕ) → place < length merged → ¬ IsChange merged host tid place → state_after merged host tid (place + 1) ≡ state_after merged host tid place
  still place lt unchanged = ⊎_elim (λ e. e) (λ ne. absurd (unchanged (lt, ne))) (same_or_not _ _)

  stays : (a k : ℕ) → a + k ≤ length merged → ((p : ℕ) → a ≤ p → p < a + k → ¬ IsChange merged host tid p) → state_after merged host tid (a + k) ≡ state_after merged host tid a
  stays a zero le unchanged = let same : a + 0 ≡ a = omega arith in ap (state_after merged host tid) same
  stays a (suc k) le unchanged =
      let next : a + suc k ≡ (a + k) + 1 = omega arith in
      ap (state_after merged host tid) next ∙ (still (a + k) (omega (arith, le)) (unchanged (a + k) (omega arith) (omega arith)) ∙ stays a k (omega (arith, le)) (λ p lo hi. unchanged p lo (omega (arith, hi))))

  -- nothing is known of the thread, or there was a last change
  pub last_change : (k : ℕ) → k ≤ length merged → (state_after merged host tid k ≡ state.Unknown) ⊎ ((p : ℕ) × ((p < k) × (IsChange merged host tid p × ((q : ℕ) → p < q → q < k → ¬ IsChange merged host tid q))))
  last_change zero le = inl refl
  last_change (suc k) le = ⊎_elim
      (λ same. ⊎_elim (λ none. inl (now ∙ (same ∙ none))) (λ f. inr (earlier same f)) (last_change k (omega (arith, le))))
      (λ ne. inr (k, (omega arith, ((omega (arith, le), ne), λ q lo hi. absurd (omega (arith, lo, hi))))))
      (same_or_not (state_after merged host tid (k + 1)) (state_after merged host tid k))
    where
      now : state_after merged host tid (suc k) ≡ state_after merged host tid (k + 1)
      now = let same : suc k ≡ k + 1 = omega arith in ap (state_after merged host tid) same

      earlier : state_after merged host tid (k + 1) ≡ state_after merged host tid k → ((p : ℕ) × ((p < k) × (IsChange merged host tid p × ((q : ℕ) → p < q → q < k → ¬ IsChange merged host tid q))))
          → (p : ℕ) × ((p < suc k) × (IsChange merged host tid p × ((q : ℕ) → p < q → q < suc k → ¬ IsChange merged host tid q)))
      earlier same f =
          let lt = f.1.0 in
          (f.0, (omega (arith, lt), (f.1.1.0, λ q lo hi. dite (ℕ_discrete q k) (λ e. subst (λ n. ¬ IsChange merged host tid n) (sym e) (λ ch. ch.1 same)) (λ ne. f.1.1.1 q lo (omega (arith, hi, ne))))))

module _ (merged : List Merged) (v : Vertex) (place : ℕ) (is : IsStretch merged v) (is_on : HoldsPlace v place) where
  still_inside : (p : ℕ) → v.start < p → p ≤ place → ¬ IsChange merged v.host v.tid p
  still_inside p low high = by v.end refl is_on.1
    where
      by : (o : Option ℕ) → v.end ≡ o → IfSome o (λ end. place < end) → ¬ IsChange merged v.host v.tid p
      by None e h = is.to_the_end e p low
      by (Some end) e h = (is.ended end e).2 p low (omega (arith, high, h))

  -- in a stretch the thread's state is its vertex's
  pub state_inside : place < length merged → state_after merged v.host v.tid (place + 1) ≡ v.state
  state_inside lt =
      let begun = is_on.0 in
      let far : (v.start + 1) + (place - v.start) ≡ place + 1 = omega (arith, begun) in
      ap (state_after merged v.host v.tid) (sym far)
      ∙ (stays merged v.host v.tid (v.start + 1) (place - v.start) (omega (arith, far, lt)) (λ p lo hi. still_inside p (omega (arith, lo)) (omega (arith, hi, far))) ∙ sym is.state)

  past : (end : ℕ) → v.end ≡ Some end → place < end
  past end e = subst (λ o. IfSome o (λ x. place < x)) e is_on.1

  pub ends_by : (end limit : ℕ) → v.end ≡ Some end → end ≤ limit → EndsBy merged v.host v.tid place limit end
  ends_by end limit e le = record {
    next = record {
      after = past end e;
      changes = (is.ended end e).1;
      next = λ b lo hi. let begun = is_on.0 in (is.ended end e).2 b (omega (arith, begun, lo)) hi;
    };
    within = le;
  }

  pub endless : (limit : ℕ) → v.end ≡ None → (end : ℕ) → ¬ EndsBy merged v.host v.tid place limit end
  endless limit e end by = let begun = is_on.0 in let after = by.next.after in is.to_the_end e end (omega (arith, begun, after)) by.next.changes

  pub too_late : (end limit : ℕ) → v.end ≡ Some end → limit < end → (other : ℕ) → ¬ EndsBy merged v.host v.tid place limit other
  too_late end limit e late other by =
      let begun = is_on.0 in let after = by.next.after in let within = by.within in
      (is.ended end e).2 other (omega (arith, begun, after)) (omega (arith, late, within)) by.next.changes

-- ---- the thread of a vertex
pub same_length : (merged : List Merged) (keys : List ℕ) → keys ≡ map (λ (m : Merged). m.key) merged → length keys ≡ length merged
same_length merged keys e = ap length e ∙ length-map merged (λ (m : Merged). m.key)

module _ (merged : List Merged) (placed : List Placed) (graph : WaitGraph) (is : IsGraphOf merged placed graph) (host tid place : ℕ) (within : place < length graph.keys) where
  pub place_within : place < length merged
  place_within = let n = same_length merged graph.keys is.keys in omega (arith, within, n)

  pub state_of_vertex : (number : ℕ) (v : Vertex) → slice_get graph.vertices number ≡ Some v → v.host ≡ host → v.tid ≡ tid → HoldsPlace v place → state_after merged host tid (place + 1) ≡ v.state
  state_of_vertex number v at h t is_on = moved (λ g u. state_after merged g u (place + 1) ≡ v.state) v.host host v.tid tid h t (state_inside merged v place (is.vertices.stretches number v at) is_on place_within)

  -- where no vertex of the thread holds the place, nothing is known of it
  pub state_of_none : tid ≢ 0 → ((number : ℕ) (v : Vertex) → slice_get graph.vertices number ≡ Some v → v.host ≡ host → v.tid ≡ tid → ¬ HoldsPlace v place) → state_after merged host tid (place + 1) ≡ state.Unknown
  state_of_none nz none = ⊎_elim (λ e. e) (λ f. absurd (found f)) (last_change merged host tid (place + 1) (let lt = place_within in omega (arith, lt)))
    where
      found : ((p : ℕ) × ((p < place + 1) × (IsChange merged host tid p × ((q : ℕ) → p < q → q < place + 1 → ¬ IsChange merged host tid q)))) → ⊥
      found f = none x.0 x.1 x.2 x.3 x.4 (omega (arith, low, start), by x.1.end refl)
        where
          x : (number : ℕ) × (v : Vertex) × (slice_get graph.vertices number ≡ Some v) × (v.host ≡ host) × (v.tid ≡ tid) × (v.start ≡ f.0)
          x = is.vertices.all host tid f.0 nz f.1.1.0

          low : f.0 < place + 1
          low = f.1.0

          start : x.1.start ≡ f.0
          start = x.5

          by : (o : Option ℕ) → x.1.end ≡ o → IfSome o (λ end. place < end)
          by None e = tt
          by (Some end) e =
              let ended = (is.vertices.stretches x.0 x.1 x.2).ended end e in
              let after = ended.0 in
              dite (dec_lt place end) (λ lt. lt) (λ ge. absurd (f.1.1.1 end (omega (arith, start, after)) (omega (arith, ge)) (moved (λ g u. IsChange merged g u end) x.1.host host x.1.tid tid x.3 x.4 ended.1)))

pub found_on : (vertices : List Vertex) (number host tid place : ℕ) (v : Vertex) → (u : Vertex) × (slice_get vertices number ≡ Some u) × (u.host ≡ host) × (u.tid ≡ tid) × HoldsPlace u place → slice_get vertices number ≡ Some v → HoldsPlace v place
found_on vertices number host tid place v found at = subst (λ (u : Vertex). HoldsPlace u place) (one_get vertices number found.0 v found.1 at) found.4

-- the stretch that is found is the thread's at each place up to its end
module _ (merged : List Merged) (placed : List Placed) (graph : WaitGraph) (is : IsGraphOf merged placed graph) (messages : AreMessagePlaces merged placed) (followed : Followed) (place : ℕ) where
  stretch_at : (number : ℕ) (v : Vertex) → slice_get graph.vertices number ≡ Some v → v.host ≡ followed.host → v.tid ≡ followed.tid → HoldsPlace v place → (until p : ℕ) → IsWithin v.end (length graph.keys) until → place ≤ p → p < until → IsFollowedBy merged placed p followed v
  stretch_at number v at h t is_on until p within low high = record {
    messages = messages;
    stretch = is.vertices.stretches number v at;
    has_link = is.vertices.links number v at;
    of_host = h;
    of_tid = t;
    is_on = still_on;
    now = state_of_vertex merged placed graph is followed.host followed.tid p (inside v.end refl within) number v at h t still_on;
  }
    where
      below : (o : Option ℕ) → IsWithin o (length graph.keys) until → IfSome o (λ end. p < end)
      below None w = tt
      below (Some end) w = omega (arith, w, high)

      still_on : HoldsPlace v p
      still_on = let begun = is_on.0 in (omega (arith, begun, low), below v.end within)

      inside : (o : Option ℕ) → v.end ≡ o → IsWithin o (length graph.keys) until → p < length graph.keys
      inside None e w = omega (arith, w, high)
      inside (Some end) e w =
          let lt = ((is.vertices.stretches number v at).ended end e).1.0 in
          let n = same_length merged graph.keys is.keys in
          omega (arith, w, high, lt, n)

  pub followed_by : (number : ℕ) (v : Vertex) → (u : Vertex) × (slice_get graph.vertices number ≡ Some u) × (u.host ≡ followed.host) × (u.tid ≡ followed.tid) × HoldsPlace u place → slice_get graph.vertices number ≡ Some v
      → (until p : ℕ) → IsWithin v.end (length graph.keys) until → place ≤ p → p < until → IsFollowedBy merged placed p followed v
  followed_by number v found at =
      let same = one_get graph.vertices number found.0 v found.1 at in
      stretch_at number v at (subst (λ (u : Vertex). u.host ≡ followed.host) same found.2) (subst (λ (u : Vertex). u.tid ≡ followed.tid) same found.3) (subst (λ (u : Vertex). HoldsPlace u place) same found.4)

-- ---- holders
module _ (merged : List Merged) (placed : List Placed) where
  by_state : (More : ℕ → ℕ → ℕ → ℕ → Holder → Type 0) (s : ThreadState) (host tid place limit : ℕ) (h : Holder) → s ≡ state.Blocked → HoldsBlocked merged placed More host tid place limit h → HoldsByState merged placed More s host tid place limit h
  by_state More s host tid place limit h e x = rw e x

  pub held_running : (host tid place limit : ℕ) → state_after merged host tid (place + 1) ≡ state.Running → HasHolder merged placed host tid place limit (holds host tid what.Running)
  held_running host tid place limit e = (0, rw e refl)

  pub held_waiting : (host tid place limit : ℕ) → state_after merged host tid (place + 1) ≡ state.Waiting → HasHolder merged placed host tid place limit (holds host tid what.Waiting)
  held_waiting host tid place limit e = (0, rw e refl)

  pub held_unknown : (host tid place limit : ℕ) → state_after merged host tid (place + 1) ≡ state.Unknown → HasHolder merged placed host tid place limit (holds host tid what.Unknown)
  held_unknown host tid place limit e = (0, rw e refl)

  pub held_endless : (host tid place limit : ℕ) → state_after merged host tid (place + 1) ≡ state.Blocked → ((end : ℕ) → ¬ EndsBy merged host tid place limit end) → HasHolder merged placed host tid place limit (holds host tid what.Unknown)
  held_endless host tid place limit now none = (0, by_state (λ _ _ _ _ _. ⊥) _ host tid place limit _ now (inl (none, refl)))

  module _ (place : ℕ) (followed : Followed) where
    pub runs : (v : Vertex) → IsFollowedBy merged placed place followed v → v.state ≡ state.Running → IsNext merged placed place followed (Held (holds followed.host followed.tid what.Running))
    runs v is e = held_running followed.host followed.tid place followed.limit (is.now ∙ e)

    pub waits : (v : Vertex) → IsFollowedBy merged placed place followed v → v.state ≡ state.Waiting → IsNext merged placed place followed (Held (holds followed.host followed.tid what.Waiting))
    waits v is e = held_waiting followed.host followed.tid place followed.limit (is.now ∙ e)

    pub is_unknown : (v : Vertex) → IsFollowedBy merged placed place followed v → v.state ≡ state.Unknown → IsNext merged placed place followed (Held (holds followed.host followed.tid what.Unknown))
    is_unknown v is e = held_unknown followed.host followed.tid place followed.limit (is.now ∙ e)

    wait_endless : (v : Vertex) → IsFollowedBy merged placed place followed v → v.state ≡ state.Blocked → ((end : ℕ) → ¬ EndsBy merged v.host v.tid place followed.limit end)
        → HasHolder merged placed followed.host followed.tid place followed.limit (holds followed.host followed.tid what.Unknown)
    wait_endless v is blocked none = held_endless followed.host followed.tid place followed.limit (is.now ∙ blocked) (moved (λ g u. (end : ℕ) → ¬ EndsBy merged g u place followed.limit end) v.host followed.host v.tid followed.tid is.of_host is.of_tid none)

    pub wait_without_end : (v : Vertex) → IsFollowedBy merged placed place followed v → v.state ≡ state.Blocked → v.end ≡ None → IsNext merged placed place followed (Held (holds followed.host followed.tid what.Unknown))
    wait_without_end v is blocked e = wait_endless v is blocked (endless merged v place is.stretch is.is_on followed.limit e)

    pub wait_past_limit : (v : Vertex) (end : ℕ) → IsFollowedBy merged placed place followed v → v.state ≡ state.Blocked → v.end ≡ Some end → followed.limit < end → IsNext merged placed place followed (Held (holds followed.host followed.tid what.Unknown))
    wait_past_limit v end is blocked e late = wait_endless v is blocked (too_late merged v place is.stretch is.is_on end followed.limit e late)

    pub wait_by : (v : Vertex) (end : ℕ) → IsFollowedBy merged placed place followed v → v.state ≡ state.Blocked → v.end ≡ Some end → end ≤ followed.limit → IsWaitBy merged placed place followed end v.link
    wait_by v end is blocked e le = record {
      messages = is.messages;
      now = is.now ∙ blocked;
      ends = moved (λ g u. EndsBy merged g u place followed.limit end) v.host followed.host v.tid followed.tid is.of_host is.of_tid (ends_by merged v place is.stretch is.is_on end followed.limit e le);
      ended_by = moved (λ g u. IsLinkAt merged placed g u end v.link) v.host followed.host v.tid followed.tid is.of_host is.of_tid (is.has_link.waited end blocked e);
    }

    module _ (end : ℕ) (link : Link) (is : IsWaitBy merged placed place followed end link) where
      known : IsKnown merged placed followed.tid end link
      known = link_known merged placed followed.tid end followed.host link is.ended_by

      more : (n : ℕ) (h : Holder) → IsFollowed merged placed (HoldsBy merged placed n) followed.host followed.tid place end link h → HasHolder merged placed followed.host followed.tid place followed.limit h
      more n h x = (suc n, by_state (HoldsBy merged placed n) _ followed.host followed.tid place followed.limit h is.now (inr (end, link, is.ends, is.ended_by, x)))

      here : (h : Holder) → IsFollowed merged placed (λ _ _ _ _ _. ⊥) followed.host followed.tid place end link h → HasHolder merged placed followed.host followed.tid place followed.limit h
      here h x = (0, by_state (λ _ _ _ _ _. ⊥) _ followed.host followed.tid place followed.limit h is.now (inr (end, link, is.ends, is.ended_by, x)))

    pub by_timer : (end : ℕ) → IsWaitBy merged placed place followed end Timer → IsNext merged placed place followed (Held (holds followed.host followed.tid what.Timer))
    by_timer end is = here end Timer is _ refl

    pub by_disk : (end : ℕ) → IsWaitBy merged placed place followed end Disk → IsNext merged placed place followed (Held (holds followed.host followed.tid what.Disk))
    by_disk end is = here end Disk is _ refl

    pub by_interrupt : (end : ℕ) → IsWaitBy merged placed place followed end Interrupt → IsNext merged placed place followed (Held (holds followed.host followed.tid what.Interrupt))
    by_interrupt end is = here end Interrupt is _ refl

    pub by_nobody : (end : ℕ) → IsWaitBy merged placed place followed end Nobody → IsNext merged placed place followed (Held (holds followed.host followed.tid what.Nobody))
    by_nobody end is = here end Nobody is _ refl

    pub by_nothing : (end : ℕ) → IsWaitBy merged placed place followed end Nothing → ⊥
    by_nothing end is = known end Nothing is

    pub by_thread : (end waker_host waker : ℕ) → IsWaitBy merged placed place followed end (Thread waker_host waker) → FollowsOn merged placed place followed (record { host = waker_host; tid = waker; limit = end })
    by_thread end waker_host waker is = record {
      held = λ h x. more end (Thread waker_host waker) is x.0 h x.1;
      is_thread = k.1.0;
      falls = λ unwoken. dite (ℕ_discrete end followed.limit)
          (λ e. absurd (true≢false (sym w.by ∙ unwoken w.event (subst (λ n. slice_get merged n ≡ Some w.event) e w.there))))
          (λ ne. let le = is.ends.within in omega (arith, le, ne));
      unwoken = λ event at. not_woken event (wakes waker event.event.kind) refl at;
    }
      where
        k : (waker ≢ followed.tid) × ((waker ≢ 0) × IsWoken merged followed.tid end)
        k = known end (Thread waker_host waker) is

        w : IsWoken merged followed.tid end
        w = k.1.1

        not_woken : (event : Merged) (b : Bool) → wakes waker event.event.kind ≡ b → slice_get merged end ≡ Some event → wakes waker event.event.kind ≡ false
        not_woken event false e at = e
        not_woken event true e at = absurd (k.0 (wakes_one event.event.kind waker followed.tid e (subst (λ (x : Merged). wakes followed.tid x.event.kind ≡ true) (one_get merged end w.event event w.there at) w.by)))

    pub by_transit : (end host tid send : ℕ) → send ≤ place → IsWaitBy merged placed place followed end (Net host tid send) → IsNext merged placed place followed (Held (holds followed.host followed.tid what.Transit))
    by_transit end host tid send le is = here end (Net host tid send) is _ (inr (le, refl))

    pub by_sender : (end host tid send : ℕ) → place < send → IsWaitBy merged placed place followed end (Net host tid send) → FollowsOn merged placed place followed (record { host = host; tid = tid; limit = send })
    by_sender end host tid send lt is = record {
      held = λ h x. more end (Net host tid send) is x.0 h (inl (lt, x.1));
      is_thread = k.0;
      falls = λ unwoken. let a = k.1.sent_before in let b = k.1.before in let le = is.ends.within in omega (arith, a, b, le);
      unwoken = λ event at. subst (λ kind. wakes tid kind ≡ false) (sym (kind event at)) refl;
    }
      where
        k : (tid ≢ 0) × IsSentBefore placed send end
        k = known end (Net host tid send) is

        key : SegKey
        key = (is.messages.sends k.1.number _ k.1.message).is_kind.0

        kind : (event : Merged) → slice_get merged send ≡ Some event → event.event.kind ≡ Send key
        kind event at =
            let s = is.messages.sends k.1.number _ k.1.message in
            subst (λ (x : Merged). x.event.kind ≡ Send key) (one_get merged send s.event event s.there at) s.is_kind.1

  -- ---- the way
  pub leads_begin : (host tid place : ℕ) → tid ≢ 0 → LeadsTo merged placed host tid place (record { host = host; tid = tid; limit = length merged })
  leads_begin host tid place nz = record {
    held = λ h x. x;
    is_thread = nz;
    unwoken = λ event at. let lt = slice_get_within merged (length merged) event at in absurd (omega (arith, lt));
  }

  pub leads_on : (host tid place : ℕ) (followed next : Followed) → LeadsTo merged placed host tid place followed → FollowsOn merged placed place followed next → LeadsTo merged placed host tid place next
  leads_on host tid place followed next leads on = record {
    held = λ h x. leads.held h (on.held h x);
    is_thread = on.is_thread;
    unwoken = on.unwoken;
  }
