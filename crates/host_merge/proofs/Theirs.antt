-- The messages of hosts: their times, their events in a merge, and the order of these.
use Rattle.std.proofs.Common.{All, Bool, true, false, cond, ◌≡◌, ◌<◌, ◌≤◌, ◌+◌, ◌-◌, ◌*◌, ◌^◌, ◌⊎◌, inl, inr, ℕ, zero, suc, Contains, Option, None, Some, List, [], ◌∷◌, length, get_or, map, filter, slice_get, count_by, refl, sym, ap, ◌∙◌, subst, arith}
use Rattle.std.specs.List.{cons_option, filter_map, range_with_len}
use Rattle.std.proofs.lemmas.Bool.{eq-eqb, ltb-true}
use Rattle.std.proofs.lemmas.List.{length-map}
use Rattle.std.proofs.lemmas.List.Sums.{length-filter}
use Rattle.std.proofs.lemmas.Option.{get_or_from_slice_get, slice_get-get_or, slice_get_within, some_pair_parts}
use Rattle.clock_fraction.specs.ClockMap.{IsMapAt}
use Rattle.clock_fraction.specs.declared.pair_map.PairMap.{PairMap}
use Rattle.hull_lines.specs.declared.outcome.Fit.{Fit}
use Rattle.hull_lines.specs.declared.outcome.Fit.TheVariants.{Map}
use Rattle.hull_lines.specs.declared.point.ClockPoint.{ClockPoint}
use Rattle.hull_lines.specs.Outcomes.{IfMap, IsMapOf}
use Rattle.message_match.specs.declared.message.Message.{Message}
use Rattle.message_match.specs.Messages.{AreMessages, HasEvent, IsMessage}
use Rattle.host_tree.specs.declared.parent.Parent.{Parent}
use Rattle.host_tree.specs.declared.parent.Parent.TheVariants.{Child}
use Rattle.host_tree.specs.Fits.{AreFits, IsFitOf}
use Rattle.host_tree.specs.Forest.{AreParents}
use Rattle.host_tree.specs.Points.{IsBetween, lower_point, times_of, upper_point}
use Rattle.host_tree.proofs.Gets.{one_get}
use Rattle.host_tree.proofs.Order.{rooted}
use Rattle.trace_types.specs.declared.event.Event.{Event}
use Rattle.trace_types.specs.declared.event.KernelEvent.{KernelEvent}
use Rattle.trace_types.specs.declared.event.KernelEvent.TheVariants.{Receive, Send}
use Rattle.trace_types.specs.declared.event.Merged.{Merged}
use Rattle.trace_types.specs.declared.host.HostEvents.{HostEvents}
use Rattle.trace_types.specs.declared.segment.SegKey.{SegKey}
use Rattle.host_merge.specs.declared.placed.Placed.{Placed}
use Rattle.host_merge.specs.Kept.{AreFromOne, AreInTime, AreOwn, HasListed, IsMergeByMessages, IsTreePair, KeepsOrder}
use Rattle.host_merge.specs.Merge.{HaveTimes, IsMergeOf}
use Rattle.host_merge.specs.Placed.{ArePlaced, IsAmong, IsAt, inverted_among, is_inverted, is_of}
use Rattle.host_merge.proofs.Brought.{event_of}
use Rattle.host_merge.proofs.Clocks.{over_lower, under_upper}
use Rattle.host_merge.proofs.Sends.{child_first, parent_first}

contained : {X : Type 0} (xs : List X) (k : ℕ) (x : X) → slice_get xs k ≡ Some x → Contains xs x
contained xs k x e = (k, slice_get_within xs k x e, get_or_from_slice_get xs k x x e)

-- what a test gives of an item stands among what it gives of all
given_at : {X Y : Type 0} (f : X → Option Y) (xs : List X) (k : ℕ) (x : X) (y : Y) → slice_get xs k ≡ Some x → f x ≡ Some y → (j : ℕ) × (slice_get (filter_map f xs) j ≡ Some y)
given_at f [] k x y at e = absurd (cc)
given_at f (z ∷ xs) zero x y at e =
    let same : z ≡ x = cc in
    (0, ap (λ o. slice_get (cons_option o (filter_map f xs)) 0) (ap f same ∙ e))
given_at {X} {Y} f (z ∷ xs) (suc k) x y at e = by (f z) (given_at f xs k x y at e)
  where
    by : (o : Option Y) → (j : ℕ) × (slice_get (filter_map f xs) j ≡ Some y) → (j : ℕ) × (slice_get (cons_option o (filter_map f xs)) j ≡ Some y)
    by None r = r
    by (Some w) r = (suc r.0, r.1)

point_at : (points : List ClockPoint) (k x y : ℕ) → slice_get (map times_of points) k ≡ Some (x, y) → (p : ClockPoint) × (slice_get points k ≡ Some p) × (p.x ≡ x) × (p.y ≡ y)
point_at [] k x y e = absurd (cc)
point_at (p ∷ ps) zero x y e = let parts = some_pair_parts p.x x p.y y e in (p, refl, parts.0, parts.1)
point_at (p ∷ ps) (suc k) x y e = point_at ps k x y e

map_of : (fit : Fit) (m : PairMap) (P : PairMap → Type 0) → fit ≡ Map m → IfMap fit P → P m
map_of fit m P e h = subst (λ f. IfMap f P) e h

module _ (hosts : List HostEvents) (matched : List Message) (ambiguous : ℕ) (are : AreMessages hosts matched ambiguous) where
  of_message : (k : ℕ) (m : Message) → slice_get matched k ≡ Some m → (key : SegKey) × IsMessage hosts key m
  of_message k m e = (are.members m).0 (contained matched k m e)

  listed : (kind : KernelEvent) (u k t : ℕ) → HasEvent hosts kind u k t → (e : Event) × HasListed hosts u k e × (e.time ≡ t)
  listed kind u k t h = (h.event, record { host = h.list; of_host = h.of_host; at = h.at }, h.is_time)

  module _ (times : HaveTimes hosts) (late : AreFromOne hosts) where
    after : (kind : KernelEvent) (u k t : ℕ) → HasEvent hosts kind u k t → 1 ≤ t
    after kind u k t h = let l = listed kind u k t h in let o = late u k l.0 l.1 in omega (arith, o, l.2)

    before : (kind : KernelEvent) (u k t : ℕ) → HasEvent hosts kind u k t → t < 2 ^ 62
    before kind u k t h = let o = times.below u k h.list h.event h.of_host h.at in omega (arith, o, h.is_time)

    inside : (kind : KernelEvent) (u k t : ℕ) → HasEvent hosts kind u k t → u < length hosts
    inside kind u k t h = slice_get_within hosts u h.list h.of_host

    pub between : (k : ℕ) (d : Message) → k < length matched → IsBetween (length hosts) (get_or matched k d)
    between k d h =
        let m = of_message k (get_or matched k d) (slice_get-get_or matched k d h) in
        let s = m.1.sent.here in
        let r = m.1.received.here in
        record {
          from_in = inside _ _ _ _ s;
          to_in = inside _ _ _ _ r;
          apart = m.1.apart;
          sent_after = after _ _ _ _ s;
          sent_before = before _ _ _ _ s;
          received_after = after _ _ _ _ r;
          received_before = before _ _ _ _ r;
        }

  counted : (merged : List Merged) → KeepsOrder hosts merged → (kind : KernelEvent) (u k t : ℕ) → HasEvent hosts kind u k t → k < count_by (is_of u) merged
  counted merged keeps kind u k t h =
      let e = ap length (keeps.kept u h.list h.of_host) in
      omega (arith, e, length-map (filter (is_of u) merged) event_of, length-filter (is_of u) merged, slice_get_within h.list.events.items k h.event h.at)

  pub among : (merged : List Merged) → KeepsOrder hosts merged → All (IsAmong merged) matched
  among merged keeps k d h =
      let m = of_message k (get_or matched k d) (slice_get-get_or matched k d h) in
      record { sent = counted merged keeps (Send m.0) _ _ _ m.1.sent.here; received = counted merged keeps (Receive m.0) _ _ _ m.1.received.here }

  module _ (drift : ℕ) (fits : List Fit) (parents : List Parent) (merged : List Merged) (own : AreOwn hosts) (in_time : AreInTime hosts) (late : AreFromOne hosts) (fit : AreFits (length hosts) matched drift fits) (forest : AreParents (length hosts) fits parents) (merge : IsMergeOf parents hosts merged) where
    -- the map of a pair of the tree was made from the points of its messages
    pair_fit : (u v : ℕ) (m : PairMap) → slice_get parents v ≡ Some (Child u m) → (f : Fit) × (f ≡ Map m) × IsFitOf matched drift u v f
    pair_fit u v m edge =
        let p = forest.each v (Child u m) edge in
        let usable = p.2.parent_is.2.here.1 in
        let f = fit.each u v usable.parent_in usable.child_in in
        (f.0, one_get fits (u * length hosts + v) f.0 (Map m) f.1 p.2.parent_is.3, f.2)

    down : (k : ℕ) (x : Message) (m : PairMap) → slice_get matched k ≡ Some x → slice_get parents x.to ≡ Some (Child x.from m) → (t : ℕ) → IsMapAt m x.received t → x.sent ≤ t
    down k x m e edge t at =
        let f = pair_fit x.from x.to m edge in
        let gives : lower_point x.from x.to x ≡ Some (x.received, x.sent) = rw (eq-eqb x.from x.from refl, eq-eqb x.to x.to refl) refl in
        let g = given_at (lower_point x.from x.to) matched k x (x.received, x.sent) e gives in
        let p = point_at f.2.lower g.0 x.received x.sent (ap (λ l. slice_get l g.0) f.2.lower_are ∙ g.1) in
        let is : IsMapOf f.2.lower f.2.upper drift m = map_of f.0 m (IsMapOf f.2.lower f.2.upper drift) f.1 f.2.outcome.map in
        let low = over_lower f.2.lower f.2.upper drift m is p.0 t (contained f.2.lower g.0 p.0 p.1) (subst (λ z. IsMapAt m z t) (sym p.2) at) in
        omega (arith, low, p.3)

    up : (k : ℕ) (x : Message) (m : PairMap) → slice_get matched k ≡ Some x → slice_get parents x.from ≡ Some (Child x.to m) → 1 ≤ x.received → (t : ℕ) → IsMapAt m x.sent t → t < x.received
    up k x m e edge some t at =
        let f = pair_fit x.to x.from m edge in
        let gives : upper_point x.to x.from x ≡ Some (x.sent, x.received - 1) = rw (eq-eqb x.from x.from refl, eq-eqb x.to x.to refl) refl in
        let g = given_at (upper_point x.to x.from) matched k x (x.sent, x.received - 1) e gives in
        let p = point_at f.2.upper g.0 x.sent (x.received - 1) (ap (λ l. slice_get l g.0) f.2.upper_are ∙ g.1) in
        let is : IsMapOf f.2.lower f.2.upper drift m = map_of f.0 m (IsMapOf f.2.lower f.2.upper drift) f.1 f.2.outcome.map in
        let high = under_upper f.2.lower f.2.upper drift m is p.0 t (contained f.2.upper g.0 p.0 p.1) (subst (λ z. IsMapAt m z t) (sym p.2) at) in
        omega (arith, high, p.3)

    pub sends_first : (k : ℕ) (x : Message) (send receive : ℕ) → slice_get matched k ≡ Some x → IsTreePair parents x.from x.to → IsAt merged x.from x.send send → IsAt merged x.to x.receive receive → send < receive
    sends_first k x send receive e pair at_send at_receive = by pair.1
      where
        by : (slice_get parents x.to ≡ Some (Child x.from pair.0)) ⊎ (slice_get parents x.from ≡ Some (Child x.to pair.0)) → send < receive
        by (inl edge) =
            let o = of_message k x e in
            let s = o.1.sent.here in
            let r = o.1.received.here in
            parent_first parents hosts merged forest.count (rooted (length hosts) fits parents forest) own in_time merge x.from x.to pair.0 edge s.list r.list s.of_host r.of_host
            x.send x.receive send receive s.event r.event s.at r.at
            (λ t a. let low = down k x pair.0 e edge t (subst (λ z. IsMapAt pair.0 z t) r.is_time a) in omega (arith, low, s.is_time)) at_send at_receive
        by (inr edge) =
            let o = of_message k x e in
            let s = o.1.sent.here in
            let r = o.1.received.here in
            let l = listed (Receive o.0) x.to x.receive x.received r in
            let one = late x.to x.receive l.0 l.1 in
            let some : 1 ≤ x.received = omega (arith, one, l.2) in
            child_first parents hosts merged forest.count (rooted (length hosts) fits parents forest) own in_time merge x.to x.from pair.0 edge r.list s.list r.of_host s.of_host
            x.receive x.send receive send r.event s.event r.at s.at
            (λ t a. let high = up k x pair.0 e edge some t (subst (λ z. IsMapAt pair.0 z t) s.is_time a) in omega (arith, high, r.is_time)) at_receive at_send

passing : (p : ℕ → Bool) (xs : List ℕ) (k x : ℕ) → slice_get (filter p xs) k ≡ Some x → p x ≡ true
passing p [] k x e = absurd (cc)
passing p (y ∷ ys) k x e = by (p y) refl k e (passing p ys)
  where
    by : (b : Bool) → p y ≡ b → (k : ℕ) → slice_get (cond b (y ∷ filter p ys) (filter p ys)) k ≡ Some x → ((j x : ℕ) → slice_get (filter p ys) j ≡ Some x → p x ≡ true) → p x ≡ true
    by true t zero f rest = let same : y ≡ x = cc in ap p (sym same) ∙ t
    by true t (suc k) f rest = rest k x f
    by false t k f rest = rest k x f

inverted_at : (o : Option Placed) → is_inverted o ≡ true → (p : Placed) × (o ≡ Some p) × (p.receive < p.send)
inverted_at None e = absurd (cc)
inverted_at (Some p) e = (p, refl, ltb-true p.receive p.send e)

pub none_inverted : (hosts : List HostEvents) (matched : List Message) (fits : List Fit) (parents : List Parent) (merged : List Merged) (placed : List Placed) → IsMergeByMessages hosts matched fits parents merged → ArePlaced merged matched placed
    → (k : ℕ) (m : Message) → slice_get matched k ≡ Some m → IsTreePair parents m.from m.to → ¬ Contains (inverted_among placed) k
none_inverted hosts matched fits parents merged placed is are k m e pair c =
    let at : slice_get (inverted_among placed) c.0 ≡ Some k = slice_get-get_or (inverted_among placed) c.0 k c.1 ∙ ap Some c.2 in
    let p = inverted_at (slice_get placed k) (passing (λ j. is_inverted (slice_get placed j)) (range_with_len 0 (length placed)) c.0 k at) in
    let spots = are.each k m p.0 e p.1 in
    let first = sends_first hosts matched is.ambiguous is.messages is.drift fits parents merged is.own is.in_time is.from_one is.fits_are is.forest is.merge k m p.0.send p.0.receive e pair spots.0 spots.1 in
    omega (arith, first, p.2)
