-- The hosts of a list keep the order of its events.
use Rattle.std.proofs.Common.{All, Bool, true, false, cond, ◌≡◌, ◌∙◌, ◌<◌, ◌≤◌, ◌+◌, ◌==◌, ℕ, zero, suc, Some, List, [], ◌∷◌, length, map, filter, slice_get, refl, sym, ap, subst, arith}
use Rattle.std.specs.List.{AllByRecursion}
use Rattle.trace_types.specs.declared.event.Merged.{Merged}
use Rattle.trace_types.specs.declared.host.HostEvents.{HostEvents}
use Rattle.event_list.specs.Splits.{AreHostsFrom, events_at}
use Rattle.event_list.specs.declared.trace.MergedTrace.{MergedTrace}
use Rattle.event_list.proofs.Splitting.{as_many}
use Rattle.message_match.specs.Messages.{AreNumbered, AreSmall}
use Rattle.host_merge.specs.Kept.{KeepsOrder}
use Rattle.host_merge.specs.Placed.{is_of}
use Rattle.list_messages.specs.Places.{IsReadTrace}

own_events : (host : ℕ) (ms : List Merged) → events_at host ms ≡ map (λ m. m.event) (filter (is_of host) ms)
own_events host [] = refl
own_events host (m ∷ ms) = by (m.event.host == host) (own_events host ms)
  where
    by : (b : Bool) → events_at host ms ≡ map (λ m. m.event) (filter (is_of host) ms) → cond b (m.event ∷ events_at host ms) (events_at host ms) ≡ map (λ m. m.event) (cond b (m ∷ filter (is_of host) ms) (filter (is_of host) ms))
    by true rest = ap (λ l. m.event ∷ l) rest
    by false rest = rest

few_of : (host : ℕ) (ms : List Merged) → length (events_at host ms) ≤ length ms
few_of host [] = omega arith
few_of host (m ∷ ms) = by (m.event.host == host) (few_of host ms)
  where
    by : (b : Bool) → length (events_at host ms) ≤ length ms → length (cond b (m.event ∷ events_at host ms) (events_at host ms)) ≤ suc (length ms)
    by true rest = omega (arith, rest)
    by false rest = omega (arith, rest)

host_at : (ms : List Merged) (first : ℕ) (lists : List (List (List ℕ))) (hosts : List HostEvents) (k : ℕ) (host : HostEvents) → AreHostsFrom ms first lists hosts → slice_get hosts k ≡ Some host → (host.host ≡ first + k) × (host.events.items ≡ events_at (first + k) ms)
host_at ms first [] [] k host are at = absurd (cc)
host_at ms first [] (h ∷ hosts) k host are at = absurd are
host_at ms first (l ∷ lists) [] k host are at = absurd are
host_at ms first (l ∷ lists) (h ∷ hosts) zero host are at =
    let same : h ≡ host = cc in
    let here : first + 0 ≡ first = omega arith in
    (ap (λ (x : HostEvents). x.host) (sym same) ∙ (are.0.number ∙ sym here), ap (λ (x : HostEvents). x.events.items) (sym same) ∙ (are.0.events ∙ ap (λ n. events_at n ms) (sym here)))
host_at ms first (l ∷ lists) (h ∷ hosts) (suc k) host are at =
    let next = host_at ms (suc first) lists hosts k host are.1 at in
    let here : suc first + k ≡ first + suc k = omega arith in
    (next.0 ∙ here, next.1 ∙ ap (λ n. events_at n ms) here)

each : {X : Type 0} (P : X → Type 0) (xs : List X) → AllByRecursion P xs → All P xs
each P [] a k d h = absurd (omega (arith, h))
each P (x ∷ xs) a zero d h = a.0
each P (x ∷ xs) a (suc k) d h = each P xs a.1 k d (omega (arith, h))

module _ (trace : MergedTrace) (hosts : List HostEvents) (are : AreHostsFrom trace.events.items 0 trace.names.items hosts) (read : IsReadTrace trace) where
  at_number : (k : ℕ) (host : HostEvents) → slice_get hosts k ≡ Some host → (host.host ≡ k) × (host.events.items ≡ events_at k trace.events.items)
  at_number k host at =
      let is = host_at trace.events.items 0 trace.names.items hosts k host are at in
      let here : 0 + k ≡ k = omega arith in
      (is.0 ∙ here, is.1 ∙ ap (λ n. events_at n trace.events.items) here)

  pub numbered : AreNumbered hosts
  numbered k host at = (at_number k host at).0

  pub small : AreSmall hosts
  small k host at =
      let size = ap length (at_number k host at).1 in
      let few = few_of k trace.events.items in
      let all = read.few in
      omega (arith, size, few, all)

  pub keeps_order : KeepsOrder hosts trace.events.items
  keeps_order = record {
    kept = λ u host at. sym ((at_number u host at).1 ∙ own_events u trace.events.items);
    known = each (λ m. m.event.host < length hosts) trace.events.items (subst (λ n. AllByRecursion (λ m. m.event.host < n) trace.events.items) (sym (as_many trace.events.items 0 trace.names.items hosts are)) read.have_names);
  }

  pub below_64 : All (λ m. m.event.host < 64) trace.events.items
  below_64 k d h =
      let here = each (λ m. m.event.host < length trace.names.items) trace.events.items read.have_names k d h in
      let few = read.few_hosts in
      omega (arith, here, few)
