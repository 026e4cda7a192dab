-- How many messages hosts have, and how many events their merge has.
use Rattle.std.proofs.Common.{All, ◌≡◌, ◌<◌, ◌≤◌, ◌+◌, ◌*◌, ◌==◌, ◌⊎◌, inl, inr, ℕ, zero, suc, Bool, cond, Some, List, [], ◌∷◌, length, filter, count_by, nat_lt, slice_get, refl, sym, ap, ◌∙◌, subst, arith, lt-ltb}
use Rattle.std.specs.List.{AllByRecursion}
use Rattle.std.proofs.lemmas.Bool.{cases_lt, cases_eq, eq-eqb, ne_eqb, le-ltb}
use Rattle.std.proofs.lemmas.List.{length-map}
use Rattle.std.proofs.lemmas.List.Elements.{All-tail}
use Rattle.std.proofs.lemmas.List.Sums.{length-filter}
use Rattle.std.proofs.lemmas.Option.{get_or_from_slice_get, slice_get_within}
use Rattle.trace_types.specs.declared.event.Merged.{Merged}
use Rattle.trace_types.specs.declared.host.HostEvents.{HostEvents}
use Rattle.message_match.specs.declared.message.Message.{Message}
use Rattle.message_match.specs.Messages.{AreMessages, Precedes}
use Rattle.message_match.proofs.Lists.{Pairs, pairs}
use Rattle.host_merge.specs.Kept.{KeepsOrder}
use Rattle.host_merge.specs.Placed.{is_of}
use Rattle.host_merge.proofs.Brought.{event_of}
use Rattle.host_merge.proofs.Spots.{count_cons}
use Rattle.host_sync.proofs.Elements.{all_in}
use Rattle.host_sync.specs.Synced.{AreSyncable, total_events}

-- no host has more events than all together
pub each_small : (hosts : List HostEvents) (k : ℕ) (host : HostEvents) → slice_get hosts k ≡ Some host → length host.events.items ≤ total_events hosts
each_small [] k host e = absurd (cc)
each_small (h ∷ hs) zero host e = let same : h ≡ host = cc in let long = ap (λ (x : HostEvents). length x.events.items) same in omega (arith, long)
each_small (h ∷ hs) (suc k) host e = let rest = each_small hs k host e in omega (arith, rest)

-- ---- the merge has as many events as the hosts

is_below : ℕ → Merged → Bool
is_below b m = nat_lt m.event.host b

one_more : (h b : ℕ) → cond (nat_lt h (suc b)) 1 0 ≡ cond (nat_lt h b) 1 0 + cond (h == b) 1 0
one_more h b = by (cases_lt h b) (cases_eq h b)
  where
    by : (h < b) ⊎ (b ≤ h) → (h ≡ b) ⊎ (h ≡ b → ⊥) → cond (nat_lt h (suc b)) 1 0 ≡ cond (nat_lt h b) 1 0 + cond (h == b) 1 0
    by (inl less) (inl same) = absurd (omega arith)
    by (inl less) (inr not) = rw (lt-ltb h (suc b) (omega arith), lt-ltb h b less, ne_eqb h b not) refl
    by (inr more) (inl same) = rw (lt-ltb h (suc b) (omega arith), le-ltb h b more, eq-eqb h b same) refl
    by (inr more) (inr not) = rw (le-ltb h (suc b) (beyond (cases_lt b h)), le-ltb h b more, ne_eqb h b not) refl
      where
        beyond : (b < h) ⊎ (h ≤ b) → suc b ≤ h
        beyond (inl less) = less
        beyond (inr low) = absurd (not (omega arith))

one_host_more : (b : ℕ) (ms : List Merged) → count_by (is_below (suc b)) ms ≡ count_by (is_below b) ms + count_by (is_of b) ms
unfolding is_below
one_host_more b [] = refl
one_host_more b (m ∷ ms) =
    let next = count_cons (is_below (suc b)) m ms in
    let here = count_cons (is_below b) m ms in
    let own = count_cons (is_of b) m ms in
    let head = one_more m.event.host b in
    let rest = one_host_more b ms in
    omega (arith, next, here, own, head, rest)

all_below : (b : ℕ) (ms : List Merged) → All (λ m. m.event.host < b) ms → length ms ≤ count_by (is_below b) ms
unfolding is_below
all_below b [] h = omega arith
all_below b (m ∷ ms) h =
    let here = count_cons (is_below b) m ms in
    let one = ap {B = ℕ} (λ t. cond t 1 0) (lt-ltb m.event.host b (h 0 m (omega arith))) in
    let rest = all_below b ms (All-tail (λ m. m.event.host < b) m ms h) in
    omega (arith, here, one, rest)

none_below_zero : (ms : List Merged) → count_by (is_below 0) ms ≡ 0
unfolding is_below
none_below_zero [] = refl
none_below_zero (m ∷ ms) =
    let here = count_cons (is_below 0) m ms in
    let none = ap {B = ℕ} (λ t. cond t 1 0) (le-ltb m.event.host 0 (omega arith)) in
    let rest = none_below_zero ms in
    omega (arith, here, none, rest)

merged_from : (merged : List Merged) (b : ℕ) (hs : List HostEvents) → ((u : ℕ) (host : HostEvents) → slice_get hs u ≡ Some host → count_by (is_of (b + u)) merged ≡ length host.events.items)
    → All (λ m. m.event.host < b + length hs) merged → length merged ≤ count_by (is_below b) merged + total_events hs
merged_from merged b [] each known = let e : b + 0 ≡ b = omega arith in let all = all_below b merged (subst (λ n. All (λ m. m.event.host < n) merged) e known) in omega (arith, all)
merged_from merged b (h ∷ hs) each known =
    let e : b + 0 ≡ b = omega arith in
    let f : b + suc (length hs) ≡ suc b + length hs = omega arith in
    let here : count_by (is_of b) merged ≡ length h.events.items = subst (λ n. count_by (is_of n) merged ≡ length h.events.items) e (each 0 h refl) in
    let rest = merged_from merged (suc b) hs (λ u host g. let s : b + suc u ≡ suc b + u = omega arith in subst (λ n. count_by (is_of n) merged ≡ length host.events.items) s (each (suc u) host g)) (subst (λ n. All (λ m. m.event.host < n) merged) f known) in
    let more = one_host_more b merged in
    omega (arith, here, rest, more)

pub few_merged : (hosts : List HostEvents) (merged : List Merged) → KeepsOrder hosts merged → length merged ≤ total_events hosts
few_merged hosts merged keeps =
    let whole = merged_from merged 0 hosts (λ u host e.
    let kept = ap length (keeps.kept u host e) in
    let z : 0 + u ≡ u = omega arith in
    subst (λ n. count_by (is_of n) merged ≡ length host.events.items) (sym z) (sym (length-filter (is_of u) merged) ∙ (sym (length-map (filter (is_of u) merged) event_of) ∙ kept)))
    (let z : 0 + length hosts ≡ length hosts = omega arith in subst (λ n. All (λ m. m.event.host < n) merged) (sym z) keeps.known) in
    let none = none_below_zero merged in
    omega (arith, whole, none)

-- ---- each message has a send of its own

rank : Message → ℕ
rank m = m.from * 2097152 + m.send

abbrev InRange : Message → Type 0
InRange m = (m.from < 64) × (m.send < 2097152)

later_rank : (m n : Message) → InRange m → InRange n → Precedes m n → rank m + 1 ≤ rank n
unfolding rank
later_rank m n r s (inl less) = omega (arith, r.1, less)
later_rank m n r s (inr same) = omega (arith, same.0, same.1)

all_later : (m : Message) (ms : List Message) → InRange m → AllByRecursion InRange ms → AllByRecursion (Precedes m) ms → AllByRecursion (λ n. rank m + 1 ≤ rank n) ms
all_later m [] r s p = tt
all_later m (n ∷ ns) r s p = (later_rank m n r s.0 p.0, all_later m ns r s.1 p.1)

few_from : (least : ℕ) (ms : List Message) → least ≤ 134217728 → AllByRecursion (λ m. least ≤ rank m) ms → AllByRecursion InRange ms → Pairs Precedes ms → least + length ms ≤ 134217728
unfolding rank
few_from least [] room above r p = omega (arith, room)
few_from least (m ∷ ms) room above r p =
    let a : least ≤ m.from * 2097152 + m.send = above.0 in
    let rest = few_from (m.from * 2097152 + m.send + 1) ms (omega (arith, r.0.0, r.0.1)) (all_later m ms r.0 r.1 p.0) r.1 p.1 in
    omega (arith, rest, a)

all_above_zero : (ms : List Message) → AllByRecursion (λ m. 0 ≤ rank m) ms
all_above_zero [] = tt
all_above_zero (m ∷ ms) = (omega arith, all_above_zero ms)

pub few_messages : (hosts : List HostEvents) (matched : List Message) (ambiguous : ℕ) → AreSyncable hosts → AreMessages hosts matched ambiguous → length matched ≤ 134217728
few_messages hosts matched ambiguous are messages =
    let whole = few_from 0 matched (omega arith) (all_above_zero matched) (all_in InRange matched (λ k m e.
    let of = (messages.members m).0 (k, slice_get_within matched k m e, get_or_from_slice_get matched k m m e) in
    let s = of.1.sent.here in
    let inside = slice_get_within hosts m.from s.list s.of_host in
    let place = slice_get_within s.list.events.items m.send s.event s.at in
    let small = each_small hosts m.from s.list s.of_host in
    (omega (arith, inside, are.few_hosts), omega (arith, place, small, are.few_events)))) (pairs Precedes matched messages.order) in
    omega (arith, whole)
