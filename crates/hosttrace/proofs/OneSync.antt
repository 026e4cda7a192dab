-- Hosts that are the same have one answer of synchronization.
use Rattle.std.proofs.Common.{◌≡◌, ◌∙◌, ℕ, zero, suc, List, [], ◌∷◌, ◌++◌, length, map, slice_get, Some, refl, sym, ap, ap₂, subst}
use Rattle.std.specs.Prelude.{flat_map}
use Rattle.type_table.specs.SameTrace.{AreBoth}
use Rattle.trace_types.specs.declared.event.Event.{Event}
use Rattle.trace_types.specs.declared.event.KernelEvent.{KernelEvent}
use Rattle.trace_types.specs.declared.event.KernelEvent.TheVariants.{Send, Receive}
use Rattle.trace_types.specs.declared.event.Merged.{Merged}
use Rattle.trace_types.specs.declared.host.HostEvents.{HostEvents}
use Rattle.trace_types.specs.declared.segment.SegKey.{SegKey}
use Rattle.message_match.specs.Messages.{AreMessages, CountsAmbiguous, HasEvent, IsAmbiguous, IsFirstOfOneHost, IsMessage}
use Rattle.message_match.specs.declared.message.Message.{Message}
use Rattle.host_tree.specs.declared.parent.Parent.{Parent}
use Rattle.host_tree.specs.Fits.{AreFits}
use Rattle.host_tree.specs.Forest.{AreParents}
use Rattle.host_merge.specs.Merge.{IsMergeOf, by_key, children_of, with_own_time}
use Rattle.host_sync.proofs.OneAnswer.{one_answer}
use Rattle.host_sync.specs.Laws.{IsOneAnswer}
use Rattle.host_sync.specs.Synced.{AreSyncable, IsSynced, Synced}
use Rattle.hosttrace.specs.Clusters.{IsSameHost}

same_back : (xs ys : List HostEvents) → AreBoth IsSameHost xs ys → AreBoth IsSameHost ys xs
same_back [] [] h = tt
same_back [] (y ∷ ys) h = absurd h
same_back (x ∷ xs) [] h = absurd h
same_back (x ∷ xs) (y ∷ ys) h = (
  record { number = sym h.0.number; hostname = sym h.0.hostname; names = sym h.0.names; events = sym h.0.events; refused = sym h.0.refused; packets = sym h.0.packets; incomplete = sym h.0.incomplete },
  same_back xs ys h.1,
)

pub same_length : (xs ys : List HostEvents) → AreBoth IsSameHost xs ys → length xs ≡ length ys
same_length [] [] h = refl
same_length [] (y ∷ ys) h = absurd h
same_length (x ∷ xs) [] h = absurd h
same_length (x ∷ xs) (y ∷ ys) h = ap suc (same_length xs ys h.1)

pub same_names : (xs ys : List HostEvents) → AreBoth IsSameHost xs ys → map (λ (h : HostEvents). h.names.items) xs ≡ map (λ (h : HostEvents). h.names.items) ys
same_names [] [] h = refl
same_names [] (y ∷ ys) h = absurd h
same_names (x ∷ xs) [] h = absurd h
same_names (x ∷ xs) (y ∷ ys) h = ap₂ (λ n ns. n ∷ ns) h.0.names (same_names xs ys h.1)

host_at : (xs ys : List HostEvents) (k : ℕ) (y : HostEvents) → AreBoth IsSameHost xs ys → slice_get ys k ≡ Some y → (x : HostEvents) × (slice_get xs k ≡ Some x) × IsSameHost x y
host_at [] [] k y h at = absurd (cc)
host_at [] (z ∷ ys) k y h at = absurd h
host_at (x ∷ xs) [] k y h at = absurd h
host_at (x ∷ xs) (z ∷ ys) zero y h at = let same : z ≡ y = cc in (x, refl, subst (IsSameHost x) same h.0)
host_at (x ∷ xs) (z ∷ ys) (suc k) y h at = host_at xs ys k y h.1 at

-- ---- messages

event_there : (xs ys : List HostEvents) (kind : KernelEvent) (host place time : ℕ) → AreBoth IsSameHost xs ys → HasEvent ys kind host place time → HasEvent xs kind host place time
event_there xs ys kind host place time both h =
    let at = host_at xs ys host h.list both h.of_host in
    record { list = at.0; event = h.event; of_host = at.1; at = ap (λ (l : List Event). slice_get l place) at.2.events ∙ h.at; is_kind = h.is_kind; is_time = h.is_time }

first_there : (xs ys : List HostEvents) (kind : KernelEvent) (host place time : ℕ) → AreBoth IsSameHost xs ys → IsFirstOfOneHost (HasEvent ys kind) host place time → IsFirstOfOneHost (HasEvent xs kind) host place time
first_there xs ys kind host place time both h =
    let back = same_back xs ys both in
    record {
      here = event_there xs ys kind host place time both h.here;
      first = λ p t e. h.first p t (event_there ys xs kind host p t back e);
      alone = λ u p t e. h.alone u p t (event_there ys xs kind u p t back e);
    }

message_there : (xs ys : List HostEvents) (key : SegKey) (m : Message) → AreBoth IsSameHost xs ys → IsMessage ys key m → IsMessage xs key m
message_there xs ys key m both h = record { sent = first_there xs ys (Send key) m.from m.send m.sent both h.sent; received = first_there xs ys (Receive key) m.to m.receive m.received both h.received; apart = h.apart }

ambiguous_there : (xs ys : List HostEvents) (key : SegKey) → AreBoth IsSameHost xs ys → IsAmbiguous ys key → IsAmbiguous xs key
ambiguous_there xs ys key both h =
    let (a, b, c, sent) = h.sent in
    let (d, e, f, received) = h.received in
    record {
      sent = (a, b, c, event_there xs ys (Send key) a b c both sent);
      received = (d, e, f, event_there xs ys (Receive key) d e f both received);
      unmatched = λ m is. h.unmatched m (message_there ys xs key m (same_back xs ys both) is);
    }

pub messages_there : (xs ys : List HostEvents) (matched : List Message) (ambiguous : ℕ) → AreBoth IsSameHost xs ys → AreMessages ys matched ambiguous → AreMessages xs matched ambiguous
messages_there xs ys matched ambiguous both h =
    let back = same_back xs ys both in
    record {
      members = λ m. (
        (λ c. let of = (h.members m).0 c in (of.0, message_there xs ys of.0 m both of.1)),
        (λ is. (h.members m).1 (is.0, message_there ys xs is.0 m back is.1)),
      );
      order = h.order;
      counted = counts h.counted;
    }
  where
    counts : CountsAmbiguous ys ambiguous → CountsAmbiguous xs ambiguous
    counts (keys, once, are, count) = (
      keys,
      once,
      (λ key. ((λ c. ambiguous_there xs ys key both ((are key).0 c)), (λ is. (are key).1 (ambiguous_there ys xs key (same_back xs ys both) is)))),
      count,
    )

-- ---- all that synchronization gives

merge_there : (parents : List Parent) (xs ys : List HostEvents) (merged : List Merged) → AreBoth IsSameHost xs ys → IsMergeOf parents ys merged → IsMergeOf parents xs merged
merge_there parents xs ys merged both h = record {
  lists = h.lists;
  brought = h.brought;
  of_host = λ u host at.
      let there = host_at ys xs u host (same_back xs ys both) at in
      subst (λ (es : List Event). h.lists u ≡ by_key (map with_own_time es ++ flat_map h.brought (children_of parents u))) there.2.events (h.of_host u there.0 there.1);
  moved = h.moved;
  whole = h.whole;
}

synced_there : (xs ys : List HostEvents) (drift : ℕ) (s : Synced) → AreBoth IsSameHost xs ys → IsSynced ys drift s → IsSynced xs drift s
synced_there xs ys drift s both h =
    let size : length ys ≡ length xs = sym (same_length xs ys both) in
    record {
      messages = messages_there xs ys s.matched s.ambiguous both h.messages;
      fits_are = subst (λ n. AreFits n s.matched drift s.fits) size h.fits_are;
      forest = subst (λ n. AreParents n s.fits s.parents) size h.forest;
      merge = merge_there s.parents xs ys s.merged both h.merge;
      places = h.places;
    }

pub one_synced : (found others : List HostEvents) (drift : ℕ) (s z : Synced) → AreSyncable found → AreBoth IsSameHost found others → IsSynced found drift s → IsSynced others drift z → IsOneAnswer found s z
one_synced found others drift s z can both h g = one_answer found drift s z can h (synced_there found others drift z both g)
