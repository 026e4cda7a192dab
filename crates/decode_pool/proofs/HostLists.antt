-- The packets of all hosts, cut into those of each, and the lists that are made of them.
use Rattle.std.proofs.Common.{◌≡◌, ◌∙◌, ℕ, ◌+◌, ◌≤◌, ◌<◌, List, [], ◌∷◌, ◌++◌, append_assoc, length, get_or, drop, map, refl, sym, ap, arith}
use Rattle.std.proofs.lemmas.List.{drop_more}
use Rattle.std.specs.List.{AllZip}
use Rattle.trace_types.specs.declared.host.HostEvents.{HostEvents}
use Rattle.stable_sort.proofs.Lengths.{length_sorted}
use Rattle.decode_pool.specs.Excess.{events_in}
use Rattle.decode_pool.specs.Hosts.{IsHost, all_events, all_parts}
use Rattle.decode_pool.specs.Jobs.{hosts_parts, owner}
use Rattle.decode_pool.specs.Limits.{AreHosts, event_count, list_events}
use Rattle.decode_pool.specs.declared.decoded_packet.DecodedPacket.{DecodedPacket}
use Rattle.decode_pool.specs.declared.hosts.HostFiles.{HostFiles}
use Rattle.decode_pool.specs.declared.hosts.HostParts.{HostParts}
use Rattle.decode_pool.proofs.Batching.{events_append, host_more}

-- ---- the parts of hosts

-- the parts of one host more are decoded
pub pool_next : (hosts : List HostFiles) (i : ℕ) (h : HostFiles) (before after : List DecodedPacket) → i < length hosts → h ≡ get_or hosts i h → after ≡ before ++ all_parts h.host h.meta h.files.items → before ++ hosts_parts (drop i hosts) ≡ hosts_parts hosts
    → after ++ hosts_parts (drop (i + 1) hosts) ≡ hosts_parts hosts
pool_next hosts i h before after lt at e so_far =
    let rest = drop (i + 1) hosts in
    let more : hosts_parts (drop i hosts) ≡ all_parts h.host h.meta h.files.items ++ hosts_parts rest = ap hosts_parts (drop_more hosts i h lt) ∙ ap (λ x. hosts_parts (x ∷ rest)) (sym at) in
    ap (λ l. l ++ hosts_parts rest) e ∙ (append_assoc before (all_parts h.host h.meta h.files.items) (hosts_parts rest) ∙ (ap (λ l. before ++ l) (sym more) ∙ so_far))

-- ---- the lists of hosts

-- the list of each is that of its files
pub are_made : (own : List HostParts) (lists : List HostEvents) → AllZip (λ o l. IsHost (owner o) l) own lists → AreHosts (map owner own) lists
are_made [] [] h = tt
are_made [] (l ∷ ls) h = absurd h
are_made (o ∷ os) [] h = absurd h
are_made (o ∷ os) (l ∷ ls) h = (h.0, are_made os ls h.1)

-- a host has as many events as its list
all_found : (h : HostFiles) (found : HostEvents) → IsHost h found → length found.events.items ≡ length (all_events h.host h.meta h.files.items)
all_found h found is = ap length is.events ∙ length_sorted (λ e. e.time) (all_events h.host h.meta h.files.items)

pub lists_counted : (hs : List HostFiles) (fs : List HostEvents) → AreHosts hs fs → list_events fs ≡ event_count hs
lists_counted [] [] are = refl
lists_counted [] (f ∷ fs) are = absurd are
lists_counted (h ∷ hs) [] are = absurd are
lists_counted (h ∷ hs) (f ∷ fs) are = let rest = lists_counted hs fs are.1 in omega (arith, all_found h f are.0, rest)

-- marks only add to what the packets hold
pub lists_more : (hs : List HostFiles) → events_in (hosts_parts hs) ≤ event_count hs
lists_more [] = omega arith
lists_more (h ∷ hs) =
    let rest = lists_more hs in
    omega (arith, host_more h.host h.meta h.files.items, rest, events_append (all_parts h.host h.meta h.files.items) (hosts_parts hs))
