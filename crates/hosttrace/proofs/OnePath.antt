-- A list has one list of messages, and a thread one critical path over a window.
use Rattle.std.proofs.Common.{◌≡◌, ◌∙◌, ℕ, suc, List, [], ◌∷◌, sym, ap, subst₂}
use Rattle.type_table.specs.SameTrace.{AreBoth}
use Rattle.trace_types.specs.declared.event.Merged.{Merged}
use Rattle.trace_types.specs.declared.host.HostEvents.{HostEvents}
use Rattle.event_list.specs.Splits.{AreHostsFrom}
use Rattle.event_list.specs.declared.trace.MergedTrace.{MergedTrace}
use Rattle.message_match.proofs.OneAnswer.{one_answer as one_list_of_messages}
use Rattle.host_merge.specs.declared.placed.Placed.{Placed}
use Rattle.host_merge.specs.Placed.{ArePlaced}
use Rattle.host_sync.proofs.OneAnswer.{one_placed}
use Rattle.list_messages.specs.Places.{AreListPlaces}
use Rattle.wait_graph.specs.Graph.{IsMergeWithMessages}
use Rattle.critical_path.proofs.OnePath.{one_path}
use Rattle.report_views.specs.Pieces.{pieces_text}
use Rattle.hosttrace.specs.Clusters.{IsSameHost}
use Rattle.hosttrace.specs.Paths.{IsPathText}
use Rattle.hosttrace.proofs.OneSync.{messages_there}

-- the hosts of a list are the same
hosts_both : (ms : List Merged) (first : ℕ) (lists : List (List (List ℕ))) (xs ys : List HostEvents) → AreHostsFrom ms first lists xs → AreHostsFrom ms first lists ys → AreBoth IsSameHost xs ys
hosts_both ms first [] [] [] h g = tt
hosts_both ms first [] [] (y ∷ ys) h g = absurd g
hosts_both ms first [] (x ∷ xs) ys h g = absurd h
hosts_both ms first (l ∷ lists) [] ys h g = absurd h
hosts_both ms first (l ∷ lists) (x ∷ xs) [] h g = absurd g
hosts_both ms first (l ∷ lists) (x ∷ xs) (y ∷ ys) h g = (
  record {
    number = h.0.number ∙ sym g.0.number;
    hostname = h.0.hostname ∙ sym g.0.hostname;
    names = h.0.names ∙ sym g.0.names;
    events = h.0.events ∙ sym g.0.events;
    refused = h.0.refused ∙ sym g.0.refused;
    packets = h.0.packets ∙ sym g.0.packets;
    incomplete = h.0.incomplete ∙ sym g.0.incomplete;
  },
  hosts_both ms (suc first) lists xs ys h.1 g.1,
)

pub one_places : (t u : MergedTrace) → t.events.items ≡ u.events.items → t.names.items ≡ u.names.items → (placed others : List Placed) → AreListPlaces t placed → AreListPlaces u others → placed ≡ others
one_places t u events names placed others h g =
    let hosts : AreHostsFrom u.events.items 0 u.names.items h.hosts = subst₂ (λ ms ns. AreHostsFrom ms 0 ns h.hosts) events names h.are_hosts in
    let both = hosts_both u.events.items 0 u.names.items h.hosts g.hosts hosts g.are_hosts in
    let matched = (one_list_of_messages h.hosts h.matched g.matched h.ambiguous g.ambiguous h.messages (messages_there h.hosts g.hosts g.matched g.ambiguous both g.messages)).0 in
    let places : ArePlaced u.events.items g.matched placed = subst₂ (λ ms ds. ArePlaced ms ds placed) events matched h.are_placed in
    one_placed u.events.items g.matched placed others places g.are_placed

pub same_path_text : (merged : List Merged) (placed : List Placed) (host tid from to : ℕ) → IsMergeWithMessages merged placed → (a b : List ℕ) → IsPathText merged placed host tid from to a → IsPathText merged placed host tid from to b → a ≡ b
same_path_text merged placed host tid from to merge a b h g =
    h.is_text ∙ (ap pieces_text (one_path merged placed merge host tid from to h.pieces g.pieces h.is_path g.is_path) ∙ sym g.is_text)
