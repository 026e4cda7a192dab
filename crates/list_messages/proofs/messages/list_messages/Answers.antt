use Rattle.std.proofs.Common.{All, ◌≡◌, subst, sym, rules}
use Rattle.std.proofs.lemmas.Result.{IfOk-weaker}
use Rattle.message_match.specs.Messages.{AreMessages, AreNumbered, AreSmall}
use Rattle.host_merge.specs.Placed.{ArePlaced, IsAmong}
use Rattle.host_merge.proofs.Theirs.{among}
use Rattle.list_messages.proofs.AtEvents.{at_events}
use Rattle.list_messages.proofs.OfLists.{keeps_order, numbered, small}
use Rattle.list_messages.proofs.messages.list_messages.Goals as goal

pub matches-requires-clause-numbered : goal.matches-requires-clause-numbered
matches-requires-clause-numbered c =
    let same : c.deref.result.now ≡ c.in_ok-hosts.hosts.items = search rules in
    subst AreNumbered (sym same) (numbered c.args.trace.now c.in_ok-hosts.hosts.items c.in_ok-hosts.ensures c.requires)

pub matches-requires-clause-small : goal.matches-requires-clause-small
matches-requires-clause-small c =
    let same : c.deref.result.now ≡ c.in_ok-hosts.hosts.items = search rules in
    subst AreSmall (sym same) (small c.args.trace.now c.in_ok-hosts.hosts.items c.in_ok-hosts.ensures c.requires)

pub place-requires-clause-among : goal.place-requires-clause-among
place-requires-clause-among c =
    let messages = c.in_ok-messages.messages in
    let same : c.deref.result.now ≡ c.in_ok-hosts.hosts.items = search rules in
    let whole : c.deref-2.result.now ≡ c.args.trace.now.events.items = search rules in
    let are : AreMessages c.in_ok-hosts.hosts.items messages.matched.items messages.ambiguous = subst (λ l. AreMessages l messages.matched.items messages.ambiguous) same c.in_ok-messages.ensures.exact in
    subst (λ l. All (IsAmong l) messages.matched.items) (sym whole) (among c.in_ok-hosts.hosts.items messages.matched.items messages.ambiguous are c.args.trace.now.events.items (keeps_order c.args.trace.now c.in_ok-hosts.hosts.items c.in_ok-hosts.ensures c.requires))

pub returns-clause-merge : goal.returns-clause-merge
returns-clause-merge c =
    let hosts = c.in_ok-hosts.hosts.items in
    let messages = c.in_ok-messages.messages in
    let merged = c.args.trace.now.events.items in
    let same : c.deref.result.now ≡ hosts = search rules in
    let whole : c.deref-2.result.now ≡ merged = search rules in
    let are : AreMessages hosts messages.matched.items messages.ambiguous = subst (λ l. AreMessages l messages.matched.items messages.ambiguous) same c.in_ok-messages.ensures.exact in
    IfOk-weaker c.place.result _ _
    (λ placed h. record {
      rises = c.requires.rises;
      below = c.requires.below;
      few = c.requires.few;
      messages = at_events hosts messages.matched.items messages.ambiguous merged placed.items are (keeps_order c.args.trace.now hosts c.in_ok-hosts.ensures c.requires) (subst (λ l. ArePlaced l messages.matched.items placed.items) whole h);
    })
    c.place.ensures
