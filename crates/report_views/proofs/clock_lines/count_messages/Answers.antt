use Rattle.std.proofs.Common.{◌≡◌, ◌+◌, ◌*◌, ◌∙◌, get_or, length-take, take, arith, rules}
use Rattle.std.proofs.lemmas.Grind.{get_or_default_zero}
use Rattle.message_match.specs.declared.message.Message.{Message}
use Rattle.report_views.proofs.MessageCounts.{count_small, counted_more, place_below}
use Rattle.report_views.proofs.clock_lines.count_messages.Goals as goal

abbrev none : Message
none = record { sent = 0; received = 0; from = 0; send = 0; to = 0; receive = 0 }

pub overflow_add-index_mut : goal.overflow_add-index_mut
overflow_add-index_mut c =
    let i = c.loop-message.message-index in
    let matched = c.args.matched.now in
    let counts = c.loop-message.counts.items in
    let m = get_or matched i none in
    let between = c.requires.between i none c.loop-message-test.true in
    let long = c.loop-message.invariant.count in
    let below = place_below c.args.hosts m.from m.to between.from_in between.to_in in
    let read : c.index_mut.result.now ≡ get_or counts (m.from * c.args.hosts + m.to) 0 = c.index_mut.ensures.value ∙ get_or_default_zero counts (m.from * c.args.hosts + m.to) c.index_mut.result.now (omega (arith, long, below)) in
    let small = count_small c.args.hosts (take i matched) counts m.from m.to c.loop-message.invariant between.from_in between.to_in in
    let few = c.requires.count in
    omega (arith, read, small, few, length-take i matched)

pub loop-message-preserved : goal.loop-message-preserved
loop-message-preserved c =
    let i = c.loop-message.message-index in
    let matched = c.args.matched.now in
    let counts = c.loop-message.counts.items in
    let m = get_or matched i none in
    let between = c.requires.between i none c.loop-message-test.true in
    let long = c.loop-message.invariant.count in
    let below = place_below c.args.hosts m.from m.to between.from_in between.to_in in
    let read : c.index_mut.result.now ≡ get_or counts (m.from * c.args.hosts + m.to) 0 = c.index_mut.ensures.value ∙ get_or_default_zero counts (m.from * c.args.hosts + m.to) c.index_mut.result.now (omega (arith, long, below)) in
    counted_more c.args.hosts matched i none counts c.index_mut.result.now c.loop-message-test.true c.loop-message.invariant between.from_in between.to_in read (search rules)
