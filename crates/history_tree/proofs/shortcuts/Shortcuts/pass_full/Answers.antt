use Rattle.history_tree.proofs.Shortening.{passing_on, shortcut_further}
use Rattle.history_tree.proofs.shortcuts.Shortcuts.pass_full.Goals as goal

pub loop-above-preserved : goal.loop-above-preserved
loop-above-preserved c =
    let further = shortcut_further c.args.nodes.now.nodes c.loop-above.number c.in-Some.above c.unwrap_or-further.result c.next_up-in-Some.result c.in-Some.ensures.up c.next_up-in-Some.ensures.up c.unwrap_or-further.ensures in
    passing_on c.args.nodes.now.nodes c.args.from c.loop-above.number c.unwrap_or-further.result c.loop-above.self c.lead.new.self c.loop-above.invariant further c.lead.ensures
