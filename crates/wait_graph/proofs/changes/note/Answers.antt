use Rattle.wait_graph.proofs.Noting.{notes_one, notes_two}
use Rattle.wait_graph.proofs.changes.note.Goals as goal

pub returns-in_ok-touch-2 : goal.returns-in_ok-touch-2
returns-in_ok-touch-2 c = notes_two c.args.place c.args.event.now c.args.current c.args.threads.now.entries c.touch.new.threads.entries c.touch-then-second-first.new.threads.entries c.args.changes.now.items c.touch.new.changes.items c.touch-then-second-first.new.changes.items
    c.touched-first.result c.touched-first.ensures c.in_ok-touch.ensures c.in_ok-touch-2.ensures c.if-second-first.true

pub returns-else-second-first : goal.returns-else-second-first
returns-else-second-first c = notes_one c.args.place c.args.event.now c.args.current c.args.threads.now.entries c.touch.new.threads.entries c.touch.new.threads.entries c.args.changes.now.items c.touch.new.changes.items c.touch.new.changes.items
    c.touched-first.result c.touched-first.ensures c.in_ok-touch.ensures c.if-second-first.false
