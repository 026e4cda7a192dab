use Rattle.std.proofs.Common.{refl}
use Rattle.event_list.proofs.Spelling.{one_more, last_word}
use Rattle.event_list.proofs.words.split_words.Goals as goal

pub loop-word-preserved : goal.loop-word-preserved
loop-word-preserved c = one_more c.args.line.now c.loop-word.rest.now c.in-Some.after.now c.in-Some.word.now c.loop-word.words.items c.push.new.self.items c.in-Some.word c.loop-word.invariant c.in-Some.ensures.found.0 c.in-Some.ensures.found.1 refl c.in_ok-push.ensures.items

pub returns : goal.returns
returns c = record { words = last_word c.args.line.now c.loop-word.rest.now c.loop-word.words.items c.push-2.new.self.items c.loop-word.rest c.loop-word.invariant c.in_default.ensures.none refl c.in_ok-push-2.ensures.items }
