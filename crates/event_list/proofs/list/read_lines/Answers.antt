use Rattle.std.proofs.Common.{arith, rules}
use Rattle.event_list.proofs.Listing.{all_too_many, bad_there, begin, names_few, no_line, one_more, too_many}
use Rattle.event_list.proofs.Options.{at_none, at_some}
use Rattle.event_list.proofs.Reading.{all_read, key_falls, no_end, no_event}
use Rattle.event_list.proofs.list.read_lines.Goals as goal

pub loop-rest-init : goal.loop-rest-init
loop-rest-init c = begin c.args.text.now _ c.in_ok-read.ensures.events c.in_ok-read.ensures.tables

pub returns-in_default-clause-bad : goal.returns-in_default-clause-bad
returns-in_default-clause-bad c = λ line e. no_line c.args.text.now c.loop-rest.read c.loop-rest.least c.loop-rest.rest.now c.loop-rest.invariant (grind arith) (no_end c.loop-rest.rest.now c.loop-rest.least c.in_default.ensures.none)

pub returns-in_default-clause-line : goal.returns-in_default-clause-line
returns-in_default-clause-line c = λ line e. bad_there c.args.text.now c.loop-rest.read c.loop-rest.least c.loop-rest.rest.now line c.loop-rest.invariant (no_end c.loop-rest.rest.now c.loop-rest.least c.in_default.ensures.none) (search rules)

pub returns-in_default-2-clause-bad : goal.returns-in_default-2-clause-bad
returns-in_default-2-clause-bad c = λ line e. no_line c.args.text.now c.loop-rest.read c.loop-rest.least c.loop-rest.rest.now c.loop-rest.invariant (grind arith) (no_event c.loop-rest.rest.now c.in-Some.line.now c.in-Some.after.now c.loop-rest.least _ c.in-Some.ensures.found.0 c.in-Some.ensures.found.1 (rw c.deref-in-loop-rest.ensures.value c.in_ok-split_words.ensures.words) (at_none _ _ c.in_default-2.is c.in_ok-parsed.ensures.none))

pub returns-in_default-2-clause-line : goal.returns-in_default-2-clause-line
returns-in_default-2-clause-line c = λ line e. bad_there c.args.text.now c.loop-rest.read c.loop-rest.least c.loop-rest.rest.now line c.loop-rest.invariant (no_event c.loop-rest.rest.now c.in-Some.line.now c.in-Some.after.now c.loop-rest.least _ c.in-Some.ensures.found.0 c.in-Some.ensures.found.1 (rw c.deref-in-loop-rest.ensures.value c.in_ok-split_words.ensures.words) (at_none _ _ c.in_default-2.is c.in_ok-parsed.ensures.none)) (search rules)

pub returns-then-parsed-least-clause-bad : goal.returns-then-parsed-least-clause-bad
returns-then-parsed-least-clause-bad c = λ line e. no_line c.args.text.now c.loop-rest.read c.loop-rest.least c.loop-rest.rest.now c.loop-rest.invariant (grind arith) (key_falls c.loop-rest.rest.now c.in-Some.line.now c.in-Some.after.now c.loop-rest.least _ c.in-Some-2.parsed c.in-Some.ensures.found.0 c.in-Some.ensures.found.1 (rw c.deref-in-loop-rest.ensures.value c.in_ok-split_words.ensures.words) (at_some _ _ _ c.in-Some-2.is c.in_ok-parsed.ensures.found) c.if-parsed-least.true)

pub returns-then-parsed-least-clause-line : goal.returns-then-parsed-least-clause-line
returns-then-parsed-least-clause-line c = λ line e. bad_there c.args.text.now c.loop-rest.read c.loop-rest.least c.loop-rest.rest.now line c.loop-rest.invariant (key_falls c.loop-rest.rest.now c.in-Some.line.now c.in-Some.after.now c.loop-rest.least _ c.in-Some-2.parsed c.in-Some.ensures.found.0 c.in-Some.ensures.found.1 (rw c.deref-in-loop-rest.ensures.value c.in_ok-split_words.ensures.words) (at_some _ _ _ c.in-Some-2.is c.in_ok-parsed.ensures.found) c.if-parsed-least.true) (search rules)

pub returns-then-len-ge-MAX_EVENTS-clause-many : goal.returns-then-len-ge-MAX_EVENTS-clause-many
returns-then-len-ge-MAX_EVENTS-clause-many c = λ e. too_many c.args.text.now c.loop-rest.read c.loop-rest.least c.loop-rest.rest.now c.in-Some.line.now c.in-Some.after.now _ c.in-Some-2.parsed c.loop-rest.invariant c.in-Some.ensures.found.0 c.in-Some.ensures.found.1 (rw c.deref-in-loop-rest.ensures.value c.in_ok-split_words.ensures.words) (at_some _ _ _ c.in-Some-2.is c.in_ok-parsed.ensures.found) c.if-parsed-least.false (grind arith)

pub returns-then-len-ge-MAX_EVENTS-clause-all : goal.returns-then-len-ge-MAX_EVENTS-clause-all
returns-then-len-ge-MAX_EVENTS-clause-all c = λ e. all_too_many c.args.text.now c.loop-rest.read c.loop-rest.least c.loop-rest.rest.now c.in-Some.line.now c.in-Some.after.now _ c.in-Some-2.parsed c.loop-rest.invariant c.in-Some.ensures.found.0 c.in-Some.ensures.found.1 (rw c.deref-in-loop-rest.ensures.value c.in_ok-split_words.ensures.words) (at_some _ _ _ c.in-Some-2.is c.in_ok-parsed.ensures.found) c.if-parsed-least.false (grind arith)

pub add-requires-clause-tables : goal.add-requires-clause-tables
add-requires-clause-tables c = c.loop-rest.invariant.numbered.tables

pub add-requires-clause-host : goal.add-requires-clause-host
add-requires-clause-host c = (at_some _ _ _ c.in-Some-2.is c.in_ok-parsed.ensures.found).is_parsed_line.host

pub add-requires-clause-names : goal.add-requires-clause-names
add-requires-clause-names c = names_few c.args.text.now c.loop-rest.read c.loop-rest.least c.loop-rest.rest.now c.in-Some-2.parsed.event.event.host c.loop-rest.invariant (at_some _ _ _ c.in-Some-2.is c.in_ok-parsed.ensures.found).is_parsed_line.host

pub loop-rest-preserved : goal.loop-rest-preserved
loop-rest-preserved c = one_more c.args.text.now c.loop-rest.read c.loop-rest.least c.loop-rest.rest.now c.in-Some.line.now c.in-Some.after.now _ c.in-Some-2.parsed _ c.loop-rest.invariant c.in-Some.ensures.found.0 c.in-Some.ensures.found.1 (rw c.deref-in-loop-rest.ensures.value c.in_ok-split_words.ensures.words) (at_some _ _ _ c.in-Some-2.is c.in_ok-parsed.ensures.found) c.if-parsed-least.false (grind arith) c.in_ok-add.ensures

pub returns-clause-lines : goal.returns-clause-lines
returns-clause-lines c = (c.loop-rest.invariant.parsed_lines, all_read c.args.text.now c.loop-rest.invariant.parsed_lines c.loop-rest.least c.loop-rest.rest.now c.loop-rest.invariant.has (grind arith), c.loop-rest.invariant.numbered)

pub returns-clause-few : goal.returns-clause-few
returns-clause-few c = c.loop-rest.invariant.few
