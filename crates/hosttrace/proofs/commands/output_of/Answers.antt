use Rattle.std.proofs.Common.{rules}
use Rattle.hosttrace.specs.Seen.{store_seen}
use Rattle.hosttrace.proofs.Texts.{refuses_asked}
use Rattle.hosttrace.proofs.commands.output_of.Goals as goal

pub returns-in_err-text_of_ask-in-Ask-clause-fails : goal.returns-in_err-text_of_ask-in-Ask-clause-fails
returns-in_err-text_of_ask-in-Ask-clause-fails g c =
    let fails = refuses_asked c.args.command.now _ _ _ c.in-Ask.is (store_seen g.S.Store.holds g.S.Store.faults c.args.store.now c.text_of_ask.new.store) c.in_err-text_of_ask-in-Ask.field-0.0 c.in_err-text_of_ask-in-Ask.ensures.fails in
    search rules
