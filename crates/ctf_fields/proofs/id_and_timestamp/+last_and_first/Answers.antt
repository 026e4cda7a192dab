use Rattle.std.proofs.Common.{◌∙◌, sym, ap, arith, rules}
use Rattle.std.specs.Option.{option_copied}
use Rattle.ctf_fields.specs.Fields.{or_else}
use Rattle.ctf_fields.proofs.Chosen.{last_chosen, none_first, none_last}
use Rattle.ctf_fields.proofs.id_and_timestamp.+last_and_first.Goals as goal

pub last_and_first_in-returns-in-Choice-clause-last : goal.last_and_first_in-returns-in-Choice-clause-last
last_and_first_in-returns-in-Choice-clause-last t c =
    c.last_and_first_at.ensures.last
    ∙ ap (λ o. or_else o (option_copied c.args.found.last)) (sym (last_chosen c.args.depth c.args.table.now.names c.args.last.now c.in-Choice.name c.args.field.now c.in-Choice.field c.get.result.now (omega (arith, c.if-depth-eq0.false)) c.in-Choice.is c.get.ensures))

pub last_and_first_at-returns-in-Int-clause-last : goal.last_and_first_at-returns-in-Int-clause-last
last_and_first_at-returns-in-Int-clause-last t c = rw (none_last c.args.depth c.args.table.now.names c.args.last.now c.args.field.now c.in-Int.ty c.in-Int.value c.in-Int.is) (search rules)

pub last_and_first_at-returns-in-Int-clause-first : goal.last_and_first_at-returns-in-Int-clause-first
last_and_first_at-returns-in-Int-clause-first t c = rw (none_first c.args.depth c.args.table.now.names c.args.first.now c.args.field.now c.in-Int.ty c.in-Int.value c.in-Int.is) (search rules)
