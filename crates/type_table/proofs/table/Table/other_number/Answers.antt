use Rattle.std.proofs.Common.{rules, ◌≡◌, ◌∙◌, Some, ap, option_and_then, position, sym}
use Rattle.trace_types.specs.Texts.{is_text}
use Rattle.type_table.specs.Names.{other_spelling}
use Rattle.type_table.specs.Table.{name_at}
use Rattle.type_table.proofs.table.Table.other_number.Goals as goal
use Rattle.type_table.proofs.table.Table.other_number.Goals.{in-Some, in-None}

pub returns-clause-number : goal.returns-clause-number
returns-clause-number c =
    let name : c.match-get.name.now ≡ name_at c.args.self.now.names c.args.name = elim c.match-get.branch [ in-Some w ↦ search rules | in-None w ↦ search rules ] in
    let spelled : other_spelling (name_at c.args.self.now.names c.args.name) ≡ Some c.in-Some-2.other = search rules in
    let found : c.get_index_of.result ≡ position (is_text c.in-Some-2.other) c.args.self.now.names = search rules in
    let same : c.map.result ≡ c.get_index_of.result = search rules in
    same ∙ found ∙ ap (option_and_then (λ other. position (is_text other) c.args.self.now.names)) (sym spelled)
