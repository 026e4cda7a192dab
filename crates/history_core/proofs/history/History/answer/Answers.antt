use Rattle.std.proofs.Common.{sym, subst, rules, Some, ◌≡◌, ◌<◌}
use Rattle.attribute_tree.specs.Numbered.{number_among}
use Rattle.history_tree.specs.Records.{content_of}
use Rattle.history_core.specs.Intervals.{IsValueIn}
use Rattle.history_core.specs.Stands.{Stands, kept_of}
use Rattle.history_core.proofs.Answering.{numbered, answered}
use Rattle.history_core.proofs.history.History.answer.Goals as goal

pub returns-clause-stands : goal.returns-clause-stands
returns-clause-stands c = λ steps stands.
    let h = kept_of c.self.inside.attributes.paths c.self.inside.tree c.self.inside.opened.intervals c.self.inside.count c.self.inside.built in
    let stood = subst (Stands steps) (sym c.self.view_is) stands in
    let below : c.args.t < c.self.inside.built = search rules in
    let number : number_among c.self.inside.attributes.paths c.args.path ≡ Some c.in-Some.number = search rules in
    let value : IsValueIn (content_of c.self.inside.tree.nodes) c.self.inside.opened.intervals c.in-Some.number c.args.t c.value_at.result = c.value_at.ensures in
    answered h steps stood c.args.t c.args.path (Some c.in-Some.number) c.value_at.result below number (numbered h steps stood c.in-Some.number c.args.t c.value_at.result value)
