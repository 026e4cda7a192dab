use Rattle.std.proofs.Common.{◌≡◌, ◌<◌, rules, length, IfNone, Contains, subst}
use Rattle.history_tree.specs.declared.places.Place.{Place}
use Rattle.history_tree.specs.Places.{PlaceList, row_at}
use Rattle.history_tree.proofs.Rows.{read_row}
use Rattle.history_tree.proofs.places.Places.latest.Goals as goal

pub returns-clause-none : goal.returns-clause-none
returns-clause-none c =
    let there : c.args.number < length c.args.self.now = rw (← c.self.view_is) (search rules) in
    let row : c.index.result.now ≡ row_at c.args.number c.args.self.now = read_row c.args.self.now c.args.number c.index.result.now (rw c.self.view_is at c.index.ensures) there in
    subst (λ (r : PlaceList). IfNone c.latest.result ((p : Place) → Contains r.places p → c.args.t < p.start)) row c.latest.ensures.none
