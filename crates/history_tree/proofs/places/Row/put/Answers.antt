use Rattle.std.proofs.Common.{◌≡◌, rules, insert}
use Rattle.std.proofs.lemmas.List.Sorted.{IsPermutation-insert}
use Rattle.history_tree.proofs.places.Row.put.Goals as goal

pub returns : goal.returns
returns c =
    let is : c.insert.new.self.items ≡ insert c.self.inside.places.items c.gap-at.result c.args.place = search rules in
    rw (is, ← c.self.view_is) (IsPermutation-insert c.self.inside.places.items c.gap-at.result c.args.place)
