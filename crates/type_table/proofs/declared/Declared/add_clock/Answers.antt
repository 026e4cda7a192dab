use Rattle.std.proofs.Common.{rules, nat_eq, ◌≡◌, ◌<◌, ◌+◌, ◌^◌, ◌++◌, ◌∷◌, [], length}
use Rattle.type_table.proofs.Rates.{few_clocks}
use Rattle.indexmap.proofs.CallerLemmas.{insert_entry-new}
use Rattle.std.specs.Cmp.Lexicographic.{pointwise}
use Rattle.type_table.proofs.declared.Declared.add_clock.Goals as goal

pub returns-clause-ok : goal.returns-clause-ok
returns-clause-ok c =
    let new = insert_entry-new (pointwise nat_eq) c.self.inside.clocks c.args.name c.args.rate (search rules) in
    search rules

pub invariant_of-self-2 : goal.invariant_of-self-2
invariant_of-self-2 c =
    let new = insert_entry-new (pointwise nat_eq) c.self.inside.clocks c.args.name c.args.rate (search rules) in
    let entries : c.insert.new.self.entries ≡ c.self.inside.clocks.entries ++ (c.args.name, c.args.rate) ∷ [] = search rules in
    let room : length c.self.inside.clocks.entries + 1 < 2 ^ 32 = search rules in
    few_clocks _ c.insert.new.self.entries c.args.name c.args.rate c.self.invariant entries room c.requires.rate
