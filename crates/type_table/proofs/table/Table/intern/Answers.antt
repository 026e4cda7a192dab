use Rattle.std.proofs.Common.{rules, subst, sym}
use Rattle.type_table.proofs.Tables.{keeps}
use Rattle.type_table.proofs.Texts.{name_stands, grows_name, keeps_name, trees_named}
use Rattle.type_table.specs.Table.{Grows, IsTable}
use Rattle.type_table.proofs.table.Table.intern.Goals as goal

pub returns-in-Some-clause-named : goal.returns-in-Some-clause-named
returns-in-Some-clause-named c =
    let stands = name_stands c.args.self.now.names c.args.name.now c.in-Some.number (search rules) in
    search rules

pub invariant_of-self-2 : goal.invariant_of-self-2
invariant_of-self-2 c =
    let keeps = keeps_name c.self.inside.names.keys c.self.inside.types c.self.inside.type_sizes c.in_ok-name.name (search rules) c.self.invariant in
    subst (λ names. IsTable (record { names = names; types = c.self.inside.types }) c.self.inside.type_sizes) (sym c.in_ok-insert_full.ensures.keys) keeps

pub returns-clause-keeps : goal.returns-clause-keeps
returns-clause-keeps c =
    let grows = grows_name c.self.inside.names.keys c.self.inside.types c.in_ok-name.name in
    let more = subst (λ names. Grows (record { names = c.self.inside.names.keys; types = c.self.inside.types }) (record { names = names; types = c.self.inside.types })) (sym c.in_ok-insert_full.ensures.keys) grows in
    rw (sym c.self.view_is) (keeps (record { names = c.self.inside.names.keys; types = c.self.inside.types }) (record { names = c.insert_full.new.self.keys; types = c.self.inside.types }) c.self.invariant.ranked more)

pub returns-clause-trees_stay : goal.returns-clause-trees_stay
returns-clause-trees_stay c =
    let stay = trees_named c.self.inside.names.keys c.self.inside.types c.in_ok-name.name c.self.invariant.ranked in
    rw (c.in_ok-insert_full.ensures.keys, sym c.self.view_is) stay
