use Rattle.std.proofs.Common.{rules, ◌≡◌, ◌++◌, ◌∷◌, [], sym, true, false, length}
use Rattle.type_table.proofs.Tables.{facts_refer, fits_by, grows_type, keeps, keeps_type, tree_pushed, within_push}
use Rattle.type_table.proofs.table.Table.push.Goals as goal

pub meta_type_size-requires : goal.meta_type_size-requires
meta_type_size-requires c =
    let refer = facts_refer c.self.inside.names.keys c.self.inside.types c.self.inside.type_sizes c.args.meta c.self.invariant (search rules) in
    search rules

pub returns-in_default-clause-breaks : goal.returns-in_default-clause-breaks
returns-in_default-clause-breaks c =
    let fits = fits_by c.self.inside.names.keys c.self.inside.types c.self.inside.type_sizes c.args.meta false c.self.invariant (search rules) (search rules) (search rules) in
    search rules

pub invariant_of-self-else-is_err : goal.invariant_of-self-else-is_err
invariant_of-self-else-is_err c =
    let keeps = keeps_type c.self.inside.names.keys c.self.inside.types c.self.inside.type_sizes c.args.meta c.in-Some.type_sizes c.self.invariant (search rules) (search rules) (search rules) (search rules) (search rules) (search rules) in
    search rules

pub returns-clause-keeps : goal.returns-clause-keeps
returns-clause-keeps c =
    let types : c.push-2.new.self ≡ c.self.inside.types ++ c.args.meta ∷ [] = search rules in
    let grows = grows_type c.self.inside.names.keys c.self.inside.types c.args.meta in
    rw (types, sym c.self.view_is) (keeps _ _ c.self.invariant.ranked grows)

pub returns-clause-index : goal.returns-clause-index
returns-clause-index c =
    let types : c.push-2.new.self ≡ c.self.inside.types ++ c.args.meta ∷ [] = search rules in
    let index : c.len-index.result ≡ length c.self.inside.types = search rules in
    let pushed = tree_pushed c.self.inside.names.keys c.self.inside.types c.args.meta in
    rw (types, index, sym c.self.view_is) (within_push c.self.inside.types c.args.meta, pushed)

pub returns-clause-fits : goal.returns-clause-fits
returns-clause-fits c =
    let fits = fits_by c.self.inside.names.keys c.self.inside.types c.self.inside.type_sizes c.args.meta true c.self.invariant (search rules) (search rules) (search rules) in
    search rules
