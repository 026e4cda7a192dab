use Rattle.std.proofs.Common.{◌≡◌, Some, slice_get, refl, rules, sym}
use Rattle.std.proofs.lemmas.Option.{slice_get_read}
use Rattle.type_table.proofs.Tables.{index_names, index_ranked, index_refers, sound_at, tree_is}
use Rattle.type_table.proofs.table.Table.get.Goals as goal

pub returns-clause-kind : goal.returns-clause-kind
returns-clause-kind c =
    let at : slice_get c.self.inside.types c.args.index ≡ Some c.index-as_slice-index.result = slice_get_read c.self.inside.types _ c.args.index _ refl (search rules) (search rules) in
    rw (sym c.self.view_is) (tree_is c.self.inside.names.keys c.self.inside.types c.args.index c.index-as_slice-index.result c.self.invariant.ranked at)

pub returns-clause-refers : goal.returns-clause-refers
returns-clause-refers c =
    let at : slice_get c.self.inside.types c.args.index ≡ Some c.index-as_slice-index.result = slice_get_read c.self.inside.types _ c.args.index _ refl (search rules) (search rules) in
    rw (sym c.self.view_is) (index_refers c.self.inside.names.keys c.self.inside.types c.args.index c.index-as_slice-index.result c.self.invariant.ranked (search rules) at)

pub returns-clause-names : goal.returns-clause-names
returns-clause-names c =
    let at : slice_get c.self.inside.types c.args.index ≡ Some c.index-as_slice-index.result = slice_get_read c.self.inside.types _ c.args.index _ refl (search rules) (search rules) in
    rw (sym c.self.view_is) (index_names c.self.inside.names.keys c.self.inside.types c.args.index c.index-as_slice-index.result c.self.invariant.ranked at)

pub returns-clause-ranked : goal.returns-clause-ranked
returns-clause-ranked c =
    let at : slice_get c.self.inside.types c.args.index ≡ Some c.index-as_slice-index.result = slice_get_read c.self.inside.types _ c.args.index _ refl (search rules) (search rules) in
    index_ranked c.self.inside.names.keys c.self.inside.types c.args.index c.index-as_slice-index.result c.self.invariant.ranked at

pub returns-clause-sound : goal.returns-clause-sound
returns-clause-sound c =
    let at : slice_get c.self.inside.types c.args.index ≡ Some c.index-as_slice-index.result = slice_get_read c.self.inside.types _ c.args.index _ refl (search rules) (search rules) in
    sound_at c.self.inside.types c.args.index c.index-as_slice-index.result c.self.invariant.sound at

pub returns-clause-there : goal.returns-clause-there
returns-clause-there c =
    let at : slice_get c.self.inside.types c.args.index ≡ Some c.index-as_slice-index.result = slice_get_read c.self.inside.types _ c.args.index _ refl (search rules) (search rules) in
    rw (sym c.self.view_is) at
