use Rattle.std.proofs.Common.{◌≡◌, Some, slice_get, sym, arith}
use Rattle.std.proofs.lemmas.Option.{slice_get_read}
use Rattle.host_merge.proofs.Places.{host_small, list_long, placed_is}
use Rattle.host_merge.proofs.placing.place_of.Goals as goal

pub bounds-lists-host : goal.bounds-lists-host
bounds-lists-host c = omega (arith, host_small c.args.host c.args.merged.now (omega arith) c.requires.hosts, c.requires.lists.count)

pub at-requires : goal.at-requires
at-requires c =
    let lists = c.args.lists.now in
    let small = host_small c.args.host c.args.merged.now (omega arith) c.requires.hosts in
    let at : slice_get lists c.args.host ≡ Some c.index-lists-host.result = slice_get_read lists 64 c.args.host c.index-lists-host.result (sym c.requires.lists.count) small c.index-lists-host.is in
    list_long c.args.merged.now lists c.args.host c.args.number c.index-lists-host.result small c.requires.lists at c.requires.there

pub returns : goal.returns
returns c =
    let lists = c.args.lists.now in
    let small = host_small c.args.host c.args.merged.now (omega arith) c.requires.hosts in
    let at : slice_get lists c.args.host ≡ Some c.index-lists-host.result = slice_get_read lists 64 c.args.host c.index-lists-host.result (sym c.requires.lists.count) small c.index-lists-host.is in
    placed_is c.args.merged.now lists c.args.host c.args.number c.at.result c.index-lists-host.result small c.requires.lists at c.at.ensures
