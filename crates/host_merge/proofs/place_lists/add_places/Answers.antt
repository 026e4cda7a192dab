use Rattle.std.proofs.Common.{◌+◌, get_or, set, sym, subst}
use Rattle.std.proofs.lemmas.Option.{slice_get-get_or}
use Rattle.host_merge.specs.PlaceLists.{ArePlaceLists}
use Rattle.host_merge.proofs.Places.{no_place_lists, place_lists_more}
use Rattle.host_merge.proofs.place_lists.add_places.Goals as goal

pub loop-place-init : goal.loop-place-init
loop-place-init c = subst (ArePlaceLists c.args.merged.now 0) (sym c.requires.empty) (no_place_lists c.args.merged.now)

pub loop-place-preserved : goal.loop-place-preserved
loop-place-preserved c =
    let merged = c.args.merged.now in
    let n = c.loop-place.place in
    let lists = c.loop-place.lists.items in
    let e = get_or merged n c.index-merged-place.result in
    subst (λ l. ArePlaceLists merged (n + 1) (set lists e.event.host l)) (sym c.in_ok-push.ensures)
    (place_lists_more merged n e lists c.index_mut.result.now (slice_get-get_or merged n c.index-merged-place.result c.loop-place-test.true) (c.requires.hosts n c.index-merged-place.result c.loop-place-test.true) c.index_mut.ensures.value c.loop-place.invariant)
