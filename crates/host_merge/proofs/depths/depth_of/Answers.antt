use Rattle.std.proofs.Common.{◌≡◌, ◌+◌, Some, length, slice_get, refl, ap, ◌∙◌, subst, arith}
use Rattle.std.proofs.lemmas.Option.{slice_get_read}
use Rattle.host_tree.specs.declared.parent.Parent.TheVariants.{Root, Child}
use Rattle.host_tree.specs.Rooted.{IsAtDepth}
use Rattle.host_merge.proofs.Ways.{above, depth_below, depth_within, root_depth}
use Rattle.host_merge.proofs.depths.depth_of.Goals as goal

pub loop-parent-init : goal.loop-parent-init
loop-parent-init c =
    let d = c.requires.rooted c.args.host c.requires.host in
    let same : d.0 ≡ d.0 + 0 = omega arith in
    (c.requires.host, (d.0, d.1, subst (λ n. IsAtDepth c.args.forest.now.items n c.args.host) same d.1, omega (arith, depth_below c.args.forest.now.items c.requires.rooted d.0 c.args.host d.1)))

pub loop-parent-preserved : goal.loop-parent-preserved
loop-parent-preserved c =
    let parents = c.args.forest.now.items in
    let i = c.loop-parent.invariant in
    let at : slice_get parents c.loop-parent.at ≡ Some (Child c.in-Child.parent c.in-Child.map) = slice_get_read parents (length parents) c.loop-parent.at c.index.result.now refl i.0 c.index.ensures ∙ ap Some c.in-Child.is in
    let up = above parents i.1.0 c.loop-parent.at c.in-Child.parent c.in-Child.map at i.1.1 in
    let same : i.1.0 + c.loop-parent.depth ≡ up.0 + (c.loop-parent.depth + 1) = omega (arith, up.1) in
    (depth_within parents up.0 c.in-Child.parent up.2, (up.0, up.2, subst (λ n. IsAtDepth parents n c.args.host) same i.1.2, omega (arith, i.1.3, up.1)))

pub returns : goal.returns
returns c =
    let parents = c.args.forest.now.items in
    let i = c.loop-parent.invariant in
    let at : slice_get parents c.loop-parent.at ≡ Some Root = slice_get_read parents (length parents) c.loop-parent.at c.index.result.now refl i.0 c.index.ensures ∙ ap Some c.in_default.is in
    let low = root_depth parents i.1.0 c.loop-parent.at at i.1.1 in
    let same : i.1.0 + c.loop-parent.depth ≡ c.loop-parent.depth = omega (arith, low) in
    subst (λ n. IsAtDepth parents n c.args.host) same i.1.2
