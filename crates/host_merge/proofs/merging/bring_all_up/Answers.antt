use Rattle.std.proofs.Common.{◌≡◌, ◌-◌, ◌+◌, ◌<◌, suc, Some, length, slice_get, refl, sym, ap, ◌∙◌, subst, arith}
use Rattle.std.proofs.lemmas.Option.{slice_get_read}
use Rattle.host_tree.specs.declared.parent.Parent.TheVariants.{Root, Child}
use Rattle.host_merge.proofs.Levels.{AreAtLevel, below_parent, depth, depth_is, depth_read, first_level, next_level, one_brought_up, passed_over, roots_ready}
use Rattle.host_merge.proofs.Ways.{root_depth}
use Rattle.host_merge.proofs.merging.bring_all_up.Goals as goal

pub loop-step-init : goal.loop-step-init
loop-step-init c = λ rooted are.
    let parents = c.args.forest.now.items in
    let own = c.args.lists.now.items in
    let count : length parents ≡ c.len-count.result - 0 = omega arith in
    subst (λ n. AreAtLevel parents own c.args.depths.now rooted are n 0 own) count (first_level parents own c.args.depths.now rooted are c.requires.counted c.requires.times)

pub loop-host-preserved-then-depths-host : goal.loop-host-preserved-then-depths-host
loop-host-preserved-then-depths-host c = λ rooted are.
    let parents = c.args.forest.now.items in
    let own = c.args.lists.now.items in
    let host = c.loop-host.host in
    passed_over parents own c.args.depths.now rooted are (c.len-count.result - c.loop-step.step) host c.loop-host.lists.items (omega arith)
    (λ s. c.if-depths-host.true (sym (depth_read parents own c.args.depths.now rooted are host) ∙ s)) (c.loop-host.invariant rooted are)

pub loop-host-preserved-in_default : goal.loop-host-preserved-in_default
loop-host-preserved-in_default c = λ rooted are.
    let parents = c.args.forest.now.items in
    let own = c.args.lists.now.items in
    let host = c.loop-host.host in
    let at : slice_get parents host ≡ Some Root = slice_get_read parents (length parents) host c.index.result.now refl (omega arith) c.index.ensures ∙ ap Some c.in_default.is in
    let inside : host < length parents = omega arith in
    let low = root_depth parents (depth parents own c.args.depths.now rooted are host) host at (depth_is parents own c.args.depths.now rooted are host inside) in
    passed_over parents own c.args.depths.now rooted are (c.len-count.result - c.loop-step.step) host c.loop-host.lists.items inside (λ s. omega (arith, s, low)) (c.loop-host.invariant rooted are)

pub bring_up-requires-clause-host : goal.bring_up-requires-clause-host
bring_up-requires-clause-host c = omega (arith, (c.loop-host.invariant c.requires.rooted c.requires.depths).count)

pub bring_up-requires-clause-parent : goal.bring_up-requires-clause-parent
bring_up-requires-clause-parent c =
    let parents = c.args.forest.now.items in
    let at : slice_get parents c.loop-host.host ≡ Some (Child c.in-Child.parent c.in-Child.map) = slice_get_read parents (length parents) c.loop-host.host c.index.result.now refl (omega arith) c.index.ensures ∙ ap Some c.in-Child.is in
    let p = below_parent parents c.args.lists.now.items c.args.depths.now c.requires.rooted c.requires.depths c.loop-host.host c.in-Child.parent c.in-Child.map at in
    omega (arith, p.0, (c.loop-host.invariant c.requires.rooted c.requires.depths).count)

pub bring_up-requires-clause-apart : goal.bring_up-requires-clause-apart
bring_up-requires-clause-apart c = λ same.
    let parents = c.args.forest.now.items in
    let at : slice_get parents c.loop-host.host ≡ Some (Child c.in-Child.parent c.in-Child.map) = slice_get_read parents (length parents) c.loop-host.host c.index.result.now refl (omega arith) c.index.ensures ∙ ap Some c.in-Child.is in
    let p = below_parent parents c.args.lists.now.items c.args.depths.now c.requires.rooted c.requires.depths c.loop-host.host c.in-Child.parent c.in-Child.map at in
    omega (arith, p.1, ap (depth parents c.args.lists.now.items c.args.depths.now c.requires.rooted c.requires.depths) same)

pub bring_up-requires-clause-times : goal.bring_up-requires-clause-times
bring_up-requires-clause-times c = (c.loop-host.invariant c.requires.rooted c.requires.depths).timed

pub loop-host-preserved : goal.loop-host-preserved
loop-host-preserved c = λ rooted are.
    let parents = c.args.forest.now.items in
    let own = c.args.lists.now.items in
    let host = c.loop-host.host in
    let at : slice_get parents host ≡ Some (Child c.in-Child.parent c.in-Child.map) = slice_get_read parents (length parents) host c.index.result.now refl (omega arith) c.index.ensures ∙ ap Some c.in-Child.is in
    let level : depth parents own c.args.depths.now rooted are host ≡ c.len-count.result - c.loop-step.step = depth_read parents own c.args.depths.now rooted are host ∙ c.if-depths-host.false in
    one_brought_up parents own c.args.depths.now rooted are (c.len-count.result - c.loop-step.step) host c.in-Child.parent c.in-Child.map c.loop-host.lists.items c.bring_up.new.lists.items (omega arith) level at
    c.in_ok-bring_up.ensures (c.loop-host.invariant rooted are)

pub loop-step-preserved : goal.loop-step-preserved
loop-step-preserved c = λ rooted are.
    let parents = c.args.forest.now.items in
    let own = c.args.lists.now.items in
    let lists = c.loop-host.lists.items in
    let level : c.len-count.result - c.loop-step.step ≡ suc (c.len-count.result - (c.loop-step.step + 1)) = omega arith in
    let last : c.loop-host.host ≡ length parents = omega arith in
    next_level parents own c.args.depths.now rooted are (c.len-count.result - (c.loop-step.step + 1)) lists
    (subst (λ n. AreAtLevel parents own c.args.depths.now rooted are n (length parents) lists) level (subst (λ n. AreAtLevel parents own c.args.depths.now rooted are (c.len-count.result - c.loop-step.step) n lists) last (c.loop-host.invariant rooted are)))

pub returns : goal.returns
returns c =
    let parents = c.args.forest.now.items in
    let own = c.args.lists.now.items in
    let rooted = c.requires.rooted in
    let are = c.requires.depths in
    let none : c.len-count.result - c.loop-step.step ≡ 0 = omega arith in
    record {
      up = roots_ready parents own c.args.depths.now rooted are c.requires.counted c.loop-step.lists.items (subst (λ n. AreAtLevel parents own c.args.depths.now rooted are n 0 c.loop-step.lists.items) none (c.loop-step.invariant rooted are));
      times = (c.loop-step.invariant rooted are).timed;
    }
