use Rattle.std.proofs.Common.{◌≡◌, ◌≤◌, ◌+◌, ◌-◌, suc, List, [], ◌∷◌, ◌++◌, length, drop, take, sym, ap, ◌∙◌, subst, arith}
use Rattle.std.proofs.lemmas.List.{append-nil, drop_all, length-drop, take_all}
use Rattle.stable_sort.proofs.Unique.{NoneBelow}
use Rattle.trace_types.specs.declared.event.Merged.{Merged}
use Rattle.host_merge.proofs.Brought.{key_of}
use Rattle.host_merge.proofs.Merges.{AreMerged, above_end, above_from, merged_joined, none_merged, one_at, order_of_sorted, other_next, own_next, rest_last}
use Rattle.host_merge.proofs.lists.merge.Goals as goal
use Rattle.host_merge.proofs.lists.merge.Goals.{then-loop-next-test+else-key, else-loop-next-test}

pub loop-other-init : goal.loop-other-init
loop-other-init c = subst (λ heads. AreMerged c.args.map.now c.args.own.now c.args.others.now heads 0 0) (sym {A = List Merged} (c.reserve.ensures.items ∙ c.clear.ensures.items)) (none_merged c.args.map.now c.args.own.now c.args.others.now)

pub loop-next-preserved : goal.loop-next-preserved
loop-next-preserved c =
    let own = c.args.own.now in
    let first : Merged = c.index-own-next.result in
    let y : Merged = c.brought-brought.result in
    let low : first.key ≤ y.key = omega arith in
    let is : c.copied.result ≡ first = c.copied.ensures ∙ one_at own c.loop-next.next c.index-own-next-in-loop-next.result first c.loop-next-test.true c.index-own-next-in-loop-next.is c.index-own-next.is in
    subst (λ heads. AreMerged c.args.map.now own c.args.others.now heads (c.loop-next.next + 1) c.loop-other.other-index) (sym {A = List Merged} (c.in_ok-push.ensures.items ∙ ap (λ z. c.loop-next.heads.items ++ z ∷ []) is))
    (own_next c.args.map.now own c.args.others.now c.loop-next.heads.items c.loop-next.next c.loop-other.other-index first c.other-item.result y (order_of_sorted own c.requires.own) (order_of_sorted c.args.others.now c.requires.others)
    c.loop-next-test.true c.index-own-next.is c.loop-other-test.true c.other-item.is c.brought-brought.ensures.key low c.loop-next.invariant)

pub loop-other-preserved : goal.loop-other-preserved
loop-other-preserved c =
    let own = c.args.own.now in
    let y : Merged = c.brought-brought.result in
    let above : NoneBelow key_of (suc y.key) (drop c.loop-next.next own) =
    elim c.loop-next-test.branch [
      | then-loop-next-test+else-key w ↦ above_from (suc y.key) own c.loop-next.next w.index-own-next.result w.loop-next-test.true w.index-own-next.is (omega arith) (order_of_sorted own c.requires.own)
      | else-loop-next-test w ↦ above_end (suc y.key) own c.loop-next.next w.loop-next-test.false
    ] in
    subst (λ heads. AreMerged c.args.map.now own c.args.others.now heads c.loop-next.next (c.loop-other.other-index + 1)) (sym {A = List Merged} c.in_ok-push-2.ensures.items)
    (other_next c.args.map.now own c.args.others.now c.loop-next.heads.items c.loop-next.next c.loop-other.other-index c.other-item.result y (order_of_sorted c.args.others.now c.requires.others) c.loop-other-test.true c.other-item.is
    c.brought-brought.ensures.event c.brought-brought.ensures.key above c.loop-next.invariant)

pub loop-head-init : goal.loop-head-init
loop-head-init c =
    let own = c.args.own.now in
    let next = c.loop-other.next in
    let fits : length (drop next own) ≤ length own - next = omega (arith, length-drop next own) in
    ap (λ l. c.loop-other.heads.items ++ l) (take_all (length own - next) (drop next own) fits)
    ∙ rest_last c.args.map.now own c.args.others.now c.loop-other.heads.items next c.loop-other.other-index (order_of_sorted own c.requires.own) c.loop-other-test.false c.loop-other.invariant

pub returns : goal.returns
returns c =
    let own = c.args.own.now in
    let heads = c.loop-head.heads.items in
    let rest : List Merged = take (length own - c.loop-other.next) (drop c.loop-other.next own) in
    merged_joined c.args.map.now own c.args.others.now heads
    (sym (append-nil heads) ∙ (ap (λ l. heads ++ l) (sym (drop_all c.loop-head.head-index rest c.loop-head-test.false)) ∙ c.loop-head.invariant))
