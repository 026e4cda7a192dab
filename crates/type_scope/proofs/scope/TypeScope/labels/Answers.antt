use Rattle.std.proofs.Common.{◌≡◌, ◌∙◌, ◌++◌, ◌+◌, ◌∷◌, [], ◌+ℤ◌, pos, to_z, of_z, rules, drop, ap, sym}
use Rattle.std.proofs.lemmas.List.{drop_more}
use mir.Syntax.{w128}
use Rattle.type_scope.specs.Labels.{labels_from}
use Rattle.type_scope.specs.View.{with_table}
use Rattle.type_table.proofs.Keeping.{keeps_then}
use Rattle.type_scope.proofs.Named.{labels_push, labels_step}
use Rattle.type_scope.proofs.scope.TypeScope.labels.Goals as goal

pub loop-label-preserved : goal.loop-label-preserved
loop-label-preserved c =
    let stays = c.in_ok-name.ensures.stays ∙ c.loop-label.invariant.0 in
    let beside = c.in_ok-name.ensures.beside ∙ ap (with_table c.intern.new.self.table) c.loop-label.invariant.1 in
    let keeps = keeps_then _ _ _ c.loop-label.invariant.2 c.in_ok-name.ensures.keeps in
    let found : c.push.new.self ≡ c.loop-label.found ++ record { name = c.in_ok-name.name; low = c.in-Some.low; high = c.in-Some.high } ∷ [] = search rules in
    let more = labels_push c.loop-label.self.table c.intern.new.self.table c.loop-label.found (record { name = c.in_ok-name.name; low = c.in-Some.low; high = c.in-Some.high }) c.label-item.result.name c.in_ok-name.ensures.keeps c.loop-label.invariant.3 (search rules) (search rules) in
    let next : to_z w128 (of_z w128 c.behind-next.result) ≡ c.in-Some.high +ℤ pos 1 = search rules in
    let rest = drop_more c.args.labels.now c.loop-label.label-index c.label-item.result (search rules) ∙ ap (λ l. l ∷ drop (c.loop-label.label-index + 1) c.args.labels.now) (sym c.label-item.is) in
    let step = labels_step (to_z w128 c.loop-label.next-bits) _ c.label-item.result (drop (c.loop-label.label-index + 1) c.args.labels.now) c.in-Some.low c.in-Some.high (sym c.in-Some.ensures.values) in
    rw (found, next, more.1) (stays, beside, keeps, more.0, sym step ∙ ap (labels_from (to_z w128 c.loop-label.next-bits) _) (sym rest) ∙ c.loop-label.invariant.4)
