use Rattle.std.proofs.Common.{◌≡◌, [], ◌∷◌, Some, inl, refl, rules, subst, sym}
use Rattle.atomic_table.specs.Table.{Allows, opening, step}
use mathlib.Core.Option.{none}
use Rattle.history_lock.specs.Turn.{Keeps, Begins, Mine, unborn}
use Rattle.history_lock.proofs.Moves.{begins}
use Rattle.history_lock.proofs.steps.SharedHistory.begin.Goals as goal

pub new-requires-2 : goal.new-requires-2
new-requires-2 g c =
    let h = c.in_ok-new.field-0 in let items : c.push_reserved.new.self.items ≡ Some h ∷ [] = search rules in
    subst (λ l. Keeps (opening (0 ∷ 0 ∷ []) l unborn)) (sym items) (inl (h, refl, refl, c.in_ok-new.ensures.stands, refl))

pub load-requires : goal.load-requires
load-requires g c =
    let plan = g.J.Planned.plan in let seat = c.in-Ok.seat in let slots = c.in-Ok.table.shared.table_id.slots in
    (search rules, search rules, subst (λ (m : Mine). Allows Keeps slots seat.id m 0 (λ n. n) (Begins plan (step slots 0 0 0 none) m)) (sym (search rules)) (begins plan seat.id slots c.requires.short))
