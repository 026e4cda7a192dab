use Rattle.std.proofs.Common.{ap, ◌∙◌, rules}
use Rattle.std.proofs.lemmas.List.Sorted.{IsNonDecreasingBy-from_sort_by_key, answers_always}
use Rattle.stable_sort.proofs.Unique.{from_std}
use Rattle.trace_types.specs.declared.event.Merged.{Merged}
use Rattle.host_merge.specs.Merge.{by_key}
use Rattle.host_merge.proofs.lists.MergedList.sort.Goals as goal

pub returns : goal.returns
returns c =
    let s = c.in_ok-sort_by_key.ensures in
    from_std (λ (m : Merged). m.key) c.self.inside.heads.items c.sort_by_key.new.self.items
    (IsNonDecreasingBy-from_sort_by_key (λ (m : Merged). m.key) c.sort_by_key.new.self.items s.sorted (λ a r f k. search rules))
    (s.stable (λ (m : Merged). m.key) (answers_always _ _ _ (λ f a r f' k. search rules))) ∙ ap by_key c.self.view_is
