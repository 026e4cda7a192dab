use Rattle.std.proofs.Common.{rules, le_of_lt}
use Rattle.std.specs.Ordering.{is_lt}
use Rattle.std.proofs.lemmas.List.Sorted.{ranks_by, answers_always, sorted_far}
use Rattle.disk_requests.specs.declared.device.Device.{Device}
use Rattle.disk_requests.specs.Order.{compare_devices}
use Rattle.disk_requests.proofs.Listed.{devices_total}
use Rattle.disk_requests.proofs.table.sort_devices.Goals as goal

pub returns-clause-order : goal.returns-clause-order
returns-clause-order c i j d below long =
    sorted_far (λ x y. is_lt (compare_devices x y)) (ranks_by devices_total (λ (a : Device). a)) _
    (c.sort_unstable_by.ensures.sorted (λ x y. is_lt (compare_devices x y)) (ranks_by devices_total (λ (a : Device). a)) (answers_always _ _ _ (λ f a r f' k. search rules))) i j d (le_of_lt below) long
