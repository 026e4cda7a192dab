-- The numbers of devices have room for as many events as a slice may have.
use Rattle.std.proofs.Common.{◌≡◌, ℕ, ◌+◌, ◌^◌, ◌<◌, ◌≤◌, Bool, true, false, cond, List, [], ◌∷◌, Option, Some, sym, subst, arith, rules}
use Rattle.std.specs.Prelude.{unwrap_or}
use Rattle.std.specs.List.{AllByRecursion}
use Rattle.disk_requests.specs.declared.act.Disk.{Disk}
use Rattle.disk_requests.specs.declared.device.Device.{Device}
use Rattle.disk_requests.specs.Requests.{same_disk}
use Rattle.disk_requests.specs.Steps.{AreSmall, HasRoom, IsSmall, blank, device_in}

all_weaker : (P Q : ℕ → Type 0) → ((k : ℕ) → P k → Q k) → (ns : List ℕ) → AllByRecursion P ns → AllByRecursion Q ns
all_weaker P Q to [] h = tt
all_weaker P Q to (n ∷ ns) h = (to n h.0, all_weaker P Q to ns h.1)

pub small_later : (n : ℕ) (d : Device) → IsSmall n d → IsSmall (n + 1) d
small_later n d s = record {
  requests = omega (arith, s.requests);
  sectors = omega (arith, s.sectors);
  total = omega (arith, s.total);
  lone_issues = omega (arith, s.lone_issues);
  lone_dones = omega (arith, s.lone_dones);
  digits = all_weaker (λ k. k ≤ n) (λ k. k ≤ n + 1) (λ k h. omega (arith, h)) d.digits s.digits;
}

pub room : (n : ℕ) (d : Device) → n < 2 ^ 63 → IsSmall n d → HasRoom d
room n d few s = record {
  requests = omega (arith, s.requests, few);
  sectors = omega (arith, s.sectors, few);
  total = omega (arith, s.total, few);
  lone_issues = omega (arith, s.lone_issues, few);
  lone_dones = omega (arith, s.lone_dones, few);
  digits = all_weaker (λ k. k ≤ n) (λ k. k + 1 < 2 ^ 64) (λ k h. omega (arith, h, few)) d.digits s.digits;
}

pub blank_small : (d : Disk) → IsSmall 0 (blank d)
blank_small d = record {
  requests = omega arith;
  sectors = omega arith;
  total = omega arith;
  lone_issues = omega arith;
  lone_dones = omega arith;
  digits = search rules;
}

-- one device takes an event more, and the others stay
pub small_put : (n : ℕ) (rows more : Disk → Option Device) (k : Disk) (put : Device) → AreSmall n rows → IsSmall (n + 1) put → ((d : Disk) → more d ≡ cond (same_disk k d) (Some put) (rows d)) → AreSmall (n + 1) more
small_put n rows more k put all small is d = subst (λ o. IsSmall (n + 1) (unwrap_or o (blank d))) (sym (is d)) (by (same_disk k d))
  where
    by : (b : Bool) → IsSmall (n + 1) (unwrap_or (cond b (Some put) (rows d)) (blank d))
    by true = small
    by false = small_later n (device_in rows d) (all d)
