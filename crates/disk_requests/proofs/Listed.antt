-- The devices of the table, in order.
use Rattle.std.proofs.Common.{◌≡◌, ◌∙◌, ◌⊎◌, inl, inr, ℕ, zero, suc, ◌<◌, Bool, true, false, List, [], ◌∷◌, length, map, get_or, Option, None, Some, is_some, Contains, refl, sym, ap, ap₂, subst, arith, true≢false}
use Rattle.std.specs.Prelude.{IsPermutation, unwrap_or}
use Rattle.std.specs.List.{AllByRecursion, AllPairs, IsDistinct}
use Rattle.std.specs.Cmp.{IsEquivalence, IsTotalOrder, nat_cmp_total, then_total}
use Rattle.std.specs.Map.{keys_of, values_of, lookup}
use Rattle.std.specs.Ordering.{is_lt, nat_cmp, then_cmp}
use Rattle.std.proofs.lemmas.Bool.{cases_order}
use Rattle.std.proofs.lemmas.Grind.{common_steps}
use Rattle.std.proofs.lemmas.List.Sorted.{Contains-permutation, IsPermutation-map, IsPermutation-sym}
use Rattle.std.proofs.lemmas.Map.Keys.{IsDistinct-IsPermutation}
use Rattle.std.proofs.lemmas.Map.Made.{Contains-from_values_of, Contains-values_of}
use Rattle.std.proofs.lemmas.Map.Views.{Contains-from_lookup, lookup-from_Contains}
use Rattle.trace_types.specs.declared.event.Merged.{Merged}
use Rattle.disk_requests.specs.declared.act.Disk.{Disk}
use Rattle.disk_requests.specs.declared.act.Target.{Target}
use Rattle.disk_requests.specs.declared.device.Device.{Device}
use Rattle.disk_requests.specs.declared.device.Waiting.{Waiting}
use Rattle.disk_requests.specs.Devices.{AreDevices, IsBefore, device_of, disk_of, is_named}
use Rattle.disk_requests.specs.Notes.{Notes}
use Rattle.disk_requests.specs.Order.{IsNotAfter, compare_devices}
use Rattle.disk_requests.specs.Requests.{same_disk}
use Rattle.disk_requests.specs.Steps.{blank}
use Rattle.disk_requests.proofs.Named.{disk_is, disk_itself}

pub devices_total : IsTotalOrder compare_devices
devices_total = record {
  antisymm = λ a b. both.antisymm a b;
  trans = λ a b c. both.trans a b c;
  congr = λ a b c. both.congr a b c;
}
  where
    by_host : IsTotalOrder (λ (a b : Device). nat_cmp a.host b.host)
    by_host = record {
      antisymm = λ a b. nat_cmp_total.antisymm a.host b.host;
      trans = λ a b c. nat_cmp_total.trans a.host b.host c.host;
      congr = λ a b c. nat_cmp_total.congr a.host b.host c.host;
    }

    by_dev : IsTotalOrder (λ (a b : Device). nat_cmp a.dev b.dev)
    by_dev = record {
      antisymm = λ a b. nat_cmp_total.antisymm a.dev b.dev;
      trans = λ a b c. nat_cmp_total.trans a.dev b.dev c.dev;
      congr = λ a b c. nat_cmp_total.congr a.dev b.dev c.dev;
    }

    both : IsTotalOrder (then_cmp (λ (a b : Device). nat_cmp a.host b.host) (λ (a b : Device). nat_cmp a.dev b.dev))
    both = then_total by_host by_dev

laws : IsEquivalence same_disk
laws = record { refl = disk_itself; symm = λ x y. by x y (same_disk x y) refl (same_disk y x) refl; congr = λ x y z e. ap (λ w. same_disk w z) (disk_is x y e) }
  where
    by : (x y : Disk) (b : Bool) → same_disk x y ≡ b → (c : Bool) → same_disk y x ≡ c → same_disk x y ≡ same_disk y x
    by x y true e c f = subst (λ z. same_disk x z ≡ same_disk z x) (disk_is x y e) refl
    by x y b e true f = subst (λ z. same_disk z y ≡ same_disk y z) (disk_is y x f) refl
    by x y false e false f = e ∙ sym f

-- of two devices of different disks, one comes first: the one that isn't after
pub before : (a b : Device) → IsNotAfter a b → same_disk (disk_of a) (disk_of b) ≡ false → IsBefore a b
before a b h apart = by (cases_order a.host b.host) (cases_order a.dev b.dev)
  where
    by : (a.host ≡ b.host) ⊎ ((a.host < b.host) ⊎ (b.host < a.host)) → (a.dev ≡ b.dev) ⊎ ((a.dev < b.dev) ⊎ (b.dev < a.dev)) → IsBefore a b
    by (inr (inl less)) q = inl less
    by (inr (inr more)) q = let k : is_lt (compare_devices b a) ≡ true = grind (arith, common_steps) in absurd (true≢false (sym k ∙ h))
    by (inl e) (inr (inl less)) = inr (e, less)
    by (inl e) (inr (inr more)) = let k : is_lt (compare_devices b a) ≡ true = grind (arith, common_steps) in absurd (true≢false (sym k ∙ h))
    by (inl e) (inl f) =
        let same : disk_of a ≡ disk_of b = λ i. record { host = e i; dev = f i } in
        absurd (true≢false (sym (subst (λ d. same_disk (disk_of a) d ≡ true) same (disk_itself (disk_of a))) ∙ apart))

-- the disks of devices
abbrev pub disks_of : List Device → List Disk
disks_of ds = map disk_of ds

apart_at : (d : Disk) (xs : List Device) (j : ℕ) (y : Device) → AllByRecursion (λ e. same_disk d e ≡ false) (disks_of xs) → j < length xs → same_disk d (disk_of (get_or xs j y)) ≡ false
apart_at d [] j y h less = absurd (omega (arith, less))
apart_at d (x ∷ xs) zero y h less = h.0
apart_at d (x ∷ xs) (suc j) y h less = apart_at d xs j y h.1 (omega (arith, less))

-- devices of different disks, none of which is after a later one, are in order
pub in_order : (ds : List Device) → IsDistinct same_disk (disks_of ds) → AllPairs IsNotAfter ds → AllPairs IsBefore ds
unfolding IsDistinct
in_order ds distinct rises i j x less long = before (get_or ds i x) (get_or ds j x) (rises i j x less long) (by ds distinct i j less long)
  where
    by : (ds : List Device) → IsDistinct same_disk (disks_of ds) → (i j : ℕ) → i < j → j < length ds → same_disk (disk_of (get_or ds i x)) (disk_of (get_or ds j x)) ≡ false
    by [] h i j less long = absurd (omega (arith, long))
    by (y ∷ ys) h i zero less long = absurd (omega (arith, less))
    by (y ∷ ys) h zero (suc j) less long = apart_at (disk_of y) ys j x h.0 (omega (arith, long))
    by (y ∷ ys) h (suc i) (suc j) less long = by ys h.1 i j (omega (arith, less)) (omega (arith, long))

-- ---- the entries of the table
module _ (merged : List Merged) (waits : Target → Option Waiting) (es : List (Disk × Device)) (is : Notes merged waits (λ d. lookup (same_disk d) es)) where
  row_at : (k : Disk) (v : Device) → lookup (same_disk k) es ≡ Some v → v ≡ device_of merged k
  row_at k v e = ap (λ o. unwrap_or o (blank k)) (sym e) ∙ is.rows k

  named_at : (k : Disk) (v : Device) → lookup (same_disk k) es ≡ Some v → is_named merged k ≡ true
  named_at k v e = sym (is.named k) ∙ ap is_some e

  row_named : (k : Disk) → is_named merged k ≡ true → lookup (same_disk k) es ≡ Some (device_of merged k)
  row_named k h = by (lookup (same_disk k) es) refl (is.named k ∙ h)
    where
      by : (o : Option Device) → lookup (same_disk k) es ≡ o → is_some (lookup (same_disk k) es) ≡ true → lookup (same_disk k) es ≡ Some (device_of merged k)
      by None e s = absurd (true≢false (sym s ∙ ap is_some e))
      by (Some v) e s = e ∙ ap Some (row_at k v e)

  module _ (unique : IsDistinct same_disk (keys_of es)) where
    found : (k : Disk) (v : Device) → Contains es (k, v) → lookup (same_disk k) es ≡ Some v
    found k v there = lookup-from_Contains laws k v es unique there

    key_at : (k : Disk) (v : Device) → Contains es (k, v) → disk_of v ≡ k
    key_at k v there = ap disk_of (row_at k v (found k v there))

    keys_among : (xs : List (Disk × Device)) → ((k : Disk) (v : Device) → Contains xs (k, v) → Contains es (k, v)) → disks_of (values_of xs) ≡ keys_of xs
    keys_among [] within = refl
    keys_among (x ∷ xs) within =
        ap₂ (λ k ks. k ∷ ks) (key_at x.0 x.1 (within x.0 x.1 (0, omega arith, refl))) (keys_among xs (λ k v h. within k v (suc h.0, omega (arith, h.1), h.2)))

    pub listed : (ds : List Device) → IsPermutation (values_of es) ds → AllPairs IsNotAfter ds → AreDevices merged ds
    listed ds perm rises = record {
      members = λ x. (
        (λ there.
            let h = Contains-from_values_of es x (Contains-permutation ds (values_of es) x (IsPermutation-sym (values_of es) ds perm) there) in
            let e = found h.0 x h.1 in
            let k = key_at h.0 x h.1 in
            (ap (is_named merged) k ∙ named_at h.0 x e, row_at h.0 x e ∙ ap (device_of merged) (sym k))),
        (λ h.
            let e : lookup (same_disk (disk_of x)) es ≡ Some x = row_named (disk_of x) h.0 ∙ ap Some (sym h.1) in
            Contains-permutation (values_of es) ds x perm (Contains-values_of es (disk_of x) x (Contains-from_lookup disk_is (disk_of x) x es e))),
      );
      order = in_order ds
          (IsDistinct-IsPermutation same_disk laws.symm (disks_of (values_of es)) (disks_of ds) (IsPermutation-map disk_of (values_of es) ds perm)
          (subst (IsDistinct same_disk) (sym (keys_among es (λ k v h. h))) unique))
          rises;
    }
