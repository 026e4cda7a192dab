-- What the tables tell, from one event to the next.
use Rattle.std.proofs.Common.{◌≡◌, ◌∙◌, ℕ, ◌+◌, ◌^◌, ◌<◌, Bool, true, false, cond, ◌||◌, if◌then◌else◌, List, [], ◌∷◌, ◌++◌, length, Option, Some, is_some, refl, sym, ap, ap₂, subst, length-append}
use Rattle.std.specs.Prelude.{unwrap_or}
use Rattle.std.specs.Map.{lookup}
use Rattle.trace_types.specs.declared.event.Merged.{Merged}
use Rattle.disk_requests.specs.declared.act.Act.{Act}
use Rattle.disk_requests.specs.declared.act.Act.TheVariants.{Issue, Done, Other}
use Rattle.disk_requests.specs.declared.act.Disk.{Disk}
use Rattle.disk_requests.specs.declared.act.Target.{Target}
use Rattle.disk_requests.specs.declared.device.Device.{Device}
use Rattle.disk_requests.specs.declared.device.Waiting.{Waiting}
use Rattle.disk_requests.specs.Devices.{device_of, is_named}
use Rattle.disk_requests.specs.Notes.{Notes}
use Rattle.disk_requests.specs.Requests.{act_of, is_of, same_disk, same_target, waiting_after}
use Rattle.disk_requests.specs.Steps.{AreSmall, CanTake, IsSmall, blank, completed, device_in, rows_after, waits_after, with_issue}
use Rattle.disk_requests.proofs.Named.{disk_is, disk_itself, waiting_one_more}
use Rattle.disk_requests.proofs.OneMore.{after_done, after_issue, after_other, lone_waits, named_more}
use Rattle.disk_requests.proofs.Room.{blank_small, room}

-- before all events
pub at_first : (waits : List (Target × Waiting)) (devices : List (Disk × Device)) → waits ≡ [] → devices ≡ [] → Notes [] (λ t. lookup (same_target t) waits) (λ d. lookup (same_disk d) devices)
at_first waits devices a b = record {
  waiting = λ t. ap (lookup (same_target t)) a;
  rows = λ d. ap (λ l. unwrap_or (lookup (same_disk d) l) (blank d)) b;
  named = λ d. ap (λ l. is_some (lookup (same_disk d) l)) b;
  small = λ d. subst (λ l. IsSmall 0 (unwrap_or (lookup (same_disk d) l) (blank d))) (sym b) (blank_small d);
}

module _ (es : List Merged) (waits : Target → Option Waiting) (rows : Disk → Option Device) (is : Notes es waits rows) (m : Merged) where
  pub can_take : length es < 2 ^ 63 → CanTake (act_of m) waits rows
  can_take few = by (act_of m) refl
    where
      by : (a : Act) → act_of m ≡ a → CanTake a waits rows
      by (Issue u sectors) e = room (length es) (device_in rows u.disk) few (is.small u.disk)
      by (Done u) e = (
        room (length es) (device_in rows u.disk) few (is.small u.disk),
        λ h.
            let some : is_some (waiting_after es u) ≡ true = sym (ap is_some (is.waiting u)) ∙ h in
            subst (λ (d : Device). 0 < d.lone_issues) (sym (is.rows u.disk)) (lone_waits u.disk es m u e some (disk_itself u.disk)),
      )
      by Other e = tt

  module _ (more_waits : Target → Option Waiting) (more : Disk → Option Device)
      (w : (t : Target) → more_waits t ≡ waits_after m.key (act_of m) waits t) (r : (d : Disk) → more d ≡ rows_after m.key (act_of m) waits rows d) where
    waiting_next : (t : Target) → more_waits t ≡ waiting_after (es ++ m ∷ []) t
    waiting_next t = w t ∙ (ap (λ (f : Target → Option Waiting). waits_after m.key (act_of m) f t) (λ i u. is.waiting u i) ∙ sym (waiting_one_more es m t))

    row_next : (d : Disk) → device_in more d ≡ device_of (es ++ m ∷ []) d
    row_next d = ap (λ o. unwrap_or o (blank d)) (r d) ∙ by (act_of m) refl
      where
        by : (a : Act) → act_of m ≡ a → unwrap_or (rows_after m.key a waits rows d) (blank d) ≡ device_of (es ++ m ∷ []) d
        by (Issue u sectors) e = here (same_disk u.disk d) refl ∙ sym (after_issue d es m u sectors e)
          where
            here : (b : Bool) → same_disk u.disk d ≡ b → unwrap_or (cond b (Some (with_issue (device_in rows u.disk))) (rows d)) (blank d) ≡ (if b then with_issue (device_of es d) else device_of es d)
            here true f = ap with_issue (is.rows u.disk ∙ ap (device_of es) (disk_is u.disk d f))
            here false f = is.rows d
        by (Done u) e = here (same_disk u.disk d) refl ∙ sym (after_done d es m u e)
          where
            here : (b : Bool) → same_disk u.disk d ≡ b → unwrap_or (cond b (Some (completed m.key (waits u) (device_in rows u.disk))) (rows d)) (blank d) ≡ (if b then completed m.key (waiting_after es u) (device_of es d) else device_of es d)
            here true f = ap₂ (completed m.key) (is.waiting u) (is.rows u.disk ∙ ap (device_of es) (disk_is u.disk d f))
            here false f = is.rows d
        by Other e = is.rows d ∙ sym (after_other d es m e)

    named_next : (d : Disk) → is_some (more d) ≡ is_named (es ++ m ∷ []) d
    named_next d = ap is_some (r d) ∙ (by (act_of m) ∙ sym (named_more d es m))
      where
        here : (b : Bool) (o : Option Device) (x : Device) → is_some o ≡ is_named es d → is_some (cond b (Some x) o) ≡ (is_named es d || b)
        here true o x h = sym (or_true (is_named es d))
          where
            or_true : (c : Bool) → (c || true) ≡ true
            or_true true = refl
            or_true false = refl
        here false o x h = h ∙ sym (or_false (is_named es d))
          where
            or_false : (c : Bool) → (c || false) ≡ c
            or_false true = refl
            or_false false = refl

        by : (a : Act) → is_some (rows_after m.key a waits rows d) ≡ (is_named es d || is_of d a)
        by (Issue u sectors) = here (same_disk u.disk d) (rows d) (with_issue (device_in rows u.disk)) (is.named d)
        by (Done u) = here (same_disk u.disk d) (rows d) (completed m.key (waits u) (device_in rows u.disk)) (is.named d)
        by Other = here false (rows d) (blank d) (is.named d)

    pub taken : ((n : ℕ) → AreSmall n rows → AreSmall (n + 1) more) → Notes (es ++ m ∷ []) more_waits more
    taken small = record {
      waiting = waiting_next;
      rows = row_next;
      named = named_next;
      small = subst (λ n. AreSmall n more) (sym (length-append es (m ∷ []))) (small (length es) is.small);
    }
