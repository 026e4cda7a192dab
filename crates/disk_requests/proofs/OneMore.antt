-- What one more event makes of what is told of a disk.
use Rattle.std.proofs.Common.{◌≡◌, ◌∙◌, ℕ, ◌+◌, ◌-◌, ◌<◌, Bool, true, false, cond, ◌||◌, if◌then◌else◌, List, [], ◌∷◌, ◌++◌, length, map, filter, Option, None, Some, is_some, refl, sym, ap, ap₂, subst, arith, append-nil, append_assoc, ne_eqb, length-append}
use Rattle.std.specs.Prelude.{◌==◌, count_by, fold, max, min, is_none, option_map, option_to_list}
use Rattle.std.specs.List.{range_with_len}
use Rattle.std.proofs.lemmas.List.{length-map, map-append}
use Rattle.std.proofs.lemmas.List.Elements.{filter-append}
use Rattle.std.proofs.lemmas.List.Folds.{list_any-append}
use Rattle.std.proofs.lemmas.List.Sums.{fold-append, sum_by_push}
use Rattle.trace_types.specs.declared.event.Merged.{Merged}
use Rattle.disk_requests.specs.declared.act.Act.{Act}
use Rattle.disk_requests.specs.declared.act.Act.TheVariants.{Issue, Done, Other}
use Rattle.disk_requests.specs.declared.act.Disk.{Disk}
use Rattle.disk_requests.specs.declared.act.Target.{Target}
use Rattle.disk_requests.specs.declared.device.Waiting.{Waiting}
use Rattle.disk_requests.specs.Devices.{device_of, greatest_of, has_digits, is_named, least_of, lone_dones_from, lone_issues, told}
use Rattle.disk_requests.specs.Requests.{Served, act_of, all_served, is_lone_done, is_lone_issue, is_of, same_disk, served, served_by, served_from, waiting_after}
use Rattle.disk_requests.specs.Steps.{completed, with_issue, with_served}
use Rattle.disk_requests.proofs.Digits.{counted_all}
use Rattle.disk_requests.proofs.Named.{lone_one_more, pairs}

-- ---- sums over places
served_more : (before es : List Merged) (m : Merged) → served_from before (es ++ m ∷ []) ≡ served_from before es ++ option_to_list (served_by (before ++ es) m.key (act_of m))
served_more before [] m = append-nil (option_to_list (served_by before m.key (act_of m))) ∙ ap (λ b. option_to_list (served_by b m.key (act_of m))) (sym (append-nil before))
served_more before (e ∷ es) m =
    let head = option_to_list (served_by before e.key (act_of e)) in
    ap (λ l. head ++ l) (served_more (before ++ e ∷ []) es m)
    ∙ (ap (λ b. head ++ (served_from (before ++ e ∷ []) es ++ option_to_list (served_by b m.key (act_of m)))) (append_assoc before (e ∷ []) es)
    ∙ sym (append_assoc head (served_from (before ++ e ∷ []) es) (option_to_list (served_by (before ++ e ∷ es) m.key (act_of m)))))

dones_more : (d : Disk) (before es : List Merged) (m : Merged) → lone_dones_from d before (es ++ m ∷ []) ≡ lone_dones_from d before es + cond (is_lone_done d (before ++ es) (act_of m)) 1 0
dones_more d before [] m =
    let s = ap {B = ℕ} (λ b. cond (is_lone_done d b (act_of m)) 1 0) (append-nil before) in omega (arith, s)
dones_more d before (e ∷ es) m =
    let s = ap {B = ℕ} (λ b. cond (is_lone_done d b (act_of m)) 1 0) (append_assoc before (e ∷ []) es) in
    let rest = dones_more d (before ++ e ∷ []) es m in
    omega (arith, s, rest)

-- ---- one more request
least_more : (xs : List ℕ) (n : ℕ) → least_of (xs ++ n ∷ []) ≡ (if length xs == 0 then n else min (least_of xs) n)
least_more [] n = refl
least_more (x ∷ xs) n = fold-append min x xs (n ∷ []) ∙ sym (ap (λ b. if b then n else min (fold min x xs) n) (ne_eqb (length (x ∷ xs)) 0 (λ e. omega (arith, e))))

told_more : (d : Disk) (ss : List Served) (s : Served) (i n : ℕ) → told d (ss ++ s ∷ []) (i - 1) n ≡ with_served (told d ss i n) s.sectors s.latency
told_more d ss s i n =
    let ls = map (λ (r : Served). r.latency) ss in
    let more : map (λ (r : Served). r.latency) (ss ++ s ∷ []) ≡ ls ++ s.latency ∷ [] = map-append (λ (r : Served). r.latency) ss (s ∷ []) in
    let requests : length (ss ++ s ∷ []) ≡ length ss + 1 = length-append ss (s ∷ []) in
    let sectors = sum_by_push (λ (r : Served). r.sectors) ss s in
    let total = sum_by_push (λ (r : Served). r.latency) ss s in
    let least : least_of (map (λ (r : Served). r.latency) (ss ++ s ∷ [])) ≡ (if length ss == 0 then s.latency else min (least_of ls) s.latency) = ap least_of more ∙ (least_more ls s.latency ∙ ap (λ (k : ℕ). if k == 0 then s.latency else min (least_of ls) s.latency) (length-map ss (λ (r : Served). r.latency))) in
    let greatest : greatest_of (map (λ (r : Served). r.latency) (ss ++ s ∷ [])) ≡ max (greatest_of ls) s.latency = ap greatest_of more ∙ fold-append max 0 ls (s.latency ∷ []) in
    λ j. record {
      host = d.host;
      dev = d.dev;
      requests = requests j;
      sectors = sectors j;
      total = total j;
      least = least j;
      greatest = greatest j;
      lone_issues = i - 1;
      lone_dones = n;
      digits = (ap (λ xs. map (λ k. count_by (has_digits k) xs) (range_with_len 0 63)) more ∙ sym (counted_all 0 63 ls s.latency)) j;
    }

-- ---- what is told
module _ (d : Disk) (es : List Merged) (m : Merged) where
  abbrev mine : List Served
  mine = filter (λ s. same_disk s.disk d) (all_served es)

  mine_more : (a : Act) → act_of m ≡ a → filter (λ s. same_disk s.disk d) (all_served (es ++ m ∷ [])) ≡ mine ++ filter (λ s. same_disk s.disk d) (option_to_list (served_by es m.key a))
  mine_more a is =
      ap (filter (λ s. same_disk s.disk d)) (served_more [] es m ∙ ap (λ x. all_served es ++ option_to_list (served_by es m.key x)) is)
      ∙ filter-append (λ s. same_disk s.disk d) (all_served es) (option_to_list (served_by es m.key a))

  issues_more : (a : Act) → act_of m ≡ a → lone_issues d (es ++ m ∷ []) + cond (pairs d (waiting_after es) a) 1 0 ≡ lone_issues d es + cond (is_lone_issue d a []) 1 0
  issues_more a is = subst (λ x. lone_issues d (es ++ m ∷ []) + cond (pairs d (waiting_after es) x) 1 0 ≡ lone_issues d es + cond (is_lone_issue d x []) 1 0) is (lone_one_more d es m)

  ends_more : (a : Act) → act_of m ≡ a → lone_dones_from d [] (es ++ m ∷ []) ≡ lone_dones_from d [] es + cond (is_lone_done d es a) 1 0
  ends_more a is = subst (λ x. lone_dones_from d [] (es ++ m ∷ []) ≡ lone_dones_from d [] es + cond (is_lone_done d es x) 1 0) is (dones_more d [] es m)

  -- its requests, lone issues and lone completions
  told_of : (ss : List Served) (i n : ℕ) → filter (λ s. same_disk s.disk d) (all_served (es ++ m ∷ [])) ≡ ss → lone_issues d (es ++ m ∷ []) ≡ i → lone_dones_from d [] (es ++ m ∷ []) ≡ n
      → device_of (es ++ m ∷ []) d ≡ told d ss i n
  told_of ss i n a b c j = told d (a j) (b j) (c j)

  -- an event that is about no request of the disk
  other : (a : Act) → act_of m ≡ a → filter (λ s. same_disk s.disk d) (option_to_list (served_by es m.key a)) ≡ [] → pairs d (waiting_after es) a ≡ false → is_lone_issue d a [] ≡ false → is_lone_done d es a ≡ false → device_of (es ++ m ∷ []) d ≡ device_of es d
  other a is none unpaired unissued undone =
      let p = ap {B = ℕ} (λ b. cond b 1 0) unpaired in
      let q = ap {B = ℕ} (λ b. cond b 1 0) unissued in
      let r = ap {B = ℕ} (λ b. cond b 1 0) undone in
      let i = issues_more a is in
      let n = ends_more a is in
      told_of mine (lone_issues d es) (lone_dones_from d [] es) (mine_more a is ∙ (ap (λ l. mine ++ l) none ∙ append-nil mine)) (omega (arith, i, p, q)) (omega (arith, n, r))

  pub after_other : act_of m ≡ Other → device_of (es ++ m ∷ []) d ≡ device_of es d
  after_other is = other Other is refl refl refl refl

  pub after_issue : (u : Target) (sectors : ℕ) → act_of m ≡ Issue u sectors → device_of (es ++ m ∷ []) d ≡ (if same_disk u.disk d then with_issue (device_of es d) else device_of es d)
  after_issue u sectors is = by (same_disk u.disk d) refl
    where
      by : (b : Bool) → same_disk u.disk d ≡ b → device_of (es ++ m ∷ []) d ≡ (if b then with_issue (device_of es d) else device_of es d)
      by false e = other (Issue u sectors) is refl refl (ap (λ b. if b then true else false) e) refl
      by true e =
          let q = ap {B = ℕ} (λ b. cond (if b then true else false) 1 0) e in
          let i = issues_more (Issue u sectors) is in
          told_of mine (lone_issues d es + 1) (lone_dones_from d [] es) (mine_more (Issue u sectors) is ∙ append-nil mine) (omega (arith, i, q)) (let n = ends_more (Issue u sectors) is in omega (arith, n))

  pub after_done : (u : Target) → act_of m ≡ Done u → device_of (es ++ m ∷ []) d ≡ (if same_disk u.disk d then completed m.key (waiting_after es u) (device_of es d) else device_of es d)
  after_done u is = by (same_disk u.disk d) (waiting_after es u) refl refl
    where
      served_is : (o : Option Waiting) (b : Bool) → waiting_after es u ≡ o → same_disk u.disk d ≡ b → filter (λ s. same_disk s.disk d) (option_to_list (served_by es m.key (Done u))) ≡ (if b then option_to_list (option_map (served u m.key) o) else [])
      served_is None true w e = ap (λ o. filter (λ s. same_disk s.disk d) (option_to_list (option_map (served u m.key) o))) w
      served_is None false w e = ap (λ o. filter (λ s. same_disk s.disk d) (option_to_list (option_map (served u m.key) o))) w
      served_is (Some x) true w e = ap (λ o. filter (λ s. same_disk s.disk d) (option_to_list (option_map (served u m.key) o))) w ∙ ap (λ b. cond b (served u m.key x ∷ []) []) e
      served_is (Some x) false w e = ap (λ o. filter (λ s. same_disk s.disk d) (option_to_list (option_map (served u m.key) o))) w ∙ ap (λ b. cond b (served u m.key x ∷ []) []) e

      by : (b : Bool) (o : Option Waiting) → same_disk u.disk d ≡ b → waiting_after es u ≡ o → device_of (es ++ m ∷ []) d ≡ (if b then completed m.key o (device_of es d) else device_of es d)
      by false o e w =
          other (Done u) is (served_is o false w e) (ap (λ b. if b then is_some (waiting_after es u) else false) e) refl (ap (λ b. if b then is_none (waiting_after es u) else false) e)
      by true (Some x) e w =
          let q = ap₂ {C = ℕ} (λ b (v : Option Waiting). cond (if b then is_some v else false) 1 0) e w in
          let r = ap₂ {C = ℕ} (λ b (v : Option Waiting). cond (if b then is_none v else false) 1 0) e w in
          let i = issues_more (Done u) is in
          let n = ends_more (Done u) is in
          told_of (mine ++ served u m.key x ∷ []) (lone_issues d es - 1) (lone_dones_from d [] es) (mine_more (Done u) is ∙ ap (λ l. mine ++ l) (served_is (Some x) true w e)) (omega (arith, i, q)) (omega (arith, n, r))
          ∙ told_more d mine (served u m.key x) (lone_issues d es) (lone_dones_from d [] es)
      by true None e w =
          let q = ap₂ {C = ℕ} (λ b (v : Option Waiting). cond (if b then is_some v else false) 1 0) e w in
          let r = ap₂ {C = ℕ} (λ b (v : Option Waiting). cond (if b then is_none v else false) 1 0) e w in
          let i = issues_more (Done u) is in
          let n = ends_more (Done u) is in
          told_of mine (lone_issues d es) (lone_dones_from d [] es + 1) (mine_more (Done u) is ∙ (ap (λ l. mine ++ l) (served_is None true w e) ∙ append-nil mine)) (omega (arith, i, q)) (omega (arith, n, r))

  -- where the request that is completed waits, there is a lone issue
  pub lone_waits : (u : Target) → act_of m ≡ Done u → is_some (waiting_after es u) ≡ true → same_disk u.disk d ≡ true → 0 < lone_issues d es
  lone_waits u is some e =
      let q = ap₂ {C = ℕ} (λ b v. cond (if b then v else false) 1 0) e some in
      let i = issues_more (Done u) is in
      omega (arith, i, q)

  pub named_more : is_named (es ++ m ∷ []) d ≡ (is_named es d || is_of d (act_of m))
  named_more = list_any-append (λ n. is_of d (act_of n)) es (m ∷ []) ∙ ap (λ b. is_named es d || b) (or_false (is_of d (act_of m)))
    where
      or_false : (b : Bool) → (b || false) ≡ b
      or_false true = refl
      or_false false = refl
