-- What one more event makes of the events that name a request, and of the issues in no request.
use Rattle.std.proofs.Common.{◌≡◌, ◌∙◌, ℕ, ◌+◌, Bool, true, false, cond, not, if◌then◌else◌, List, [], ◌∷◌, ◌++◌, Option, None, Some, is_some, refl, sym, ap, ap₂, subst, arith, rules, true≢false}
use Rattle.std.specs.Option.{option_and_then, option_or}
use Rattle.trace_types.specs.declared.event.Merged.{Merged}
use Rattle.disk_requests.specs.declared.act.Act.{Act}
use Rattle.disk_requests.specs.declared.act.Act.TheVariants.{Issue, Done, Other}
use Rattle.disk_requests.specs.declared.act.Disk.{Disk}
use Rattle.disk_requests.specs.declared.act.Target.{Target}
use Rattle.disk_requests.specs.declared.device.Waiting.{Waiting}
use Rattle.disk_requests.specs.Devices.{lone_issues}
use Rattle.disk_requests.specs.Requests.{act_names, act_of, first_naming, is_completed, is_done, is_lone_issue, issue_of, last_naming, same_disk, same_target, waiting_after}
use Rattle.disk_requests.specs.Steps.{waits_after}

pub target_is : (t u : Target) → same_target t u ≡ true → t ≡ u
target_is t u h = search rules

pub target_itself : (t : Target) → same_target t t ≡ true
target_itself t = search rules

pub disk_is : (d e : Disk) → same_disk d e ≡ true → d ≡ e
disk_is d e h = search rules

pub disk_itself : (d : Disk) → same_disk d d ≡ true
disk_itself d = search rules

-- ---- the last and the first event that name a request
pub last_one_more : (t : Target) (es : List Merged) (m : Merged) → last_naming t (es ++ m ∷ []) ≡ (if act_names t (act_of m) then Some m else last_naming t es)
last_one_more t [] m = refl
last_one_more t (e ∷ es) m = ap (λ o. option_or o (if act_names t (act_of e) then Some e else None)) (last_one_more t es m) ∙ by (act_names t (act_of m))
  where
    by : (b : Bool) → option_or (if b then Some m else last_naming t es) (if act_names t (act_of e) then Some e else None) ≡ (if b then Some m else last_naming t (e ∷ es))
    by true = refl
    by false = refl

first_one_more : (t : Target) (es : List Merged) (m : Merged) → first_naming t (es ++ m ∷ []) ≡ option_or (first_naming t es) (if act_names t (act_of m) then Some m else None)
first_one_more t [] m = refl
first_one_more t (e ∷ es) m = by (act_names t (act_of e)) (first_one_more t es m)
  where
    by : (b : Bool) → first_naming t (es ++ m ∷ []) ≡ option_or (first_naming t es) (if act_names t (act_of m) then Some m else None)
        → (if b then Some e else first_naming t (es ++ m ∷ [])) ≡ option_or (if b then Some e else first_naming t es) (if act_names t (act_of m) then Some m else None)
    by true rest = refl
    by false rest = rest

-- there is a first one exactly where there is a last one
first_last : (t : Target) (es : List Merged) → is_some (first_naming t es) ≡ is_some (last_naming t es)
first_last t [] = refl
first_last t (e ∷ es) = by (act_names t (act_of e)) (last_naming t es) (first_last t es)
  where
    by : (b : Bool) (o : Option Merged) → is_some (first_naming t es) ≡ is_some o → is_some (if b then Some e else first_naming t es) ≡ is_some (option_or o (if b then Some e else None))
    by true None rest = refl
    by true (Some n) rest = refl
    by false None rest = rest
    by false (Some n) rest = rest

-- ---- the issue that waits
pub waiting_one_more : (es : List Merged) (m : Merged) (t : Target) → waiting_after (es ++ m ∷ []) t ≡ waits_after m.key (act_of m) (waiting_after es) t
waiting_one_more es m t = ap (option_and_then (λ n. issue_of n.key (act_of n))) (last_one_more t es m) ∙ by (act_of m) refl
  where
    by : (a : Act) → act_of m ≡ a → option_and_then (λ n. issue_of n.key (act_of n)) (if act_names t a then Some m else last_naming t es) ≡ waits_after m.key a (waiting_after es) t
    by (Issue u sectors) is = here (same_target u t)
      where
        here : (b : Bool) → option_and_then (λ n. issue_of n.key (act_of n)) (if b then Some m else last_naming t es) ≡ cond b (Some (record { key = m.key; sectors = sectors })) (waiting_after es t)
        here true = ap (issue_of m.key) is
        here false = refl
    by (Done u) is = here (same_target u t)
      where
        here : (b : Bool) → option_and_then (λ n. issue_of n.key (act_of n)) (if b then Some m else last_naming t es) ≡ cond b None (waiting_after es t)
        here true = ap (issue_of m.key) is
        here false = refl
    by Other is = refl

-- ---- issues in no request

-- an event completes a request of the disk
abbrev pub pairs : Disk → (Target → Option Waiting) → Act → Bool
pairs d waits (Issue u sectors) = false
pairs d waits (Done u) = if same_disk u.disk d then is_some (waits u) else false
pairs d waits Other = false

-- a request is as lone as before, where the next event isn't its completion
module _ (d : Disk) (es : List Merged) (m : Merged) where
  still : (a : Act) → is_done (act_of m) ≡ false → is_lone_issue d a (es ++ m ∷ []) ≡ is_lone_issue d a es
  still (Issue t sectors) undone = ap (λ o. if same_disk t.disk d then not (is_completed o) else false) (first_one_more t es m) ∙ by (first_naming t es) (act_names t (act_of m))
    where
      by : (o : Option Merged) (b : Bool) → (if same_disk t.disk d then not (is_completed (option_or o (if b then Some m else None))) else false) ≡ (if same_disk t.disk d then not (is_completed o) else false)
      by (Some n) b = refl
      by None true = ap (λ c. if same_disk t.disk d then not c else false) undone
      by None false = refl
  still (Done t) undone = refl
  still Other undone = refl

target_apart : (t u : Target) → same_target t u ≡ false → same_target u t ≡ false
target_apart t u h = by (same_target u t) refl
  where
    by : (b : Bool) → same_target u t ≡ b → b ≡ false
    by false e = refl
    by true e = absurd (true≢false (sym (subst (λ v. same_target t v ≡ true) (sym (target_is u t e)) (target_itself t)) ∙ h))

-- where the next event completes the request u, the issue with which u waits is lone no more
module _ (d : Disk) (e : Merged) (es : List Merged) (m : Merged) (u : Target) (is : act_of m ≡ Done u) where
  -- the event e, of this kind, is lone or pairs as much as before
  abbrev Balance : Act → Type 0
  Balance a = cond (is_lone_issue d a (es ++ m ∷ [])) 1 0
      + cond (if same_disk u.disk d then is_some (option_and_then (λ n. issue_of n.key (act_of n)) (option_or (last_naming u es) (if act_names u a then Some e else None))) else false) 1 0
      ≡ cond (is_lone_issue d a es) 1 0 + cond (if same_disk u.disk d then is_some (option_and_then (λ n. issue_of n.key (act_of n)) (last_naming u es)) else false) 1 0

  none_more : (o : Option Merged) → option_or o None ≡ o
  none_more None = refl
  none_more (Some n) = refl

  same_issue : (sectors : ℕ) → act_of e ≡ Issue u sectors → Balance (Issue u sectors)
  same_issue sectors f =
      ap (λ (o : Option Merged). cond (if same_disk u.disk d then not (is_completed o) else false) 1 0 + cond (if same_disk u.disk d then is_some (option_and_then (λ n. issue_of n.key (act_of n)) (option_or (last_naming u es) (if same_target u u then Some e else None))) else false) 1 0) next
      ∙ (ap (λ b. cond (if same_disk u.disk d then not (is_completed (option_or (first_naming u es) (Some m))) else false) 1 0 + cond (if same_disk u.disk d then is_some (option_and_then (λ n. issue_of n.key (act_of n)) (option_or (last_naming u es) (if b then Some e else None))) else false) 1 0) (target_itself u)
      ∙ by (same_disk u.disk d) (first_naming u es) (last_naming u es) (first_last u es))
    where
      next : first_naming u (es ++ m ∷ []) ≡ option_or (first_naming u es) (Some m)
      next = first_one_more u es m ∙ ap (λ b. option_or (first_naming u es) (if b then Some m else None)) (ap (act_names u) is ∙ target_itself u)

      by : (b : Bool) (q o : Option Merged) → is_some q ≡ is_some o
          → cond (if b then not (is_completed (option_or q (Some m))) else false) 1 0 + cond (if b then is_some (option_and_then (λ n. issue_of n.key (act_of n)) (option_or o (Some e))) else false) 1 0
          ≡ cond (if b then not (is_completed q) else false) 1 0 + cond (if b then is_some (option_and_then (λ n. issue_of n.key (act_of n)) o) else false) 1 0
      by b (Some q) (Some o) both = refl
      by b (Some q) None both = absurd (true≢false both)
      by b None (Some o) both = absurd (true≢false (sym both))
      by true None None both = ap₂ (λ x y. cond (not x) 1 0 + cond y 1 0) (ap is_done is) (ap (λ a. is_some (issue_of e.key a)) f)
      by false None None both = refl

  other_issue : (t : Target) (sectors : ℕ) → same_target t u ≡ false → Balance (Issue t sectors)
  other_issue t sectors apart =
      ap₂ (λ (o q : Option Merged). cond (if same_disk t.disk d then not (is_completed o) else false) 1 0 + cond (if same_disk u.disk d then is_some (option_and_then (λ n. issue_of n.key (act_of n)) q) else false) 1 0)
      (first_one_more t es m ∙ (ap (λ b. option_or (first_naming t es) (if b then Some m else None)) (ap (act_names t) is ∙ target_apart t u apart) ∙ none_more (first_naming t es)))
      (ap (λ b. option_or (last_naming u es) (if b then Some e else None)) apart ∙ none_more (last_naming u es))

  balance : (a : Act) → act_of e ≡ a → Balance a
  balance (Issue t sectors) f = by (same_target t u) refl
    where
      by : (b : Bool) → same_target t u ≡ b → Balance (Issue t sectors)
      by true h = subst (λ v. Balance (Issue v sectors)) (sym (target_is t u h)) (same_issue sectors (f ∙ ap (λ v. Issue v sectors) (target_is t u h)))
      by false h = other_issue t sectors h
  balance (Done t) f = by (same_target t u) (last_naming u es)
    where
      by : (b : Bool) (o : Option Merged)
          → 0 + cond (if same_disk u.disk d then is_some (option_and_then (λ n. issue_of n.key (act_of n)) (option_or o (if b then Some e else None))) else false) 1 0
          ≡ 0 + cond (if same_disk u.disk d then is_some (option_and_then (λ n. issue_of n.key (act_of n)) o) else false) 1 0
      by b (Some n) = refl
      by true None = ap (λ a. 0 + cond (if same_disk u.disk d then is_some (issue_of e.key a) else false) 1 0) f
      by false None = refl
  balance Other f = ap (λ o. 0 + cond (if same_disk u.disk d then is_some (option_and_then (λ n. issue_of n.key (act_of n)) o) else false) 1 0) (none_more (last_naming u es))

-- one more event: an issue is lone so far, and a completion takes a lone issue, if its request waits
pub lone_one_more : (d : Disk) (es : List Merged) (m : Merged) → lone_issues d (es ++ m ∷ []) + cond (pairs d (waiting_after es) (act_of m)) 1 0 ≡ lone_issues d es + cond (is_lone_issue d (act_of m) []) 1 0
lone_one_more d [] m = by (act_of m)
  where
    by : (a : Act) → (cond (is_lone_issue d a []) 1 0 + 0) + cond (pairs d (waiting_after []) a) 1 0 ≡ 0 + cond (is_lone_issue d a []) 1 0
    by (Issue t sectors) = omega arith
    by (Done t) = ends (same_disk t.disk d)
      where
        ends : (b : Bool) → (0 + 0) + cond (if b then false else false) 1 0 ≡ 0 + 0
        ends true = refl
        ends false = refl
    by Other = refl
lone_one_more d (e ∷ es) m = by (act_of m) refl (lone_one_more d es m)
  where
    undone : (a : Act) → act_of m ≡ a → is_done a ≡ false → is_done (act_of m) ≡ false
    undone a f h = ap is_done f ∙ h

    by : (a : Act) → act_of m ≡ a → lone_issues d (es ++ m ∷ []) + cond (pairs d (waiting_after es) a) 1 0 ≡ lone_issues d es + cond (is_lone_issue d a []) 1 0
        → (cond (is_lone_issue d (act_of e) (es ++ m ∷ [])) 1 0 + lone_issues d (es ++ m ∷ [])) + cond (pairs d (waiting_after (e ∷ es)) a) 1 0
        ≡ (cond (is_lone_issue d (act_of e) es) 1 0 + lone_issues d es) + cond (is_lone_issue d a []) 1 0
    by (Issue u sectors) f rest = let s = ap {B = ℕ} (λ b. cond b 1 0) (still d es m (act_of e) (undone (Issue u sectors) f refl)) in omega (arith, s, rest)
    by Other f rest = let s = ap {B = ℕ} (λ b. cond b 1 0) (still d es m (act_of e) (undone Other f refl)) in omega (arith, s, rest)
    by (Done u) f rest = let s = balance d e es m u f (act_of e) refl in omega (arith, s, rest)
