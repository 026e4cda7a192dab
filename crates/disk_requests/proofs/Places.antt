-- Where the last event before a place stands that names a request, and the first one after it.
use Rattle.std.proofs.Common.{◌≡◌, ◌∙◌, ℕ, zero, suc, ◌+◌, ◌-◌, ◌<◌, Bool, true, false, if◌then◌else◌, List, [], ◌∷◌, length-take, take, drop, slice_get, Option, None, Some, refl, sym, ap, ap₂, arith, true≢false}
use Rattle.std.specs.Option.{option_and_then, option_or}
use Rattle.std.proofs.lemmas.List.{get_or-drop, get_or-take, length-drop}
use Rattle.std.proofs.lemmas.Option.{get_or_from_slice_get, slice_get-get_or, slice_get_within}
use Rattle.trace_types.specs.declared.event.Merged.{Merged}
use Rattle.disk_requests.specs.declared.act.Act.{Act}
use Rattle.disk_requests.specs.declared.act.Act.TheVariants.{Issue, Done, Other}
use Rattle.disk_requests.specs.declared.act.Target.{Target}
use Rattle.disk_requests.specs.declared.device.Waiting.{Waiting}
use Rattle.disk_requests.specs.Places.{CompletionsPair, IsPair, IssuesPair}
use Rattle.disk_requests.specs.Requests.{act_names, act_of, first_naming, is_completed, is_done, issue_of, last_naming}
use Rattle.disk_requests.proofs.Named.{target_is, target_itself}

-- ---- fronts and rests of a list
module _ (es : List Merged) (n : ℕ) where
  in_front : (k : ℕ) (m : Merged) → slice_get (take n es) k ≡ Some m → (k < n) × (slice_get es k ≡ Some m)
  in_front k m h =
      let l = slice_get_within (take n es) k m h in
      let w = length-take n es in
      let below : k < n = omega (arith, l, w) in
      (below, slice_get-get_or es k m (omega (arith, l, w)) ∙ ap Some (sym (get_or-take n es k m below) ∙ get_or_from_slice_get (take n es) k m m h))

  to_front : (k : ℕ) (m : Merged) → k < n → slice_get es k ≡ Some m → slice_get (take n es) k ≡ Some m
  to_front k m below h =
      let l = slice_get_within es k m h in
      let w = length-take n es in
      slice_get-get_or (take n es) k m (omega (arith, below, l, w)) ∙ ap Some (get_or-take n es k m below ∙ get_or_from_slice_get es k m m h)

  in_rest : (k : ℕ) (m : Merged) → slice_get (drop n es) k ≡ Some m → slice_get es (n + k) ≡ Some m
  in_rest k m h =
      let l = slice_get_within (drop n es) k m h in
      let w = length-drop n es in
      slice_get-get_or es (n + k) m (omega (arith, l, w)) ∙ ap Some (sym (get_or-drop n es k m) ∙ get_or_from_slice_get (drop n es) k m m h)

  to_rest : (k : ℕ) (m : Merged) → slice_get es (n + k) ≡ Some m → slice_get (drop n es) k ≡ Some m
  to_rest k m h =
      let l = slice_get_within es (n + k) m h in
      let w = length-drop n es in
      slice_get-get_or (drop n es) k m (omega (arith, l, w)) ∙ ap Some (get_or-drop n es k m ∙ get_or_from_slice_get es (n + k) m m h)

-- ---- the last one
module _ (t : Target) where
  abbrev Names : Merged → Bool
  Names m = act_names t (act_of m)

  -- no event of the list at a place from k on names it
  abbrev NoneFrom : List Merged → ℕ → Type 0
  NoneFrom es from = (k : ℕ) (m : Merged) → from < k + 1 → slice_get es k ≡ Some m → Names m ≡ false

  absent : (es : List Merged) → last_naming t es ≡ None → NoneFrom es 0
  absent [] h k m low at = absurd (cc at)
  absent (e ∷ es) h k m low at = by (last_naming t es) (Names e) refl refl (λ f. absent es f) h k at
    where
      by : (o : Option Merged) (b : Bool) → last_naming t es ≡ o → Names e ≡ b → (last_naming t es ≡ None → NoneFrom es 0) → option_or o (if b then Some e else None) ≡ None → (k : ℕ) → slice_get (e ∷ es) k ≡ Some m → Names m ≡ false
      by (Some n) b f g rest h k at = absurd (cc h)
      by None true f g rest h k at = absurd (cc h)
      by None false f g rest h zero at = let same : e ≡ m = cc at in ap Names (sym same) ∙ g
      by None false f g rest h (suc k) at = rest f k m (omega arith) at

  last_none : (es : List Merged) → NoneFrom es 0 → last_naming t es ≡ None
  last_none [] h = refl
  last_none (e ∷ es) h = ap₂ (λ o b. option_or o (if b then Some e else None)) (last_none es (λ k m low at. h (suc k) m (omega arith) at)) (h 0 e (omega arith) refl)

  last_at : (es : List Merged) (m : Merged) → last_naming t es ≡ Some m → (p : ℕ) × (slice_get es p ≡ Some m) × (Names m ≡ true) × NoneFrom es (p + 1)
  last_at [] m h = absurd (cc h)
  last_at (e ∷ es) m h = by (last_naming t es) (Names e) refl refl (λ f. last_at es m f) h
    where
      by : (o : Option Merged) (b : Bool) → last_naming t es ≡ o → Names e ≡ b → (last_naming t es ≡ Some m → (p : ℕ) × (slice_get es p ≡ Some m) × (Names m ≡ true) × NoneFrom es (p + 1)) → option_or o (if b then Some e else None) ≡ Some m → (p : ℕ) × (slice_get (e ∷ es) p ≡ Some m) × (Names m ≡ true) × NoneFrom (e ∷ es) (p + 1)
      by (Some n) b f g rest h = let r = rest (f ∙ h) in (suc r.0, r.1, r.2, later r.0 r.3)
        where
          later : (p : ℕ) → NoneFrom es (p + 1) → NoneFrom (e ∷ es) (suc p + 1)
          later p none zero x low at = absurd (omega (arith, low))
          later p none (suc k) x low at = none k x (omega (arith, low)) at
      by None true f g rest h = let same : e ≡ m = cc h in (0, ap Some same, ap Names (sym same) ∙ g, later)
        where
          later : NoneFrom (e ∷ es) (0 + 1)
          later zero x low at = absurd (omega (arith, low))
          later (suc k) x low at = absent es f k x (omega arith) at
      by None false f g rest h = absurd (cc h)

  last_from : (es : List Merged) (p : ℕ) (m : Merged) → slice_get es p ≡ Some m → Names m ≡ true → NoneFrom es (p + 1) → last_naming t es ≡ Some m
  last_from [] p m at is none = absurd (cc at)
  last_from (e ∷ es) zero m at is none =
      let same : e ≡ m = cc at in
      ap₂ (λ o b. option_or o (if b then Some e else None)) (last_none es (λ k x low there. none (suc k) x (omega arith) there)) (ap Names same ∙ is) ∙ ap Some same
  last_from (e ∷ es) (suc p) m at is none = ap (λ o. option_or o (if Names e then Some e else None)) (last_from es p m at is (λ k x low there. none (suc k) x (omega (arith, low)) there))

  -- ---- the first one
  first_at : (es : List Merged) (m : Merged) → first_naming t es ≡ Some m → (p : ℕ) × (slice_get es p ≡ Some m) × (Names m ≡ true) × ((k : ℕ) (x : Merged) → k < p → slice_get es k ≡ Some x → Names x ≡ false)
  first_at [] m h = absurd (cc h)
  first_at (e ∷ es) m h = by (Names e) refl (λ f. first_at es m f) h
    where
      by : (b : Bool) → Names e ≡ b → (first_naming t es ≡ Some m → (p : ℕ) × (slice_get es p ≡ Some m) × (Names m ≡ true) × ((k : ℕ) (x : Merged) → k < p → slice_get es k ≡ Some x → Names x ≡ false)) → (if b then Some e else first_naming t es) ≡ Some m → (p : ℕ) × (slice_get (e ∷ es) p ≡ Some m) × (Names m ≡ true) × ((k : ℕ) (x : Merged) → k < p → slice_get (e ∷ es) k ≡ Some x → Names x ≡ false)
      by true g rest h = let same : e ≡ m = cc h in (0, h, ap Names (sym same) ∙ g, λ k x low at. absurd (omega (arith, low)))
      by false g rest h = let r = rest h in (suc r.0, r.1, r.2, earlier r.0 r.3)
        where
          earlier : (p : ℕ) → ((k : ℕ) (x : Merged) → k < p → slice_get es k ≡ Some x → Names x ≡ false) → (k : ℕ) (x : Merged) → k < suc p → slice_get (e ∷ es) k ≡ Some x → Names x ≡ false
          earlier p none zero x low at = let same : e ≡ x = cc at in ap Names (sym same) ∙ g
          earlier p none (suc k) x low at = none k x (omega (arith, low)) at

  first_from : (es : List Merged) (p : ℕ) (m : Merged) → slice_get es p ≡ Some m → Names m ≡ true → ((k : ℕ) (x : Merged) → k < p → slice_get es k ≡ Some x → Names x ≡ false) → first_naming t es ≡ Some m
  first_from [] p m at is none = absurd (cc at)
  first_from (e ∷ es) zero m at is none = let same : e ≡ m = cc at in ap (λ b. if b then Some e else first_naming t es) (ap Names same ∙ is) ∙ at
  first_from (e ∷ es) (suc p) m at is none = ap (λ b. if b then Some e else first_naming t es) (none 0 e (omega arith) refl) ∙ first_from es p m at is (λ k x low there. none (suc k) x (omega (arith, low)) there)

  -- ---- what names a request
  issue_told : (m : Merged) (w : Waiting) → Names m ≡ true → issue_of m.key (act_of m) ≡ Some w → (act_of m ≡ Issue t w.sectors) × (w ≡ record { key = m.key; sectors = w.sectors })
  issue_told m w names h = by (act_of m) refl names h
    where
      by : (a : Act) → act_of m ≡ a → act_names t a ≡ true → issue_of m.key a ≡ Some w → (act_of m ≡ Issue t w.sectors) × (w ≡ record { key = m.key; sectors = w.sectors })
      by (Issue u sectors) f g h =
          let whole : record { key = m.key; sectors = sectors } ≡ w = cc h in
          (f ∙ ap₂ Issue (target_is u t g) (ap (λ (x : Waiting). x.sectors) whole), λ i. record { key = sym (ap (λ (x : Waiting). x.key) whole) i; sectors = w.sectors })
      by (Done u) f g h = absurd (cc h)
      by Other f g h = absurd (cc h)

  done_told : (m : Merged) → Names m ≡ true → is_done (act_of m) ≡ true → act_of m ≡ Done t
  done_told m names h = by (act_of m) refl names h
    where
      by : (a : Act) → act_of m ≡ a → act_names t a ≡ true → is_done a ≡ true → act_of m ≡ Done t
      by (Issue u sectors) f g h = absurd (true≢false (sym h))
      by (Done u) f g h = f ∙ ap Done (target_is u t g)
      by Other f g h = absurd (true≢false (sym h))

pub completions_pair : CompletionsPair
completions_pair merged e done t at_done completes w = (to, back)
  where
    to : option_and_then (λ n. issue_of n.key (act_of n)) (last_naming t (take e merged)) ≡ Some w → (p : ℕ) × (pair : IsPair merged t p e) × (w ≡ record { key = pair.issue.key; sectors = pair.sectors })
    to h = by (last_naming t (take e merged)) refl h
      where
        by : (o : Option Merged) → last_naming t (take e merged) ≡ o → option_and_then (λ n. issue_of n.key (act_of n)) o ≡ Some w → (p : ℕ) × (pair : IsPair merged t p e) × (w ≡ record { key = pair.issue.key; sectors = pair.sectors })
        by None f h = absurd (cc h)
        by (Some m) f h =
            let r = last_at t (take e merged) m f in
            let there = in_front merged e r.0 m r.1 in
            let told = issue_told t m w r.2 h in (
              r.0,
              record {
                issue = m;
                sectors = w.sectors;
                done = done;
                at_issue = there.1;
                at_done = at_done;
                issues = told.0;
                completes = completes;
                before = there.0;
                between = λ k x low high at. r.3 k x (omega (arith, low)) (to_front merged e k x high at);
              },
              told.1,
            )

    back : ((p : ℕ) × (pair : IsPair merged t p e) × (w ≡ record { key = pair.issue.key; sectors = pair.sectors })) → option_and_then (λ n. issue_of n.key (act_of n)) (last_naming t (take e merged)) ≡ Some w
    back h =
        let pair = h.1 in
        let m = pair.issue in
        let last = last_from t (take e merged) h.0 m (to_front merged e h.0 m pair.before pair.at_issue) (ap (act_names t) pair.issues ∙ target_itself t)
        (λ k x low at. let there = in_front merged e k x at in pair.between k x (omega (arith, low)) there.0 there.1) in
        ap (option_and_then (λ n. issue_of n.key (act_of n))) last ∙ (ap (issue_of m.key) pair.issues ∙ ap Some (sym h.2))

pub issues_pair : IssuesPair
issues_pair merged p issue t sectors at_issue issues = (to, back)
  where
    to : is_completed (first_naming t (drop (p + 1) merged)) ≡ true → (e : ℕ) × IsPair merged t p e
    to h = by (first_naming t (drop (p + 1) merged)) refl h
      where
        by : (o : Option Merged) → first_naming t (drop (p + 1) merged) ≡ o → is_completed o ≡ true → (e : ℕ) × IsPair merged t p e
        by None f h = absurd (true≢false (sym h))
        by (Some m) f h =
            let r = first_at t (drop (p + 1) merged) m f in (
              (p + 1) + r.0,
              record {
                issue = issue;
                sectors = sectors;
                done = m;
                at_issue = at_issue;
                at_done = in_rest merged (p + 1) r.0 m r.1;
                issues = issues;
                completes = done_told t m r.2 h;
                before = omega arith;
                between = λ k x low high at.
                    let same : k ≡ (p + 1) + (k - (p + 1)) = omega (arith, low) in
                    r.3 (k - (p + 1)) x (omega (arith, low, high)) (to_rest merged (p + 1) (k - (p + 1)) x (sym (ap (slice_get merged) same) ∙ at));
              },
            )

    back : ((e : ℕ) × IsPair merged t p e) → is_completed (first_naming t (drop (p + 1) merged)) ≡ true
    back h =
        let pair = h.1 in
        let before = pair.before in
        let same : h.0 ≡ (p + 1) + (h.0 - (p + 1)) = omega (arith, before) in
        let first = first_from t (drop (p + 1) merged) (h.0 - (p + 1)) pair.done (to_rest merged (p + 1) (h.0 - (p + 1)) pair.done (sym (ap (slice_get merged) same) ∙ pair.at_done)) (ap (act_names t) pair.completes ∙ target_itself t)
        (λ k x low at. pair.between ((p + 1) + k) x (omega arith) (omega (arith, low, before)) (in_rest merged (p + 1) k x at)) in
        ap is_completed first ∙ ap is_done pair.completes
