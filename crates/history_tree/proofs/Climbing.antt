-- Searches up a branch, and what keeps shortcuts.
use Rattle.std.proofs.Common.{◌≡◌, ◌≢◌, ℕ, ◌<◌, ◌≤◌, Bool, true, false, ◌&&◌, nat_lt, nat_le, List, [], ◌∷◌, ◌++◌, length, Option, None, Some, refl, sym, ap, ◌∙◌, subst, arith, set, length-set}
use Rattle.std.specs.List.{AllByRecursion}
use Rattle.std.proofs.lemmas.Bool.{ltb-false, leb-true}
use Rattle.history_nodes.specs.declared.interval.Interval.{Interval}
use Rattle.history_nodes.specs.declared.node.Node.{Node}
use Rattle.history_nodes.specs.declared.children.TheConstants.{MAX_CHILDREN}
use Rattle.history_nodes.specs.declared.records.TheConstants.{MAX_RECORDS}
use Rattle.history_nodes.specs.Nodes.{node_at, with_record}
use Rattle.history_tree.specs.Placement.{LeadUp, IsFirst, has_room, has_rooms, takes}
use Rattle.history_tree.specs.Climbing.{AreClimbed}
use Rattle.history_tree.specs.Shortcuts.{LeadsPast, IsShortcut, AreShortcuts, shortcut_of}
use Rattle.history_tree.specs.Earlier.{IsLate, LeadsPastLate, AreEarlier, PassesBy, earlier_of}
use Rattle.history_tree.proofs.Steps.{at_other}
use Rattle.history_tree.proofs.Climbs.{height, height_falls, same_some, lead_begins}
use Rattle.history_tree.proofs.Shortening.{lead_join, all_join}
use Rattle.history_tree.proofs.Keeping.{Keeps, kept_set}

-- ---- tests
pub room_there : (x : Node) → length x.intervals < MAX_RECORDS → has_room x ≡ true
room_there x lt = by (has_room x) refl
  where
    by : (b : Bool) → has_room x ≡ b → b ≡ true
    by true e = refl
    by false e = absurd (omega (arith, lt, ltb-false (length x.intervals) MAX_RECORDS e))

-- a full node fails both
pub rooms_full : (x : Node) → has_room x ≡ false → has_rooms x ≡ false
rooms_full x e = ap (λ b. b && nat_lt (length x.children) MAX_CHILDREN) e

pub takes_full : (start : ℕ) (x : Node) → has_room x ≡ false → takes start x ≡ false
takes_full start x e = ap (λ b. nat_le x.start start && b) e ∙ never (nat_le x.start start)
  where
    never : (b : Bool) → (b && false) ≡ false
    never true = refl
    never false = refl

-- ---- a search: those that were passed fail the test
pub record IsClimbing (test : Node → Bool) (nodes : List Node) (from next : Option ℕ) (shortcuts : List ℕ) : Type 0 where
  pub passed : List ℕ
  pub up : LeadUp nodes from passed next
  pub fail : AllByRecursion (λ n. test (node_at nodes n) ≡ false) passed
  pub there : (n : ℕ) → next ≡ Some n → n < length nodes
  pub shortcuts_hold : AreShortcuts nodes shortcuts

pub climbing_begins : (test : Node → Bool) (nodes : List Node) (from : Option ℕ) (shortcuts : List ℕ) → ((n : ℕ) → from ≡ Some n → n < length nodes) → AreShortcuts nodes shortcuts → IsClimbing test nodes from from shortcuts
climbing_begins test nodes from shortcuts there h = record { passed = []; up = refl; fail = tt; there = there; shortcuts_hold = h }

fail_past : (test : Node → Bool) (nodes : List Node) (ns : List ℕ) → ((x : Node) → has_room x ≡ false → test x ≡ false) → AllByRecursion (λ n. has_room (node_at nodes n) ≡ false) ns → AllByRecursion (λ n. test (node_at nodes n) ≡ false) ns
fail_past test nodes [] full h = tt
fail_past test nodes (n ∷ ns) full h = (full (node_at nodes n) h.0, fail_past test nodes ns full h.1)

-- up to the node after those that are full
pub climbed_past : (test : Node → Bool) (nodes : List Node) (from next : Option ℕ) (number free : ℕ) (old new : List ℕ) → ((x : Node) → has_room x ≡ false → test x ≡ false) → IsClimbing test nodes from next old → next ≡ Some number → LeadsPast nodes number free → AreShortcuts nodes new → IsClimbing test nodes from (Some free) new
climbed_past test nodes from next number free old new full c is past h = record {
  passed = c.passed ++ past.passed;
  up = lead_join nodes from c.passed past.passed (Some number) (Some free) (subst (λ o. LeadUp nodes from c.passed o) is c.up) past.up;
  fail = all_join (λ n. test (node_at nodes n) ≡ false) c.passed past.passed c.fail (fail_past test nodes past.passed full past.full);
  there = λ n e. subst (λ k. k < length nodes) (same_some free n e) past.there;
  shortcuts_hold = h;
}

-- to its parent, where it fails the test
pub climbing_on : (test : Node → Bool) (nodes : List Node) (from above : Option ℕ) (free : ℕ) (shortcuts : List ℕ) → AreClimbed nodes → IsClimbing test nodes from (Some free) shortcuts → test (node_at nodes free) ≡ false → above ≡ (node_at nodes free).parent → IsClimbing test nodes from above shortcuts
climbing_on test nodes from above free shortcuts a c fails is = record {
  passed = c.passed ++ free ∷ [];
  up = lead_join nodes from c.passed (free ∷ []) (Some free) above c.up (refl, sym is);
  fail = all_join (λ n. test (node_at nodes n) ≡ false) c.passed (free ∷ []) c.fail (fails, tt);
  there = λ n e. (a.parents free n (c.there free refl) (sym is ∙ e)).there;
  shortcuts_hold = c.shortcuts_hold;
}

pub climbing_found : (test : Node → Bool) (nodes : List Node) (from : Option ℕ) (free : ℕ) (shortcuts : List ℕ) → IsClimbing test nodes from (Some free) shortcuts → test (node_at nodes free) ≡ true → IsFirst test nodes from (Some free)
climbing_found test nodes from free shortcuts c passes = record { passed = c.passed; up = c.up; fail = c.fail; pass = λ n e. subst (λ k. test (node_at nodes k) ≡ true) (same_some free n e) passes }

pub climbing_ends : (test : Node → Bool) (nodes : List Node) (from next : Option ℕ) (shortcuts : List ℕ) → IsClimbing test nodes from next shortcuts → next ≡ None → IsFirst test nodes from None
climbing_ends test nodes from next shortcuts c is = record { passed = c.passed; up = subst (λ o. LeadUp nodes from c.passed o) is c.up; fail = c.fail; pass = λ n e. absurd (cc) }

pub climbing_falls : (nodes : List Node) (next above : Option ℕ) (number free : ℕ) → AreClimbed nodes → next ≡ Some number → LeadsPast nodes number free → above ≡ (node_at nodes free).parent → height nodes above < height nodes next
climbing_falls nodes next above number free c is past is_above =
    let falls = height_falls nodes free above c past.there (sym is_above) in
    let few = c.few number past.begins in
    let same : height nodes next ≡ height nodes (Some number) = ap (height nodes) is in
    omega (arith, falls, few, same, past.level)

-- ---- past nodes that began too late
late_takes : (x : Node) (start : ℕ) → start < x.start → takes start x ≡ false
late_takes x start lt = by (nat_le x.start start) refl
  where
    by : (b : Bool) → nat_le x.start start ≡ b → (b && has_room x) ≡ false
    by true e = absurd (omega (arith, lt, leb-true x.start start e))
    by false e = refl

fail_late : (nodes : List Node) (start low : ℕ) (ns : List ℕ) → start < low → AllByRecursion (IsLate nodes low) ns → AllByRecursion (λ n. takes start (node_at nodes n) ≡ false) ns
fail_late nodes start low [] lt h = tt
fail_late nodes start low (n ∷ ns) lt h = (late_takes (node_at nodes n) start (omega (arith, lt, h.0.late)), fail_late nodes start low ns lt h.1)

pub by_late : (nodes : List Node) (n : ℕ) (next : Option ℕ) (start : ℕ) → start < (node_at nodes n).start → LeadsPastLate nodes n next → PassesBy nodes start n next
by_late nodes n next start lt l = record { passed = l.passed; up = l.up; fail = fail_late nodes start (node_at nodes n).start l.passed lt l.late; there = l.there; higher = l.higher }

pub by_one : (nodes : List Node) (n : ℕ) (next : Option ℕ) (start : ℕ) → AreClimbed nodes → n < length nodes → next ≡ (node_at nodes n).parent → takes start (node_at nodes n) ≡ false → PassesBy nodes start n next
by_one nodes n next start c there is fails = record {
  passed = n ∷ [];
  up = (refl, sym is);
  fail = (fails, tt);
  there = λ p e. (c.parents n p there (sym is ∙ e)).there;
  higher = λ p e. let a = c.parents n p there (sym is ∙ e) in omega (arith, a.level);
}

pub climbing_by : (nodes : List Node) (from above : Option ℕ) (start free : ℕ) (shortcuts : List ℕ) → IsClimbing (takes start) nodes from (Some free) shortcuts → PassesBy nodes start free above → IsClimbing (takes start) nodes from above shortcuts
climbing_by nodes from above start free shortcuts c p = record {
  passed = c.passed ++ p.passed;
  up = lead_join nodes from c.passed p.passed (Some free) above c.up p.up;
  fail = all_join (λ n. takes start (node_at nodes n) ≡ false) c.passed p.passed c.fail p.fail;
  there = p.there;
  shortcuts_hold = c.shortcuts_hold;
}

pub by_falls : (nodes : List Node) (next above : Option ℕ) (number free start : ℕ) → AreClimbed nodes → next ≡ Some number → LeadsPast nodes number free → PassesBy nodes start free above → height nodes above < height nodes next
by_falls nodes next None number free start c is past p =
    let few = c.few number past.begins in
    let same : height nodes next ≡ height nodes (Some number) = ap (height nodes) is in
    omega (arith, few, same)
by_falls nodes next (Some k) number free start c is past p =
    let few = c.few number past.begins in
    let same : height nodes next ≡ height nodes (Some number) = ap (height nodes) is in
    let higher = p.higher k refl in
    omega (arith, few, same, past.level, higher)

-- ---- shortcuts while nodes change
pub record KeepsFull (old new : List Node) : Type 0 where
  pub len : length old ≤ length new
  pub full : (n : ℕ) → has_room (node_at old n) ≡ false → has_room (node_at new n) ≡ false
  pub level : (n : ℕ) → n < length old → (node_at new n).level ≡ (node_at old n).level
  pub start : (n : ℕ) → n < length old → (node_at new n).start ≡ (node_at old n).start
  pub parent : (n p : ℕ) → n < length old → (node_at old n).parent ≡ Some p → (node_at new n).parent ≡ Some p

keeps_full : (old new : List Node) → Keeps old new → KeepsFull old new
keeps_full old new k = record {
  len = k.len;
  full = λ n e. ap (λ (is : List Interval). nat_lt (length is) MAX_RECORDS) (k.records n) ∙ e;
  level = k.level;
  start = k.start;
  parent = k.parent;
}

put_keeps_full : (nodes : List Node) (k : ℕ) (i : Interval) → has_room (node_at nodes k) ≡ true → KeepsFull nodes (set nodes k (with_record i (node_at nodes k)))
put_keeps_full nodes k i room = record {
  len = omega (arith, length-set nodes k x);
  full = λ n e. ap has_room (at_other nodes k n x (differs n e)) ∙ e;
  level = λ n there. kept_set (λ (y : Node). y.level) nodes k x refl n;
  start = λ n there. kept_set (λ (y : Node). y.start) nodes k x refl n;
  parent = λ n p there e. kept_set (λ (y : Node). y.parent) nodes k x refl n ∙ e;
}
  where
    x : Node
    x = with_record i (node_at nodes k)

    differs : (n : ℕ) → has_room (node_at nodes n) ≡ false → n ≢ k
    differs n e is = let both : false ≡ true = sym e ∙ (ap (λ m. has_room (node_at nodes m)) is ∙ room) in absurd (cc)

lead_kept : (ns : List ℕ) (old new : List Node) (low high : ℕ) → KeepsFull old new → AreClimbed old → low < length old → LeadUp old (Some low) ns (Some high) → LeadUp new (Some low) ns (Some high)
lead_kept [] old new low high k c there up = up
lead_kept (n ∷ ns) old new low high k c there up = (up.0, by (lead_begins old (node_at old n).parent ns high up.1) (λ p. lead_kept ns old new p high k c))
  where
    n_there : n < length old
    n_there = subst (λ m. m < length old) (same_some low n up.0) there

    by : (p : ℕ) × ((node_at old n).parent ≡ Some p) → ((p : ℕ) → p < length old → LeadUp old (Some p) ns (Some high) → LeadUp new (Some p) ns (Some high)) → LeadUp new (node_at new n).parent ns (Some high)
    by (p, e) rest = subst (λ o. LeadUp new o ns (Some high)) (sym (k.parent n p n_there e)) (rest p (c.parents n p n_there e).there (subst (λ o. LeadUp old o ns (Some high)) e up.1))

full_kept : (old new : List Node) (ns : List ℕ) → KeepsFull old new → AllByRecursion (λ n. has_room (node_at old n) ≡ false) ns → AllByRecursion (λ n. has_room (node_at new n) ≡ false) ns
full_kept old new [] k h = tt
full_kept old new (n ∷ ns) k h = (k.full n h.0, full_kept old new ns k h.1)

full_shortcuts : (old new : List Node) (shortcuts : List ℕ) → KeepsFull old new → AreClimbed old → AreShortcuts old shortcuts → AreShortcuts new shortcuts
full_shortcuts old new shortcuts k c h = record { each = λ n ne. kept n (shortcut_of shortcuts n) (h.each n ne) }
  where
    kept : (low high : ℕ) → IsShortcut old low high → IsShortcut new low high
    kept low high s =
        let l = k.level low s.past.begins in
        let g = k.level high s.past.there in
        record {
          past = record {
            begins = omega (arith, k.len, s.past.begins);
            there = omega (arith, k.len, s.past.there);
            level = omega (arith, l, g, s.past.level);
            passed = s.past.passed;
            up = lead_kept s.past.passed old new low high k c s.past.begins s.past.up;
            full = full_kept old new s.past.passed k s.past.full;
          };
          higher = omega (arith, l, g, s.higher);
        }

pub shortcuts_kept : (old new : List Node) (shortcuts : List ℕ) → Keeps old new → AreClimbed old → AreShortcuts old shortcuts → AreShortcuts new shortcuts
shortcuts_kept old new shortcuts k c h = full_shortcuts old new shortcuts (keeps_full old new k) c h

pub shortcuts_put : (nodes : List Node) (n : ℕ) (i : Interval) (shortcuts : List ℕ) → has_room (node_at nodes n) ≡ true → AreClimbed nodes → AreShortcuts nodes shortcuts → AreShortcuts (set nodes n (with_record i (node_at nodes n))) shortcuts
shortcuts_put nodes n i shortcuts room c h = full_shortcuts nodes (set nodes n (with_record i (node_at nodes n))) shortcuts (put_keeps_full nodes n i room) c h

-- ---- what is known of earlier nodes, while nodes change
late_kept : (old new : List Node) (start : ℕ) (ns : List ℕ) → KeepsFull old new → AllByRecursion (IsLate old start) ns → AllByRecursion (IsLate new start) ns
late_kept old new start [] k h = tt
late_kept old new start (n ∷ ns) k h = (record { there = omega (arith, k.len, h.0.there); late = let s = k.start n h.0.there in omega (arith, s, h.0.late) }, late_kept old new start ns k h.1)

full_earlier : (old new : List Node) (numbers : List ℕ) → KeepsFull old new → AreClimbed old → AreEarlier old numbers → AreEarlier new numbers
full_earlier old new numbers k c h = record { few = omega (arith, k.len, h.few); each = λ n ne. kept n (earlier_of numbers n) (h.each n ne) }
  where
    kept : (low high : ℕ) → LeadsPastLate old low (Some high) → LeadsPastLate new low (Some high)
    kept low high l = record {
      begins = omega (arith, k.len, l.begins);
      passed = l.passed;
      up = lead_kept l.passed old new low high k c l.begins l.up;
      late = subst (λ s. AllByRecursion (IsLate new s) l.passed) (sym (k.start low l.begins)) (late_kept old new (node_at old low).start l.passed k l.late);
      there = λ n e. let t = l.there n e in omega (arith, k.len, t);
      higher = λ n e. let a = k.level low l.begins in let b = k.level n (l.there n e) in let g = l.higher n e in omega (arith, a, b, g);
    }

pub earlier_kept : (old new : List Node) (numbers : List ℕ) → Keeps old new → AreClimbed old → AreEarlier old numbers → AreEarlier new numbers
earlier_kept old new numbers k c h = full_earlier old new numbers (keeps_full old new k) c h

pub earlier_put : (nodes : List Node) (n : ℕ) (i : Interval) (numbers : List ℕ) → has_room (node_at nodes n) ≡ true → AreClimbed nodes → AreEarlier nodes numbers → AreEarlier (set nodes n (with_record i (node_at nodes n))) numbers
earlier_put nodes n i numbers room c h = full_earlier nodes (set nodes n (with_record i (node_at nodes n))) numbers (put_keeps_full nodes n i room) c h
