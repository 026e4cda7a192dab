-- Steps keep the intervals in order.
use Rattle.std.proofs.Common.{◌≡◌, ◌≢◌, ℕ, zero, suc, ◌+◌, ◌-◌, ◌<◌, ◌≤◌, ◌==◌, Bool, true, false, not, ◌&&◌, nat_lt, if◌then◌else◌, MatchBool, List, [], ◌∷◌, ◌++◌, length, Option, Some, None, slice_set, refl, sym, ap, ◌∙◌, subst, arith, length-append}
use Rattle.std.specs.Prelude.{unwrap_or, Result, Ok, Err, OnOk}
use Rattle.std.specs.Ordering.{nat_cmp}
use Rattle.std.specs.Cmp.Lexicographic.{slice_cmp, nat_list_cmp_total}
use Rattle.std.specs.FinMap.{get, insert, get-empty, get-insert}
use Rattle.std.proofs.lemmas.Bool.{eqb-true, eqb-false, ltb-true, lt-ltb}
use Rattle.std.proofs.lemmas.List.{length-set}
use Rattle.trace_types.specs.declared.value.Value.{Value}
use Rattle.trace_types.specs.declared.value.Value.TheVariants.{Null}
use Rattle.trace_types.specs.Same.{same_value}
use Rattle.kernel_provider.specs.declared.step.Step.{Step}
use Rattle.kernel_provider.specs.declared.step.Step.TheVariants.{Advance, Add, Change, Finish}
use Rattle.history_nodes.specs.declared.interval.Interval.{Interval}
use Rattle.history_nodes.specs.Nodes.{opened as new_node}
use Rattle.history_tree.specs.Records.{Content, content_of, with_interval, IsFree}
use Rattle.history_tree.specs.Tree.{NodeTree}
use Rattle.history_tree.specs.Placement.{IsPlaced}
use Rattle.history_tree.proofs.Contents.{alike, same_key, key_number}
use Rattle.history_core.specs.declared.closed.Since.{Since}
use Rattle.history_core.specs.Intervals.{Parts, taken, open_at, closes, closing as closing_at, IsClosing, IsTreeAfter, EndBefore, AreKept}
use Rattle.history_core.specs.Stands.{CanFollow}

-- ---- open intervals by number
pub open_push : (opened : List (Option Since)) (n : ℕ) → open_at (opened ++ None ∷ []) n ≡ open_at opened n
open_push [] zero = refl
open_push [] (suc n) = refl
open_push (o ∷ os) zero = refl
open_push (o ∷ os) (suc n) = open_push os n

pub open_set : (opened : List (Option Since)) (n : ℕ) (c : Since) → n < length opened → open_at (slice_set opened n (Some c)) n ≡ Some c
open_set [] n c h = absurd (omega arith)
open_set (o ∷ os) zero c h = refl
open_set (o ∷ os) (suc n) c h = open_set os n c (omega arith)

pub open_else : (opened : List (Option Since)) (n m : ℕ) (c : Since) → n ≢ m → open_at (slice_set opened n (Some c)) m ≡ open_at opened m
open_else [] n m c h = refl
open_else (o ∷ os) zero zero c h = absurd (h refl)
open_else (o ∷ os) zero (suc m) c h = refl
open_else (o ∷ os) (suc n) zero c h = refl
open_else (o ∷ os) (suc n) (suc m) c h = open_else os n m c (λ e. h (ap suc e))

-- ---- what a change closes
pub get_else : (content : Content) (key q : List ℕ) (x : ℕ × Value) → alike q key ≡ false → get (insert content key x) q ≡ get content q
get_else content key q x e = get-insert nat_list_cmp_total content key x q ∙ rw e refl

pub get_new : (content : Content) (key q : List ℕ) (x : ℕ × Value) → alike q key ≡ true → get (insert content key x) q ≡ Some x
get_new content key q x e = get-insert nat_list_cmp_total content key x q ∙ rw e refl

same_end : (d e : ℕ) (v w : Value) → ◌≡◌ {A = Option (ℕ × Value)} (Some (d, v)) (Some (e, w)) → d ≡ e
same_end d e v w h = ap (λ (o : Option (ℕ × Value)). (unwrap_or o (e, w)).0) h

-- ---- a change
module _ (closed : Content) (opened : List (Option Since)) (n t : ℕ) (v : Value) (inside : n < length opened) where
  abbrev since : Since
  since = record { start = t; value = v }

  -- intervals that were closed before
  older_still : ((m : ℕ) → EndBefore closed m (open_at opened m)) → ((m : ℕ) (c : Since) → open_at opened m ≡ Some c → c.start ≤ t) → (m : ℕ) → EndBefore closed m (open_at (slice_set opened n (Some since)) m)
  older_still older begun m s e w g = by (n == m) refl (older m s e w g)
    where
      by : (b : Bool) → (n == m) ≡ b → (c : Since) × (open_at opened m ≡ Some c) × (e < c.start) → (c : Since) × (open_at (slice_set opened n (Some since)) m ≡ Some c) × (e < c.start)
      by true k (c, is, less) = (since, subst (λ j. open_at (slice_set opened n (Some since)) j ≡ Some since) (eqb-true n m k) (open_set opened n since inside), omega (arith, less, begun m c is))
      by false k (c, is, less) = (c, open_else opened n m since (eqb-false n m k) ∙ is, less)

  -- and the one that the change closes
  pub kept_closing : ((m : ℕ) → EndBefore closed m (open_at opened m)) → ((m : ℕ) (c : Since) → open_at opened m ≡ Some c → c.start ≤ t) → (o : Option Since) → (m : ℕ) → EndBefore (closing_at closed n t o) m (open_at (slice_set opened n (Some since)) m)
  kept_closing older begun None m = older_still older begun m
  kept_closing older begun (Some c) m = by (nat_lt c.start t) (not (same_value c.value Null)) refl
    where
      key : List ℕ
      key = n ∷ c.start ∷ []

      closed_now : (c.start < t) → EndBefore (insert closed (n ∷ c.start ∷ []) (t - 1, c.value)) m (open_at (slice_set opened n (Some since)) m)
      closed_now early s e w g = at (alike (m ∷ s ∷ []) key) refl
        where
          at : (k : Bool) → alike (m ∷ s ∷ []) key ≡ k → (d : Since) × (open_at (slice_set opened n (Some since)) m ≡ Some d) × (e < d.start)
          at true k =
              let same : m ≡ n = key_number m s n c.start (same_key (m ∷ s ∷ []) key k) in
              let end : t - 1 ≡ e = same_end (t - 1) e c.value w (sym (get_new closed key (m ∷ s ∷ []) (t - 1, c.value) k) ∙ g) in
              let before : e < t = omega (arith, end, early) in
              (since, subst (λ j. open_at (slice_set opened n (Some since)) j ≡ Some since) (sym same) (open_set opened n since inside), before)
          at false k = older_still older begun m s e w (sym (get_else closed key (m ∷ s ∷ []) (t - 1, c.value) k) ∙ g)

      by : (a b : Bool) → nat_lt c.start t ≡ a → EndBefore (if a && b then insert closed (n ∷ c.start ∷ []) (t - 1, c.value) else closed) m (open_at (slice_set opened n (Some since)) m)
      by true true k = closed_now (ltb-true c.start t k)
      by true false k = older_still older begun m
      by false b k = older_still older begun m

  pub begun_still : ((m : ℕ) (c : Since) → open_at opened m ≡ Some c → c.start ≤ t) → (m : ℕ) (c : Since) → open_at (slice_set opened n (Some since)) m ≡ Some c → c.start ≤ t
  begun_still begun m c h = by (n == m) refl
    where
      by : (b : Bool) → (n == m) ≡ b → c.start ≤ t
      by true e =
          let one : Some since ≡ Some c = sym (open_set opened n since inside) ∙ (ap (open_at (slice_set opened n (Some since))) (eqb-true n m e) ∙ h) in
          let same : since ≡ c = cc in
          omega (arith, ap (λ (y : Since). y.start) same)
      by false e = begun m c (sym (open_else opened n m since (eqb-false n m e)) ∙ h)

-- ---- any step
abbrev AreKeptParts : Parts → Type 0
AreKeptParts p = AreKept p.paths p.closed p.opened p.built

pub kept_taken : (p : Parts) (step : Step) → AreKept p.paths p.closed p.opened p.built → CanFollow p.paths p.built step → AreKeptParts (taken p step)
kept_taken p (Advance t) k h = record { places = k.places; older = k.older; begun = λ n c e. omega (arith, k.begun n c e, h.1.0); within = omega (arith, h.1.1) }
kept_taken p (Add path) k h = record {
  places = length-append p.opened (None ∷ []) ∙ (ap (λ n. n + 1) k.places ∙ sym (length-append p.paths (path ∷ [])));
  older = λ n s e v g. let o = k.older n s e v g in (o.0, open_push p.opened n ∙ o.1, o.2);
  begun = λ n c e. k.begun n c (sym (open_push p.opened n) ∙ e);
  within = k.within;
}
kept_taken p (Change t n v) k h =
    let inside : n < length p.opened = omega (arith, h.1.1, k.places) in
    let begun : (m : ℕ) (c : Since) → open_at p.opened m ≡ Some c → c.start ≤ t = λ m c e. omega (arith, k.begun m c e, h.1.0) in
    record {
      places = length-set p.opened n _ ∙ k.places;
      older = kept_closing p.closed p.opened n t v inside k.older begun (open_at p.opened n);
      begun = λ m c e. omega (arith, begun_still p.closed p.opened n t v inside begun m c e, h.1.0);
      within = k.within;
    }
kept_taken p Finish k h = record { places = k.places; older = k.older; begun = λ n c e. omega (arith, k.begun n c e, h.0); within = omega arith }

-- ---- the tree
pub ok_then : {T E : Type 0} (r : Result T E) (P Q : Type 0) → (P → Q) → OnOk r P → OnOk r Q
ok_then (Ok x) P Q f h = f h
ok_then (Err e) P Q f h = h

-- the interval that a change closes is free
pub closing_free : (content : Content) (number t : ℕ) (before : Option Since) (c : Since) (i : Interval) → before ≡ Some c → IsClosing number t c i → EndBefore content number before → IsFree content i
closing_free content number t before c i is closing older s e u v g le ge at =
    let o = older s e v (ap (λ n. get content (n ∷ s ∷ [])) (sym closing.number_is) ∙ g) in
    let both : Some o.0 ≡ Some c = sym o.1 ∙ is in
    let same : o.0 ≡ c = cc in
    omega (arith, o.2, ap (λ (d : Since). d.start) same, closing.start_is, at.begun, ge)

-- and the closed intervals gain it
pub content_closed : (content new : Content) (number t : ℕ) (before : Option Since) (c : Since) (i : Interval) → before ≡ Some c → closes t c ≡ true → IsClosing number t c i → new ≡ with_interval i content → new ≡ closing_at content number t before
content_closed content new number t before c i is closed closing gains =
    let end : i.end ≡ t - 1 = omega (arith, closing.end_is) in
    let same : with_interval i content ≡ insert content (number ∷ c.start ∷ []) (t - 1, c.value) = ap (λ n. insert content (n ∷ i.start ∷ []) (i.end, i.value)) closing.number_is
    ∙ (ap (λ s. insert content (number ∷ s ∷ []) (i.end, i.value)) closing.start_is ∙ (ap (λ e. insert content (number ∷ c.start ∷ []) (e, i.value)) end ∙ ap (λ v. insert content (number ∷ c.start ∷ []) (t - 1, v)) closing.value_is)) in
    subst (λ o. new ≡ closing_at content number t o) (sym is) (rw closed (gains ∙ same))

-- the tree has it placed
pub tree_closed : (old new : NodeTree) (number t : ℕ) (before : Option Since) (c : Since) (i : Interval) → before ≡ Some c → closes t c ≡ true → IsClosing number t c i → IsPlaced old i new → IsTreeAfter old number t before new
tree_closed old new number t before c i is closed closing placed = subst (λ o. IsTreeAfter old number t o new) (sym is) (subst (λ b. MatchBool b ((j : Interval) × IsClosing number t c j × IsPlaced old j new) (new ≡ old)) (sym closed) (i, closing, placed))

-- a change closes what is long enough and has a value
pub is_closed : (t : ℕ) (c : Since) → c.start < t → same_value c.value Null ≡ false → closes t c ≡ true
is_closed t c early some = rw (lt-ltb c.start t early, some) refl

-- ---- no step
pub kept_new : AreKept [] (content_of (new_node 0 0 ∷ [])) [] 0
kept_new = record {
  places = refl;
  older = λ n s e v g. let none : None ≡ Some (e, v) = sym (get-empty (slice_cmp nat_cmp) (n ∷ s ∷ [])) ∙ g in absurd (cc);
  begun = λ n c e. let none : None ≡ Some c = sym (nothing n) ∙ e in absurd (cc);
  within = omega arith;
}
  where
    nothing : (n : ℕ) → open_at [] n ≡ None
    nothing zero = refl
    nothing (suc n) = refl
