-- The places of hosts' events, one event after the other.
use Rattle.std.proofs.Common.{◌≡◌, ◌<◌, ◌≤◌, ◌+◌, ◌⊎◌, inl, inr, ℕ, Bool, true, false, cond, Some, List, [], ◌∷◌, ◌++◌, length, get_or, set, take, replicate, slice_get, count_by, refl, sym, ap, ◌∙◌, subst, arith, All}
use Rattle.std.proofs.lemmas.Bool.{cases_lt, cases_eq, eq-eqb, ne_eqb, eqb-true}
use Rattle.std.proofs.lemmas.List.{length-set, length-replicate, length_push, take_all, take_more}
use Rattle.std.proofs.lemmas.List.Elements.{All-tail}
use Rattle.std.proofs.lemmas.List.Sums.{count_by_more_no, count_by_more_yes, sum_by-cons}
use Rattle.std.proofs.lemmas.Option.{get_or_from_slice_get, slice_get_read, slice_get_within}
use Rattle.host_tree.proofs.Gets.{at_push, at_replicate, at_set, before_push, beside_set, one_get}
use Rattle.message_match.specs.declared.message.Message.{Message}
use Rattle.trace_types.specs.declared.event.Merged.{Merged}
use Rattle.host_merge.specs.declared.placed.Placed.{Placed}
use Rattle.host_merge.specs.PlaceLists.{ArePlaceLists, IsPlaceList}
use Rattle.host_merge.specs.Placed.{ArePlaced, IsAt, is_of}

pub no_place_lists : (merged : List Merged) → ArePlaceLists merged 0 (replicate 64 [])
no_place_lists merged = record {
  count = length-replicate {A = List ℕ} 64 [];
  each = λ host h. ([], at_replicate 64 host [] h, record { count = refl; each = λ number place e. absurd (cc) });
}

pub place_lists_more : (merged : List Merged) (n : ℕ) (e : Merged) (lists : List (List ℕ)) (l : List ℕ) → slice_get merged n ≡ Some e → e.event.host < 64 → l ≡ get_or lists e.event.host l
    → ArePlaceLists merged n lists → ArePlaceLists merged (n + 1) (set lists e.event.host (l ++ n ∷ []))
place_lists_more merged n e lists l at small l_at a = record {
  count = length-set lists e.event.host (l ++ n ∷ []) ∙ a.count;
  each = λ host h. by host (a.each host h) (cases_eq host e.event.host);
}
  where
    inside : n < length merged
    inside = slice_get_within merged n e at

    old : slice_get lists e.event.host ≡ Some l
    old = slice_get_read lists 64 e.event.host l (sym a.count) small l_at

    read : (d : Merged) → get_or merged n d ≡ e
    read d = get_or_from_slice_get merged n e d at

    by : (host : ℕ) → (places : List ℕ) × (slice_get lists host ≡ Some places) × IsPlaceList merged n host places → (host ≡ e.event.host) ⊎ (host ≡ e.event.host → ⊥)
        → (places : List ℕ) × (slice_get (set lists e.event.host (l ++ n ∷ [])) host ≡ Some places) × IsPlaceList merged (n + 1) host places
    by host p (inr ne) =
        let no : is_of host (get_or merged n e) ≡ false = ap (is_of host) (read e) ∙ ne_eqb e.event.host host (λ s. ne (sym s)) in
        (p.0, beside_set lists e.event.host host (l ++ n ∷ []) ne ∙ p.1, record { count = p.2.count ∙ sym (count_by_more_no (is_of host) merged n e inside no); each = p.2.each })
    by host p (inl same) =
        let l_is : l ≡ p.0 = one_get lists e.event.host l p.0 old (ap (slice_get lists) (sym same) ∙ p.1) in
        let yes : is_of host (get_or merged n e) ≡ true = ap (is_of host) (read e) ∙ eq-eqb e.event.host host (sym same) in
        let count : length l ≡ count_by (is_of host) (take n merged) = ap length l_is ∙ p.2.count in (
          l ++ n ∷ [],
          ap (slice_get (set lists e.event.host (l ++ n ∷ []))) same ∙ at_set lists e.event.host (l ++ n ∷ []) (slice_get_within lists e.event.host l old),
          record {
            count = omega (arith, length_push l n, count, count_by_more_yes (is_of host) merged n e inside yes);
            each = λ number place f. each l_is count same number place f (cases_lt number (length l));
          },
        )
      where
        each : l ≡ p.0 → length l ≡ count_by (is_of host) (take n merged) → host ≡ e.event.host → (number place : ℕ) → slice_get (l ++ n ∷ []) number ≡ Some place → (number < length l) ⊎ (length l ≤ number) → IsAt merged host number place
        each l_is count same number place f (inl less) = p.2.each number place (ap (λ x. slice_get x number) (sym l_is) ∙ (sym (before_push l number n less) ∙ f))
        each l_is count same number place f (inr more) =
            let last : number ≡ length l = omega (arith, length_push l n, slice_get_within (l ++ n ∷ []) number place f) in
            let here : n ≡ place = one_get (l ++ n ∷ []) number n place (ap (slice_get (l ++ n ∷ [])) last ∙ at_push l n) f in
            record {
              event = e;
              there = ap (slice_get merged) (sym here) ∙ at;
              of_host = sym same;
              before = ap (λ k. count_by (is_of host) (take k merged)) (sym here) ∙ (sym count ∙ sym last);
            }

-- a host that has an event has a number below 64
pub host_small : (host : ℕ) (merged : List Merged) → 0 < count_by (is_of host) merged → All (λ m. m.event.host < 64) merged → host < 64
host_small host [] some all = omega arith
host_small host (m ∷ ms) some all = by (is_of host m) refl (host_small host ms)
  where
    by : (b : Bool) → is_of host m ≡ b → (0 < count_by (is_of host) ms → All (λ m. m.event.host < 64) ms → host < 64) → host < 64
    by true e rest = let h : m.event.host < 64 = all 0 m (omega arith) in omega (arith, h, eqb-true m.event.host host e)
    by false e rest =
        let c = sum_by-cons (λ (x : Merged). cond (is_of host x) 1 0) m ms in
        let z : ◌≡◌ {A = ℕ} (cond (is_of host m) 1 0) 0 = ap (λ b. cond b 1 0) e in
        rest (omega (arith, c, z, some)) (All-tail (λ (x : Merged). x.event.host < 64) m ms all)

pub placed_is : (merged : List Merged) (lists : List (List ℕ)) (host number place : ℕ) (l : List ℕ) → host < 64 → ArePlaceLists merged (length merged) lists → slice_get lists host ≡ Some l → slice_get l number ≡ Some place → IsAt merged host number place
placed_is merged lists host number place l small a at e =
    let p = a.each host small in
    p.2.each number place (ap (λ x. slice_get x number) (one_get lists host p.0 l p.1 at) ∙ e)

pub list_long : (merged : List Merged) (lists : List (List ℕ)) (host number : ℕ) (l : List ℕ) → host < 64 → ArePlaceLists merged (length merged) lists → slice_get lists host ≡ Some l → number < count_by (is_of host) merged → number < length l
list_long merged lists host number l small a at h =
    let p = a.each host small in
    let same : p.0 ≡ l = one_get lists host p.0 l p.1 at in
    omega (arith, h, p.2.count, ap length same, ap (count_by (is_of host)) (take_all (length merged) merged (omega arith)))

pub placed_more : (merged : List Merged) (messages : List Message) (i : ℕ) (m : Message) (placed : List Placed) (p : Placed) → i < length messages → slice_get messages i ≡ Some m → IsAt merged m.from m.send p.send → IsAt merged m.to m.receive p.receive
    → ArePlaced merged (take i messages) placed → ArePlaced merged (take (i + 1) messages) (placed ++ p ∷ [])
placed_more merged messages i m placed p inside at sent received a = subst (λ ms. ArePlaced merged ms (placed ++ p ∷ [])) (sym taken) (record {
  count = length_push placed p ∙ (ap (λ n. n + 1) a.count ∙ sym (length_push (take i messages) m));
  each = λ k n q e f. each k n q e f (cases_lt k (length placed));
})
  where
    taken : take (i + 1) messages ≡ take i messages ++ m ∷ []
    taken = take_more messages i m inside ∙ ap (λ x. take i messages ++ x ∷ []) (get_or_from_slice_get messages i m m at)

    each : (k : ℕ) (n : Message) (q : Placed) → slice_get (take i messages ++ m ∷ []) k ≡ Some n → slice_get (placed ++ p ∷ []) k ≡ Some q → (k < length placed) ⊎ (length placed ≤ k) → IsAt merged n.from n.send q.send × IsAt merged n.to n.receive q.receive
    each k n q e f (inl less) = a.each k n q (sym (before_push (take i messages) k m (omega (arith, a.count))) ∙ e) (sym (before_push placed k p less) ∙ f)
    each k n q e f (inr more) =
        let last : k ≡ length placed = omega (arith, length_push placed p, slice_get_within (placed ++ p ∷ []) k q f) in
        let n_is : m ≡ n = one_get (take i messages ++ m ∷ []) k m n (ap (slice_get (take i messages ++ m ∷ [])) (last ∙ a.count) ∙ at_push (take i messages) m) e in
        let q_is : p ≡ q = one_get (placed ++ p ∷ []) k p q (ap (slice_get (placed ++ p ∷ [])) last ∙ at_push placed p) f in
        subst (λ (x : Placed). IsAt merged n.from n.send x.send × IsAt merged n.to n.receive x.receive) q_is (subst (λ (x : Message). IsAt merged x.from x.send p.send × IsAt merged x.to x.receive p.receive) n_is (sent, received))
