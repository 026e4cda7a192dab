-- Labels that rise: where their ends reach a value, and that one of them at most holds it.
use Rattle.std.proofs.Common.{◌≡◌, ◌∙◌, ℕ, ℤ, zero, suc, ◌+◌, ◌-◌, ◌<◌, ◌≤◌, ◌&&◌, true, false, cond, int_le, int_lt, List, [], ◌∷◌, Option, Some, None, length, drop, take, get_or, ap, refl, sym, subst, arith}
use Rattle.std.specs.List.Sorted.{IsPartitionedBy}
use Rattle.std.proofs.lemmas.Bool.{and_parts, and_left, and_right, cond-false}
use Rattle.std.proofs.lemmas.Int.{ints}
use Rattle.std.proofs.lemmas.List.{drop_all}
use Rattle.type_table.specs.declared.meta.LabelMeta.{LabelMeta}
use Rattle.type_table.specs.Labels.{EndBelow, Rise, begins_past, holding, holds, rise_past}

-- ---- numbers
begins_behind : (v end low : ℤ) → int_le v end ≡ true → int_lt end low ≡ true → int_le low v ≡ false
begins_behind v end low le lt = let e : false ≡ int_le low v = omega (arith, ints) in sym e

ends_behind : (v end low high : ℤ) → int_le v end ≡ true → int_lt end low ≡ true → int_le low high ≡ true → int_le v high ≡ true
ends_behind v end low high le lt up = let e : true ≡ int_le v high = omega (arith, ints) in sym e

reaches : (v high : ℤ) → int_lt high v ≡ false → int_le v high ≡ true
reaches v high ge = let e : true ≡ int_le v high = omega (arith, ints) in sym e

stays_below : (v high : ℤ) → int_lt high v ≡ true → int_le v high ≡ false
stays_below v high lt = let e : false ≡ int_le v high = omega (arith, ints) in sym e

later_end : (end low high : ℤ) → int_lt end low ≡ true → int_le low high ≡ true → int_lt end high ≡ true
later_end end low high lt le = let e : true ≡ int_lt end high = omega (arith, ints) in sym e

below_both : (v end high : ℤ) → int_lt end high ≡ true → int_lt high v ≡ true → int_lt end v ≡ true
below_both v end high lt less = let e : true ≡ int_lt end v = omega (arith, ints) in sym e

-- ---- labels that rise
-- what holds of the first label, and of the others
record First (past : Option ℤ) (l : LabelMeta) (ls : List LabelMeta) : Type 0 where
  pub begins : begins_past past l ≡ true
  pub range : int_le l.low l.high ≡ true
  pub others : rise_past (Some l.high) ls ≡ true

first : (past : Option ℤ) (l : LabelMeta) (ls : List LabelMeta) → rise_past past (l ∷ ls) ≡ true → First past l ls
first past l ls up =
    let parts = and_parts (begins_past past l) (int_le l.low l.high && rise_past (Some l.high) ls) up in
    let more = and_parts (int_le l.low l.high) (rise_past (Some l.high) ls) parts.1 in
    record { begins = parts.0; range = more.0; others = more.1 }

-- labels past the number where one ends end past it
ends_past : (end : ℤ) (ls : List LabelMeta) (j : ℕ) (d : LabelMeta) → rise_past (Some end) ls ≡ true → j < length ls → int_lt end (get_or ls j d).high ≡ true
ends_past end [] j d up lt = absurd (omega arith)
ends_past end (l ∷ ls) zero d up lt = let here = first (Some end) l ls up in later_end end l.low l.high here.begins here.range
ends_past end (l ∷ ls) (suc j) d up lt =
    let here = first (Some end) l ls up in
    let there : j < length ls = omega arith in
    below_both (get_or ls j d).high end l.high (later_end end l.low l.high here.begins here.range) (ends_past l.high ls j d here.others there)

-- those that end below a value come first
parted : (v : ℤ) (past : Option ℤ) (ls : List LabelMeta) → rise_past past ls ≡ true → IsPartitionedBy (λ l. int_lt l.high v) ls
parted v past [] up i j d le lt less = absurd (omega arith)
parted v past (l ∷ ls) up zero zero d le lt less = less
parted v past (l ∷ ls) up zero (suc j) d le lt less =
    let there : j < length ls = omega arith in
    below_both v l.high (get_or ls j d).high (ends_past l.high ls j d (first past l ls up).others there) less
parted v past (l ∷ ls) up (suc i) zero d le lt less = absurd (omega arith)
parted v past (l ∷ ls) up (suc i) (suc j) d le lt less = parted v (Some l.high) ls (first past l ls up).others i j d (omega arith) (omega arith) less

pub rise_parted : (v : ℤ) (ls : List LabelMeta) → Rise ls → IsPartitionedBy (λ l. int_lt l.high v) ls
rise_parted v ls up = parted v None ls up

-- a label that doesn't hold a value is passed over
passed_over : (v : ℤ) (l : LabelMeta) (ls : List LabelMeta) → holds v l ≡ false → holding v (l ∷ ls) ≡ holding v ls
passed_over v l ls none = cond-false (holds v l) (l ∷ holding v ls) (holding v ls) none

-- labels past a value don't hold it
none_past : (v end : ℤ) (ls : List LabelMeta) → int_le v end ≡ true → rise_past (Some end) ls ≡ true → holding v ls ≡ []
none_past v end [] le up = refl
none_past v end (l ∷ ls) le up =
    let here = first (Some end) l ls up in
    passed_over v l ls (and_left (int_le l.low v) (int_le v l.high) (begins_behind v end l.low le here.begins))
    ∙ none_past v l.high ls (ends_behind v end l.low l.high le here.begins here.range) here.others

-- the first label that doesn't end below a value is the only one that may hold it
only : (v : ℤ) (past : Option ℤ) (ls : List LabelMeta) (n : ℕ) → rise_past past ls ≡ true
    → ((k : ℕ) (d : LabelMeta) → k < n → int_lt (get_or ls k d).high v ≡ true)
    → ((k : ℕ) (d : LabelMeta) → n ≤ k → k < length ls → int_lt (get_or ls k d).high v ≡ false)
    → holding v (take 1 (drop n ls)) ≡ holding v ls
only v past [] zero up below above = refl
only v past [] (suc n) up below above = refl
only v past (l ∷ ls) zero up below above =
    let none : holding v ls ≡ [] = none_past v l.high ls (reaches v l.high (above 0 l (omega arith) (omega arith))) (first past l ls up).others in
    ap (λ rest. cond (holds v l) (l ∷ rest) rest) (sym none)
only v past (l ∷ ls) (suc n) up below above =
    only v (Some l.high) ls n (first past l ls up).others (λ k d lt. below (suc k) d (omega arith)) (λ k d le lt. above (suc k) d (omega arith) (omega arith))
    ∙ sym (passed_over v l ls (and_right (int_le l.low v) (int_le v l.high) (stays_below v l.high (below 0 l (omega arith)))))

pub only_one : (v : ℤ) (ls : List LabelMeta) (n : ℕ) → Rise ls → EndBelow v ls n → holding v (take (n + 1 - n) (drop n ls)) ≡ holding v ls
only_one v ls n up point =
    let one : 1 ≡ n + 1 - n = omega arith in
    subst (λ k. holding v (take k (drop n ls)) ≡ holding v ls) one (only v None ls n up (λ k d lt. point.0 k d (omega arith) lt) point.1)

pub none_left : (v : ℤ) (ls : List LabelMeta) (n : ℕ) → Rise ls → length ls ≤ n → EndBelow v ls n → [] ≡ holding v ls
none_left v ls n up le point = subst (λ rest. holding v (take 1 rest) ≡ holding v ls) (drop_all n ls le) (only v None ls n up (λ k d lt. point.0 k d (omega arith) lt) point.1)
