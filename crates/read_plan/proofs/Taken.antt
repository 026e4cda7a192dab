-- One step of what is done for each of a list's numbers, labels or fields.
use Rattle.std.proofs.Common.{◌≡◌, ◌∙◌, ℕ, ℤ, ◌+◌, ◌<◌, ◌≤◌, List, ◌∷◌, drop, length, get_or, Some, None, Bool, true, false, if◌then◌else◌, nat_le, add-one, drop-cons, refl, sym, ap, subst, arith}
use Rattle.std.proofs.lemmas.Bool.{leb-true}
use Rattle.std.specs.Int.{next_multiple_of}
use Rattle.type_table.specs.declared.integer.Integer.{Integer}
use Rattle.bit_reader.specs.Bits.{integer}
use Rattle.ctf_fields.specs.Leaves.{integer_read, value_of}
use Rattle.ctf_fields.specs.Reading.{then_read}
use Rattle.read_plan.specs.Headers.{AreReadable, number_by, numbers_read, with_number}
use Rattle.read_plan.specs.declared.header.HeaderNumber.{HeaderNumber}
use Rattle.read_plan.specs.declared.header.HeaderNumbers.{HeaderNumbers}

-- what is left begins with the item at this index
pub left_at : {A : Type 0} (xs : List A) (k : ℕ) (x : A) → k < length xs → drop k xs ≡ get_or xs k x ∷ drop (k + 1) xs
left_at xs k x h = drop-cons xs k x h ∙ ap (λ n. get_or xs k x ∷ drop n xs) (sym (add-one k))

-- an integer ends behind where it was looked for, and within the bits
pub read_forward : (i : Integer) (bytes : List ℕ) (end at : ℕ) (r : ℤ × ℕ) → integer_read i bytes end at ≡ Some r → end ≤ 9223372036854775808 → (at ≤ r.1) × (r.1 ≤ 9223372036854775808)
read_forward i bytes end at r e h = by (nat_le (next_multiple_of at i.align + i.size) end) refl e
  where
    by : (b : Bool) → nat_le (next_multiple_of at i.align + i.size) end ≡ b
        → (if b then Some (value_of i (integer i.order bytes (next_multiple_of at i.align) i.size), next_multiple_of at i.align + i.size) else None) ≡ Some r → (at ≤ r.1) × (r.1 ≤ 9223372036854775808)
    by true is e =
        let fits = leb-true (next_multiple_of at i.align + i.size) end is in
        let to : next_multiple_of at i.align + i.size ≡ r.1 = cc in
        (omega (arith, to), omega (arith, to, fits, h))
    by false is e = absurd (cc)

-- what is read of a number, and what is left behind it
pub record IsTaken (bytes : List ℕ) (end : ℕ) (ns : List HeaderNumber) (k : ℕ) (told made : HeaderNumbers) (at to : ℕ) : Type 0 where
  pub same : numbers_read bytes end (drop k ns) told at ≡ numbers_read bytes end (drop (k + 1) ns) made to
  pub readable : AreReadable (drop (k + 1) ns)
  pub forward : at ≤ to
  pub small : to ≤ 9223372036854775808

pub number_taken : (bytes : List ℕ) (end : ℕ) (ns : List HeaderNumber) (k : ℕ) (d : HeaderNumber) (told made : HeaderNumbers) (at : ℕ) (z w : ℤ) (to : ℕ) → k < length ns → AreReadable (drop k ns) → end ≤ 9223372036854775808
    → Some (z, to) ≡ integer_read (get_or ns k d).integer bytes end at → made ≡ with_number (get_or ns k d) w told → w ≡ z → IsTaken bytes end ns k told made at to
number_taken bytes end ns k d told made at z w to h readable small got is same =
    let n = get_or ns k d in
    let left = left_at ns k d h in
    let ends = read_forward n.integer bytes end at (z, to) (sym got) small in
    let left_readable : AreReadable (n ∷ drop (k + 1) ns) = subst AreReadable left readable in
    record {
      same =
          ap (λ xs. numbers_read bytes end xs told at) left
          ∙ ap (λ o. then_read (number_by n told o) (numbers_read bytes end (drop (k + 1) ns))) (sym got)
          ∙ ap (λ m. numbers_read bytes end (drop (k + 1) ns) m to) (sym (is ∙ ap (λ x. with_number n x told) same));
      readable = left_readable.1;
      forward = ends.0;
      small = ends.1;
    }
