-- Headers of events that are one number alone, and what their plan tells of them.
use Rattle.std.proofs.Common.{◌≡◌, ◌∙◌, ℕ, ℤ, pos, Bool, true, false, if◌then◌else◌, List, [], ◌∷◌, Option, None, Some, Ok, refl, sym, ap, subst}
use Rattle.std.proofs.lemmas.Bool.Decides.{Decides-int_eq}
use Rattle.std.specs.Int.{next_multiple_of}
use Rattle.std.specs.Ordering.{int_eq}
use Rattle.ctf_fields.specs.Leaves.{integer_read}
use Rattle.ctf_fields.specs.Reading.{then_read}
use Rattle.read_plan.specs.Headers.{as_answer, behind_row, header_read, no_numbers, number_by, numbers_read, with_number}
use Rattle.read_plan.specs.Singles.{end_of, only_by, single_number, single_read}
use Rattle.read_plan.specs.declared.header.HeaderNumber.{HeaderNumber}
use Rattle.read_plan.specs.declared.header.HeaderOption.{HeaderOption}
use Rattle.read_plan.specs.declared.header.HeaderPlan.{HeaderPlan}
use Rattle.read_plan.specs.declared.single.SingleNumber.{SingleNumber}

-- a header of one number tells it, and ends behind it
of_only : (bytes : List ℕ) (end align : ℕ) (ns : List HeaderNumber) (os : Option (List HeaderOption)) (s : SingleNumber) (at : ℕ) (z : ℤ) (to : ℕ) → only_by align ns os ≡ Some s → single_read bytes end s at ≡ Some (z, to)
    → as_answer (then_read (numbers_read bytes end ns no_numbers (next_multiple_of at align)) (behind_row bytes end os)) ≡ Ok (with_number s.number z no_numbers, to)
of_only bytes end align [] None s at z to is read = absurd (cc)
of_only bytes end align (n ∷ []) None s at z to is read =
    let same : Path SingleNumber (record { align = align; number = n }) s = cc in
    let there : integer_read n.integer bytes end (next_multiple_of at align) ≡ Some (z, to) = subst (λ (u : SingleNumber). single_read bytes end u at ≡ Some (z, to)) (sym same) read in
    ap (λ o. as_answer (then_read (then_read (number_by n no_numbers o) (numbers_read bytes end [])) (behind_row bytes end None))) there ∙ ap (λ (u : SingleNumber). Ok (with_number u.number z no_numbers, to)) same
of_only bytes end align (n ∷ m ∷ ns) None s at z to is read = absurd (cc)
of_only bytes end align ns (Some os) s at z to is read = absurd (cc)

pub single_tells : (bytes : List ℕ) (end : ℕ) (plan : HeaderPlan) (s : SingleNumber) (at : ℕ) (z : ℤ) (to : ℕ) → single_number plan ≡ Some s → single_read bytes end s at ≡ Some (z, to)
    → Ok (with_number s.number z no_numbers, to) ≡ as_answer (header_read bytes end plan at)
single_tells bytes end plan s at z to is read = sym (of_only bytes end plan.first.align plan.first.numbers plan.options s at z to is read)

-- a header of this value that ends here was read so
pub ends_at : (value : ℕ) (x : Option (ℤ × ℕ)) (next : ℕ) → end_of value x ≡ Some next → x ≡ Some (pos value, next)
ends_at value None next is = absurd (cc)
ends_at value (Some r) next is = by (int_eq r.0 (pos value)) refl is
  where
    by : (b : Bool) → int_eq r.0 (pos value) ≡ b → (if b then Some r.1 else None) ≡ Some next → Some r ≡ Some (pos value, next)
    by true same is =
        let to : r.1 ≡ next = cc in
        ap (λ z. Some (z, r.1)) ((Decides-int_eq r.0 (pos value)).0 same) ∙ ap (λ n. Some (pos value, n)) to
    by false same is = absurd (cc)
