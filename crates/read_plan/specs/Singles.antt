-- Headers of events that are one number alone (numbers and structures are those of CTF 1.8, section 4; that such headers are told apart is this project's own).
use Rattle.std.specs.Prelude.{◌≡◌, ℕ, ℤ, pos, ◌≤◌, ◌%◌, List, [], ◌∷◌, Option, Some, None, if◌then◌else◌}
use Rattle.std.specs.Int.{next_multiple_of}
use Rattle.std.specs.Ordering.{int_eq}
use Rattle.ctf_fields.specs.Leaves.{IsReadable, integer_read}
use Rattle.read_plan.specs.declared.header.HeaderNumber.{HeaderNumber}
use Rattle.read_plan.specs.declared.header.HeaderOption.{HeaderOption}
use Rattle.read_plan.specs.declared.header.HeaderPlan.{HeaderPlan}
use Rattle.read_plan.specs.declared.single.SingleNumber.{SingleNumber}

-- the only one of a structure's numbers
abbrev pub only_number : ℕ → List HeaderNumber → Option SingleNumber
only_number align (n ∷ []) = Some (record { align = align; number = n })
only_number align _ = None

-- the only one, where no structure stands behind it
abbrev pub only_by : ℕ → List HeaderNumber → Option (List HeaderOption) → Option SingleNumber
only_by align ns None = only_number align ns
only_by align ns (Some os) = None

-- the number that a header is, where it has nothing else
abbrev pub single_number : HeaderPlan → Option SingleNumber
single_number plan = only_by plan.first.align plan.first.numbers plan.options

-- the value of such a header at a bit, and the bit after it
abbrev pub single_read : List ℕ → ℕ → SingleNumber → ℕ → Option (ℤ × ℕ)
single_read bytes end s at = integer_read s.number.integer bytes end (next_multiple_of at s.align)

-- the bit after what is read, where it has this value
abbrev pub end_of : ℕ → Option (ℤ × ℕ) → Option ℕ
end_of value None = None
end_of value (Some r) = if int_eq r.0 (pos value) then Some r.1 else None

-- an alignment that divides 65536, and a number that can be read
pub record IsReadableSingle (s : SingleNumber) : Type 0 where
  pub align : 1 ≤ s.align
  pub within : 65536 % s.align ≡ 0
  pub number : IsReadable s.number.integer
