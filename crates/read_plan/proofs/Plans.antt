-- Steps by which plans for contexts are made and read.
use Rattle.std.proofs.Common.{◌≡◌, ◌∙◌, ℕ, ◌+◌, ◌<◌, ◌≤◌, ◌^◌, drop, get_or, length, Bool, true, false, is_some, IfSome, List, [], ◌∷◌, ◌++◌, Option, Some, None, option_map, if◌then◌else◌, refl, ap, arith, add-one}
use Rattle.type_table.specs.Names.{same_name}
use Rattle.type_table.specs.Table.{Table, name_at}
use Rattle.type_table.specs.Types.{Text}
use Rattle.type_table.specs.declared.integer.Integer.{Integer}
use Rattle.type_table.specs.declared.meta.FieldMeta.{FieldMeta}
use Rattle.ctf_fields.specs.Leaves.{IsReadable}
use Rattle.ctf_fields.specs.Reading.{integer_type}
use Rattle.read_plan.specs.Contexts.{IsPlaced, context_plan, leaf_size, placed, placed_number, plans_of_first, with_leaf}
use Rattle.read_plan.specs.FixedSizes.{joined}
use Rattle.read_plan.specs.declared.context.PlacedNumber.{PlacedNumber}
use Rattle.read_plan.specs.declared.fixed.FixedSize.{FixedSize}
use Rattle.read_plan.proofs.Passing.{some_of, within}
use Rattle.read_plan.proofs.Taken.{left_at}

-- the plans with that of one more type
pub one_more : (t : Table) (n : ℕ) → plans_of_first t (n + 1) ≡ plans_of_first t n ++ context_plan t n ∷ []
unfolding plans_of_first
one_more t n = ap (plans_of_first t) (add-one n)

-- a number that is placed can be read where all bits of the context are there
pub placed_within : (bits at : ℕ) (o : Option PlacedNumber) → IsPlaced bits o → at + bits ≤ 2 ^ 63 → IfSome o (λ p. IsReadable p.integer × (at + p.offset ≤ 2 ^ 63))
placed_within bits at None h fits = tt
placed_within bits at (Some p) h fits = (h.0, omega (arith, h.1, fits))

-- ---- the first field of a name

-- how many bits a field takes that may be counted
abbrev pub bits_of : Option FixedSize → ℕ
bits_of None = 0
bits_of (Some s) = s.bits

-- whether it is a number is the same wherever it begins
same_number : (a b ty : ℕ) (o : Option Integer) → is_some (option_map {U = PlacedNumber} (λ i. record { offset = a; integer = i; ty = ty }) o) ≡ is_some (option_map {U = PlacedNumber} (λ i. record { offset = b; integer = i; ty = ty }) o)
same_number a b ty None = refl
same_number a b ty (Some i) = refl

same_tells : (t : Table) (text : Text) (fs : List FieldMeta) (a b : ℕ) → is_some (placed t text a fs) ≡ is_some (placed t text b fs)
same_tells t text [] a b = refl
same_tells t text (f ∷ fs) a b = by (same_name text (name_at t.names f.name)) (same_tells t text fs)
  where
    by : (c : Bool) → ((a b : ℕ) → is_some (placed t text a fs) ≡ is_some (placed t text b fs))
        → is_some (if c then placed_number t a f.ty else placed t text (a + bits_of (leaf_size t f.ty)) fs) ≡ is_some (if c then placed_number t b f.ty else placed t text (b + bits_of (leaf_size t f.ty)) fs)
    by true later = same_number a b f.ty (integer_type t f.ty)
    by false later = later (a + bits_of (leaf_size t f.ty)) (b + bits_of (leaf_size t f.ty))

-- it isn't the first field
tells_more : (t : Table) (text : Text) (f : FieldMeta) (fs : List FieldMeta) → same_name text (name_at t.names f.name) ≡ false → is_some (placed t text 0 (f ∷ fs)) ≡ is_some (placed t text 0 fs)
tells_more t text f fs e = ap (λ c. is_some (if c then placed_number t 0 f.ty else placed t text (0 + bits_of (leaf_size t f.ty)) fs)) e ∙ same_tells t text fs (0 + bits_of (leaf_size t f.ty)) 0

-- it isn't the one at this index
pub tells_next : (t : Table) (text : Text) (fs : List FieldMeta) (k : ℕ) (d : FieldMeta) → k < length fs → same_name text (name_at t.names (get_or fs k d).name) ≡ false → is_some (placed t text 0 (drop k fs)) ≡ is_some (placed t text 0 (drop (k + 1) fs))
tells_next t text fs k d h e = ap (λ l. is_some (placed t text 0 l)) (left_at fs k d h) ∙ tells_more t text (get_or fs k d) (drop (k + 1) fs) e

-- it is
pub tells_here : (t : Table) (text : Text) (f : FieldMeta) (fs : List FieldMeta) → same_name text (name_at t.names f.name) ≡ true → is_some (placed t text 0 (f ∷ fs)) ≡ is_some (integer_type t f.ty)
tells_here t text f fs e = ap (λ c. is_some (if c then placed_number t 0 f.ty else placed t text (0 + bits_of (leaf_size t f.ty)) fs)) e ∙ by (integer_type t f.ty)
  where
    by : (o : Option Integer) → is_some (option_map {U = PlacedNumber} (λ i. record { offset = 0; integer = i; ty = f.ty }) o) ≡ is_some o
    by None = refl
    by (Some i) = refl

-- one more field, and what it takes
pub record OneMore (t : Table) (done sum : FixedSize) (ty : ℕ) : Type 0 where
  pub size : FixedSize
  pub its : leaf_size t ty ≡ Some size
  pub bits : sum.bits ≡ done.bits + size.bits

pub one_leaf : (t : Table) (done sum : FixedSize) (ty : ℕ) → with_leaf t done ty ≡ Some sum → OneMore t done sum ty
one_leaf t done sum ty e =
    let one = some_of (joined done) (leaf_size t ty) sum e in
    let s : FixedSize = one.0 in
    record { size = s; its = one.1; bits = omega (arith, (within (done.bits + s.bits) _ sum one.2).0) }

-- those behind it begin after what it takes
pub placed_more : (t : Table) (text : Text) (done sum : FixedSize) (f : FieldMeta) (fs : List FieldMeta) → with_leaf t done f.ty ≡ Some sum → same_name text (name_at t.names f.name) ≡ false → placed t text done.bits (f ∷ fs) ≡ placed t text sum.bits fs
placed_more t text done sum f fs e other =
    let one = one_leaf t done sum f.ty e in
    by one.size one.its (omega (arith, one.bits))
  where
    by : (s : FixedSize) → leaf_size t f.ty ≡ Some s → done.bits + s.bits ≡ sum.bits → placed t text done.bits (f ∷ fs) ≡ placed t text sum.bits fs
    by s its bits =
        ap (λ c. if c then placed_number t done.bits f.ty else placed t text (done.bits + bits_of (leaf_size t f.ty)) fs) other
        ∙ ap (λ o. placed t text (done.bits + bits_of o) fs) its
        ∙ ap (λ n. placed t text n fs) bits
