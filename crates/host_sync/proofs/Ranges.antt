-- What a decoded event's fields are found as lies in the ranges that a line of an event list has.
use Rattle.std.proofs.Common.{◌≡◌, ℕ, ℤ, pos, negsuc, ◌<◌, ◌≤◌, ◌^◌, zero, suc, Bool, true, false, if◌then◌else◌, List, [], ◌∷◌, length, map, take, Option, Some, None, refl, subst, sym, arith, FitsSigned, lit<}
use Rattle.std.specs.Prelude.{◌&&◌, nat_lt, nat_le, int_le, neg_ℤ, cond, option_map, not, ◌+◌, ◌*◌}
use Rattle.std.specs.Int.{w32, w64}
use Rattle.std.specs.List.{AllByRecursion, prefix_len}
use Rattle.std.proofs.lemmas.Bool.{ltb-true}
use Rattle.std.proofs.lemmas.Int.{ints}
use Rattle.type_table.specs.Table.{Table}
use Rattle.type_table.specs.Types.{Text}
use Rattle.type_table.specs.declared.integer.Integer.{Integer}
use Rattle.trace_types.specs.Comms.{IsName}
use Rattle.trace_types.specs.Padding.{name_in}
use Rattle.ctf_fields.specs.declared.field.Field.{Field, out-Field}
use Rattle.ctf_fields.specs.declared.field.Field.TheOpen.{Field-F}
use Rattle.ctf_fields.specs.declared.field.Member.{Member}
use Rattle.ctf_fields.specs.Fields.{number_of}
use Rattle.ctf_fields.specs.Named.{first_named}
use Rattle.ctf_fields.specs.Reading.{integer_type}
use Rattle.ctf_fields.specs.Values.{below, below_if_any}
use Rattle.kernel_layout.specs.Needed.{address, address_by, address_in, and_then, between, comm, comm_in, followed, is_byte, joined, list_address, lone_address, name_by, byte_of}

-- what is done with something that is there was done with it
pub found : {A B : Type 0} (x : Option A) (f : A → Option B) (b : B) → and_then x f ≡ Some b → (a : A) × (x ≡ Some a) × (f a ≡ Some b)
found (Some a) f b e = (a, refl, e)
found None f b e = absurd (cc)

abbrev some : {A : Type 0} → A → Option A
some a = Some a

pub from_some : {A : Type 0} (x y : A) → some x ≡ some y → x ≡ y
from_some x y e = cc

pub mapped : {A B : Type 0} (f : A → B) (x : Option A) (b : B) → option_map f x ≡ Some b → (a : A) × (x ≡ Some a) × (b ≡ f a)
mapped f (Some a) b e = (a, refl, sym (from_some (f a) b e))
mapped f None b e = absurd (cc)

-- ---- numbers

below_lies : (limit : ℕ) (z : ℤ) (n : ℕ) → below limit z ≡ Some n → n < limit
below_lies limit (pos m) n e = by (nat_lt m limit) refl e
  where
    by : (b : Bool) → nat_lt m limit ≡ b → (if b then Some m else None) ≡ Some n → n < limit
    by true is e = let same : m ≡ n = from_some m n e in omega (arith, same, ltb-true m limit is)
    by false is e = absurd (cc)
below_lies limit (negsuc m) n e = absurd (cc)

pub lies : (limit : ℕ) (o : Option ℤ) (n : ℕ) → below_if_any limit o ≡ Some n → n < limit
lies limit (Some z) n e = below_lies limit z n e
lies limit None n e = absurd (cc)

pub lies_between : (low high : ℤ) (o : Option ℤ) (z : ℤ) → between low high o ≡ Some z → (int_le low z ≡ true) × (int_le z high ≡ true)
lies_between low high (Some y) z e = by (int_le low y) (int_le y high) refl refl e
  where
    by : (a b : Bool) → int_le low y ≡ a → int_le y high ≡ b → (if a && b then Some y else None) ≡ Some z → (int_le low z ≡ true) × (int_le z high ≡ true)
    by true true l h e = let same : y ≡ z = from_some y z e in (subst (λ v. int_le low v ≡ true) same l, subst (λ v. int_le v high ≡ true) same h)
    by true false l h e = absurd (cc)
    by false b l h e = absurd (cc)
lies_between low high None z e = absurd (cc)

pub is_priority : (z : ℤ) → int_le (neg_ℤ (pos 2147483648)) z ≡ true → int_le z (pos 2147483647) ≡ true → FitsSigned w32 z
is_priority z l h = grind (arith, ints)

pub is_state : (z : ℤ) → int_le (neg_ℤ (pos 9223372036854775808)) z ≡ true → int_le z (pos 9223372036854775807) ≡ true → FitsSigned w64 z
is_state z l h = grind (arith, ints)

-- ---- names of threads

one-add : (n : ℕ) → 1 + n ≡ suc n
one-add n = omega arith

all_name : (bs : List ℕ) → AllByRecursion (λ b. 0 < b) (name_in bs)
all_name [] = tt
all_name (b ∷ bs) = by (nat_lt 0 b) refl (all_name bs)
  where
    by : (k : Bool) → nat_lt 0 b ≡ k → AllByRecursion (λ b. 0 < b) (name_in bs) → AllByRecursion (λ b. 0 < b) (take (cond k (1 + prefix_len (λ b. nat_lt 0 b) bs) 0) (b ∷ bs))
    by true h more = rw one-add (ltb-true 0 b h, more)
    by false h more = tt

front : (n : ℕ) (xs : List ℕ) → AllByRecursion (λ b. 0 < b) xs → (length (take n xs) ≤ n) × AllByRecursion (λ b. 0 < b) (take n xs)
front zero xs h = (omega arith, tt)
front (suc n) [] h = (omega arith, tt)
front (suc n) (x ∷ xs) h = let rest = front n xs h.1 in (omega (arith, rest.0), (h.0, rest.1))

cut : (bytes c : List ℕ) → take 15 (name_in bytes) ≡ c → AllByRecursion (λ b. b < 256) c → IsName c
cut bytes c e are = let h = front 15 (name_in bytes) (all_name bytes) in record {
  short = subst (λ l. length l ≤ 15) e h.0;
  bytes = are;
  no_zero = subst (AllByRecursion (λ b. 0 < b)) e h.1;
}

named_by : (t : Table) (f : Field-F Field Member) (c : List ℕ) → name_by t f ≡ Some c → AllByRecursion (λ b. b < 256) c → IsName c
named_by t (Field-F.Text bytes) c e are = cut bytes c (from_some _ c e) are
named_by t (Field-F.List item fs) c e are = by (is_byte (integer_type t item)) e
  where
    by : (b : Bool) → (if b then Some (take 15 (name_in (map byte_of fs))) else None) ≡ Some c → IsName c
    by true e = cut (map byte_of fs) c (from_some _ c e) are
    by false e = absurd (cc)
named_by t (Field-F.Int ty value) c e are = absurd (cc)
named_by t (Field-F.Struct members) c e are = absurd (cc)
named_by t (Field-F.Choice name field) c e are = absurd (cc)

pub is_name : (t : Table) (f : Field) (name : Text) (c : List ℕ) → comm t f name ≡ Some c → AllByRecursion (λ b. b < 256) c → IsName c
is_name t f name c e are = by (first_named t.names name (Some f)) e
  where
    by : (o : Option Field) → comm_in t o ≡ Some c → IsName c
    by (Some g) e = named_by t (out-Field g) c e are
    by None e = absurd (cc)

-- ---- addresses

follows_by : (w a : ℕ) → (if nat_lt w (2 ^ 128) then Some w else None) ≡ Some a → a < 2 ^ 128
follows_by w a e = by (nat_lt w (2 ^ 128)) refl e
  where
    by : (b : Bool) → nat_lt w (2 ^ 128) ≡ b → (if b then Some w else None) ≡ Some a → a < 2 ^ 128
    by true is e = subst (λ n. n < 2 ^ 128) (from_some w a e) (ltb-true w (2 ^ 128) is)
    by false is e = absurd (cc)

follows : (size v : ℕ) (n : Option (ℤ × ℕ)) (a : ℕ) → followed size v n ≡ Some a → a < 2 ^ 128
follows size v None a e = absurd (cc)
follows size v (Some n) a e = let d = found (below (2 ^ size) n.0) _ a e in follows_by (v * 2 ^ size + d.0) a d.2

joins : (size v : ℕ) (fs : List Field) (a : ℕ) → v < 2 ^ 128 → joined size v fs ≡ Some a → a < 2 ^ 128
joins size v [] a h e = subst (λ n. n < 2 ^ 128) (from_some v a e) h
joins size v (f ∷ fs) a h e = let w = found (followed size v (number_of (Some f))) _ a e in joins size w.0 fs a (follows size v (number_of (Some f)) w.0 w.1) w.2

list_lies : (i : Option Integer) (fs : List Field) (a : ℕ) → list_address i fs ≡ Some a → a < 2 ^ 128
list_lies None fs a e = absurd (cc)
list_lies (Some i) fs a e = by (not i.signed && nat_le (i.size * length fs) 128) e
  where
    by : (b : Bool) → (if b then joined i.size 0 fs else None) ≡ Some a → a < 2 ^ 128
    by true e = joins i.size 0 fs a (lit< tt) e
    by false e = absurd (cc)

lone_lies : (i : Option Integer) (z : ℤ) (a : ℕ) → lone_address i z ≡ Some a → a < 2 ^ 128
lone_lies None z a e = absurd (cc)
lone_lies (Some i) z a e = by i.signed e
  where
    by : (b : Bool) → (if b then None else below (2 ^ 64) z) ≡ Some a → a < 2 ^ 128
    by true e = absurd (cc)
    by false e = let h = below_lies (2 ^ 64) z a e in omega (arith, h)

address_lies : (t : Table) (f : Field-F Field Member) (a : ℕ) → address_by t f ≡ Some a → a < 2 ^ 128
address_lies t (Field-F.Int ty z) a e = lone_lies (integer_type t ty) z a e
address_lies t (Field-F.List item fs) a e = list_lies (integer_type t item) fs a e
address_lies t (Field-F.Text bytes) a e = absurd (cc)
address_lies t (Field-F.Struct members) a e = absurd (cc)
address_lies t (Field-F.Choice name field) a e = absurd (cc)

pub is_address : (t : Table) (f : Field) (name : Text) (a : ℕ) → address t f name ≡ Some a → a < 2 ^ 128
is_address t f name a e = by (first_named t.names name (Some f)) e
  where
    by : (o : Option Field) → address_in t o ≡ Some a → a < 2 ^ 128
    by (Some g) e = address_lies t (out-Field g) a e
    by None e = absurd (cc)
