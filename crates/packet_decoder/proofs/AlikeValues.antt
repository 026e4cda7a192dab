-- The values of a packet's fields are the same by two representations of one trace.
use Rattle.std.proofs.Common.{◌≡◌, ◌∙◌, ℕ, suc, ℤ, pos, ◌^◌, ◌==◌, ◌&&◌, true, List, [], ◌∷◌, length, Option, Some, None, if◌then◌else◌, refl, sym, ap, ap₂}
use Rattle.std.specs.Ordering.{int_eq}
use Rattle.type_table.specs.Table.{Table, IsSoundTable}
use Rattle.ctf_fields.specs.declared.field.Field.{Field, out-Field}
use Rattle.ctf_fields.specs.Fields.{number_of}
use Rattle.ctf_fields.proofs.Alike.{Alike, ints, texts, structs, choices, lists, AlikeItems, no_items, and_item, AlikeIf, AlikeNumbers}
use Rattle.packet_decoder.specs.Times.{timestamp_by, timestamp_in}
use Rattle.packet_decoder.specs.Values.{are_bytes, counter_by, counter_in, uuid_matches, id_in, is_byte, is_id, is_magic, magic_matches, below}
use Rattle.ctf_fields.proofs.SameTypes.{same_integer}
use Rattle.ctf_fields.proofs.AlikeFields.{number_alike}

module _ (t u : Table) where
  magic_by : (n m : Option (ℤ × ℕ)) → AlikeNumbers t u n m → is_magic n ≡ is_magic m
  magic_by None None h = refl
  magic_by None (Some m) h = absurd h
  magic_by (Some n) None h = absurd h
  magic_by (Some n) (Some m) h = ap (λ z. int_eq z (pos 0xc1fc1fc1)) h.0

  pub same_magic : (f g : Option Field) → AlikeIf t u f g → magic_matches f ≡ magic_matches g
  same_magic f g h = magic_by (number_of f) (number_of g) (number_alike t u f g h)

  byte_by : (b : ℕ) (n m : Option (ℤ × ℕ)) → AlikeNumbers t u n m → is_byte b n ≡ is_byte b m
  byte_by b None None h = refl
  byte_by b None (Some m) h = absurd h
  byte_by b (Some n) None h = absurd h
  byte_by b (Some n) (Some m) h = ap (λ z. int_eq z (pos b)) h.0

  same_bytes : (bytes : List ℕ) (xs ys : List Field) → AlikeItems t u xs ys → are_bytes bytes xs ≡ are_bytes bytes ys
  same_bytes [] xs ys no_items = refl
  same_bytes (b ∷ bytes) xs ys no_items = refl
  same_bytes [] xs ys (and_item x y xs2 ys2 h rest) = refl
  same_bytes (b ∷ bytes) xs ys (and_item x y xs2 ys2 h rest) = ap₂ (λ p q. p && q) (byte_by b (number_of (Some x)) (number_of (Some y)) (number_alike t u (Some x) (Some y) h)) (same_bytes bytes xs2 ys2 rest)

  pub same_length : (xs ys : List Field) → AlikeItems t u xs ys → length xs ≡ length ys
  same_length xs ys no_items = refl
  same_length xs ys (and_item x y xs2 ys2 h rest) = ap suc (same_length xs2 ys2 rest)

  same_id_in : (uuid : List ℕ) (f g : Field) → Alike t u f g → is_id uuid (out-Field f) ≡ is_id uuid (out-Field g)
  same_id_in uuid f g (ints f2 g2 a b z s e d) = ap (is_id uuid) e ∙ sym (ap (is_id uuid) d)
  same_id_in uuid f g (texts f2 g2 text e d) = ap (is_id uuid) e ∙ sym (ap (is_id uuid) d)
  same_id_in uuid f g (structs f2 g2 ms ns h e d) = ap (is_id uuid) e ∙ sym (ap (is_id uuid) d)
  same_id_in uuid f g (choices f2 g2 a b x y n h e d) = ap (is_id uuid) e ∙ sym (ap (is_id uuid) d)
  same_id_in uuid f g (lists f2 g2 a b xs ys s h e d) = ap (is_id uuid) e ∙ (ap₂ (λ n v. if n == 16 then v else true) (same_length xs ys h) (same_bytes uuid xs ys h) ∙ sym (ap (is_id uuid) d))

  pub same_id : (uuid : Option (List ℕ)) (f g : Option Field) → AlikeIf t u f g → uuid_matches uuid f ≡ uuid_matches uuid g
  same_id None f g h = refl
  same_id (Some uuid) None None h = refl
  same_id (Some uuid) None (Some g) h = absurd h
  same_id (Some uuid) (Some f) None h = absurd h
  same_id (Some uuid) (Some f) (Some g) h = same_id_in uuid f g h

  pub same_id_number : (n m : Option (ℤ × ℕ)) → AlikeNumbers t u n m → id_in n ≡ id_in m
  same_id_number None None h = refl
  same_id_number None (Some m) h = absurd h
  same_id_number (Some n) None h = absurd h
  same_id_number (Some n) (Some m) h = ap (below (2 ^ 64)) h.0

  module _ (st : IsSoundTable t) (su : IsSoundTable u) where
    pub same_counter : (n m : Option (ℤ × ℕ)) → AlikeNumbers t u n m → counter_in t n ≡ counter_in u m
    same_counter None None h = refl
    same_counter None (Some m) h = absurd h
    same_counter (Some n) None h = absurd h
    same_counter (Some n) (Some m) h = ap₂ counter_by (same_integer t u n.1 m.1 st su h.1) h.0

    pub same_stamp : (n m : Option (ℤ × ℕ)) → AlikeNumbers t u n m → timestamp_in t n ≡ timestamp_in u m
    same_stamp None None h = refl
    same_stamp None (Some m) h = absurd h
    same_stamp (Some n) None h = absurd h
    same_stamp (Some n) (Some m) h = ap₂ timestamp_by (same_integer t u n.1 m.1 st su h.1) h.0
