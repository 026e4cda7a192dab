-- Fields by their names, and the nearest of a name.
use Rattle.std.proofs.Common.{◌≡◌, ◌∙◌, ◌++◌, List, [], ◌∷◌, Option, Some, None, Bool, true, false, if◌then◌else◌, ℕ, ◌<◌, ◌+◌, ◌-◌, length, take, get_or, ap, refl, sym, arith}
use Rattle.std.proofs.lemmas.List.{take_more}
use Rattle.std.specs.Cmp.Lexicographic.{bytes_decides}
use Rattle.type_table.specs.Names.{bare}
use Rattle.type_table.specs.Table.{name_at}
use Rattle.type_table.specs.Types.{Text}
use Rattle.ctf_fields.specs.Fields.{nearest, or_else, same}
use Rattle.ctf_fields.specs.declared.field.Field.{Field}
use Rattle.ctf_fields.specs.declared.field.Member.{Member}

-- a name counts as itself
pub one_name : (names : List Text) (a b : ℕ) → a ≡ b → same names a b ≡ true
one_name names a b e = ap (λ n. same names a n) (sym e) ∙ (bytes_decides (bare (name_at names a)) (bare (name_at names a))).1 refl

or_by : (b : Bool) (f : Field) (o p : Option Field) → or_else (if b then Some f else o) p ≡ (if b then Some f else or_else o p)
or_by true f o p = refl
or_by false f o p = refl

nearest_push : (names : List Text) (w : ℕ) (ms : List Member) (m : Member) → nearest names w (ms ++ m ∷ []) ≡ (if same names w m.name then Some m.field else nearest names w ms)
nearest_push names w [] m = by (same names w m.name)
  where
    by : (b : Bool) → or_else None (if b then Some m.field else None) ≡ (if b then Some m.field else None)
    by true = refl
    by false = refl
nearest_push names w (n ∷ ms) m =
    ap (λ o. or_else o (if same names w n.name then Some n.field else None)) (nearest_push names w ms m)
    ∙ or_by (same names w m.name) m.field (nearest names w ms) (if same names w n.name then Some n.field else None)

-- all but so many at the end, of which at least one is left
split_last : (ms : List Member) (behind : ℕ) (m : Member) → behind < length ms → m ≡ get_or ms (length ms - 1 - behind) m → take (length ms - behind) ms ≡ take (length ms - 1 - behind) ms ++ m ∷ []
split_last ms behind m h at =
    let n : length ms - behind ≡ length ms - 1 - behind + 1 = omega (arith, h) in
    ap (λ k. take k ms) n ∙ take_more ms (length ms - 1 - behind) m (omega (arith, h)) ∙ ap (λ x. take (length ms - 1 - behind) ms ++ x ∷ []) (sym at)

pub nearest_here : (names : List Text) (w : ℕ) (ms : List Member) (behind : ℕ) (m : Member) (is : Bool) → behind < length ms → m ≡ get_or ms (length ms - 1 - behind) m → is ≡ same names w m.name → is ≡ true
    → nearest names w (take (length ms - behind) ms) ≡ Some m.field
nearest_here names w ms behind m is h at e holds =
    let before = take (length ms - 1 - behind) ms in
    ap (nearest names w) (split_last ms behind m h at) ∙ (nearest_push names w before m ∙ ap (λ b. if b then Some m.field else nearest names w before) (sym e ∙ holds))

pub nearest_before : (names : List Text) (w : ℕ) (ms : List Member) (behind : ℕ) (m : Member) (is : Bool) → behind < length ms → m ≡ get_or ms (length ms - 1 - behind) m → is ≡ same names w m.name → is ≡ false
    → nearest names w (take (length ms - (behind + 1)) ms) ≡ nearest names w (take (length ms - behind) ms)
nearest_before names w ms behind m is h at e fails =
    let before = take (length ms - 1 - behind) ms in
    let n : length ms - (behind + 1) ≡ length ms - 1 - behind = omega (arith, h) in
    ap (λ k. nearest names w (take k ms)) n
    ∙ sym (ap (nearest names w) (split_last ms behind m h at) ∙ (nearest_push names w before m ∙ ap (λ b. if b then Some m.field else nearest names w before) (sym e ∙ fails)))
