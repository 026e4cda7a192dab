-- The field of a variant is chosen among the labels that hold the tag's value.
use Rattle.std.proofs.Common.{◌≡◌, ℕ, ℤ, ◌<◌, Bool, true, false, cond, List, [], ◌∷◌, None, if◌then◌else◌, ap, ap₂, refl, sym, true≢false}
use Rattle.type_table.specs.Labels.{holding, holds}
use Rattle.type_table.specs.Table.{LabelNamesIn}
use Rattle.type_table.specs.Types.{Text}
use Rattle.type_table.specs.declared.meta.FieldMeta.{FieldMeta}
use Rattle.type_table.specs.declared.meta.LabelMeta.{LabelMeta}
use Rattle.ctf_fields.specs.Choice.{by_labels, first_named}
use Rattle.ctf_fields.specs.Fields.{or_else}

-- labels that don't hold the value are passed over
pub by_holding : (names : List Text) (v : ℤ) (ls : List LabelMeta) (fs : List FieldMeta) → by_labels names v ls fs ≡ by_labels names v (holding v ls) fs
by_holding names v [] fs = refl
by_holding names v (l ∷ ls) fs = by (holds v l) refl (by_holding names v ls fs)
  where
    by : (b : Bool) → holds v l ≡ b → by_labels names v ls fs ≡ by_labels names v (holding v ls) fs
        → or_else (if b then first_named names l.name fs else None) (by_labels names v ls fs) ≡ by_labels names v (cond b (l ∷ holding v ls) (holding v ls)) fs
    by true is rest = ap₂ or_else (sym (ap (λ (b : Bool). if b then first_named names l.name fs else None) is)) rest
    by false is rest = rest

-- the names of those labels are among the names of all
pub holding_names : (n : ℕ) (v : ℤ) (ls : List LabelMeta) → LabelNamesIn n ls → LabelNamesIn n (holding v ls)
holding_names n v [] within = tt
holding_names n v (l ∷ ls) within = by (holds v l) (holding_names n v ls within.1)
  where
    by : (b : Bool) → LabelNamesIn n (holding v ls) → LabelNamesIn n (cond b (l ∷ holding v ls) (holding v ls))
    by true rest = (within.0, rest)
    by false rest = rest

-- the first label's name is among the names where it holds the value, and those of the others are
pub holding_first : (n : ℕ) (v : ℤ) (l : LabelMeta) (ls : List LabelMeta) → LabelNamesIn n (holding v (l ∷ ls)) → (holds v l ≡ true → l.name < n) × LabelNamesIn n (holding v ls)
holding_first n v l ls within = by (holds v l) within
  where
    by : (b : Bool) → LabelNamesIn n (cond b (l ∷ holding v ls) (holding v ls)) → (b ≡ true → l.name < n) × LabelNamesIn n (holding v ls)
    by true within = (λ h. within.0, within.1)
    by false within = (λ h. absurd (true≢false (sym h)), within)
