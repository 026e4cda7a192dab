-- The field of a variant that is chosen (the choice by the first label that fits is this project's own).
use Rattle.std.specs.Prelude.{ℕ, ℤ, ◌&&◌, int_le, min, List, [], ◌∷◌, Option, Some, None, slice_get, if◌then◌else◌}
use Rattle.type_table.specs.Table.{Table}
use Rattle.type_table.specs.Types.{Text}
use Rattle.type_table.specs.declared.meta.FieldMeta.{FieldMeta}
use Rattle.type_table.specs.declared.meta.LabelMeta.{LabelMeta}
use Rattle.type_table.specs.declared.meta.TypeMeta.{TypeMeta}
use Rattle.type_table.specs.declared.meta.TypeMeta.TheVariants as meta
use Rattle.ctf_fields.specs.Fields.{or_else, same}

-- the first field of a name
abbrev pub first_named : List Text → ℕ → List FieldMeta → Option FieldMeta
first_named names name [] = None
first_named names name (f ∷ fs) = if same names name f.name then Some f else first_named names name fs

-- the smaller of two indices, where there are both (this project's own)
abbrev pub earlier : Option ℕ → Option ℕ → Option ℕ
earlier None b = b
earlier (Some a) None = Some a
earlier (Some a) (Some b) = Some (min a b)

-- the field that a label chooses for a value
abbrev pub by_label : List Text → ℤ → LabelMeta → List FieldMeta → Option FieldMeta
by_label names v label fs = if int_le label.low v && int_le v label.high then first_named names label.name fs else None

-- the first label whose range holds the value, and which names a field
abbrev pub by_labels : List Text → ℤ → List LabelMeta → List FieldMeta → Option FieldMeta
by_labels names v [] fs = None
by_labels names v (label ∷ labels) fs = or_else (by_label names v label fs) (by_labels names v labels fs)

abbrev pub labels_in : Option TypeMeta → List LabelMeta
labels_in (Some (meta.Enum base labels)) = labels
labels_in _ = []

-- the field of a variant that the tag's value and labels choose
abbrev pub chosen : Table → Option (ℤ × ℕ) → List FieldMeta → Option FieldMeta
chosen t None fs = None
chosen t (Some tag) fs = by_labels t.names tag.0 (labels_in (slice_get t.types tag.1)) fs
