-- The labels of an enumeration, and those of them that hold a value (CTF 1.8, section 4.1.8; that labels rise is this project's own).
use Rattle.std.specs.Prelude.{◌≡◌, ℕ, ℤ, Bool, true, false, ◌&&◌, int_le, int_lt, List, [], ◌∷◌, Option, Some, None, filter}
use Rattle.std.specs.List.Sorted.{IsPartitionPoint}
use Rattle.type_table.specs.declared.meta.LabelMeta.{LabelMeta}

-- a label's range holds a value (CTF 1.8, section 4.1.8)
abbrev pub holds : ℤ → LabelMeta → Bool
holds v l = int_le l.low v && int_le v l.high

-- the labels whose ranges hold a value, in order (this project's own)
abbrev pub holding : ℤ → List LabelMeta → List LabelMeta
holding v ls = filter (holds v) ls

-- a label begins past a number, if there is one (this project's own)
abbrev pub begins_past : Option ℤ → LabelMeta → Bool
begins_past None l = true
begins_past (Some end) l = int_lt end l.low

-- each label begins past the end of the one before it, the first past a number, if there is one, and at most where it ends itself (this project's own)
abbrev pub rise_past : Option ℤ → List LabelMeta → Bool
rise_past past [] = true
rise_past past (l ∷ ls) = begins_past past l && (int_le l.low l.high && rise_past (Some l.high) ls)

-- each label ends before the next one begins, and begins at most where it ends (this project's own)
abbrev pub Rise : List LabelMeta → Type 0
Rise ls = rise_past None ls ≡ true

-- so many labels, the first ones, end below a value, and no other one does (this project's own)
abbrev pub EndBelow : ℤ → List LabelMeta → ℕ → Type 0
EndBelow v ls n = IsPartitionPoint (λ l. int_lt l.high v ≡ true) (λ l. int_lt l.high v ≡ false) ls n
