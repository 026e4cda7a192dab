-- The values of an enumeration's labels (CTF 1.8, section 4.1.8).
use Rattle.std.specs.Prelude.{ℤ, pos, ◌+ℤ◌, ◌&&◌, int_le, if◌then◌else◌, List, [], ◌∷◌, ◌++◌, Option, Some, None, option_and_then, unwrap_or, neg_ℤ}
use Rattle.tsdl_parser.specs.declared.tree.Label.{Label}
use Rattle.type_table.specs.Types.{Label as Labelled}

abbrev pub LOWEST : ℤ
LOWEST = neg_ℤ (pos 9223372036854775808)

abbrev pub HIGHEST : ℤ
HIGHEST = pos 18446744073709551615

-- the values from the first on, or from where the label before left off; none where they fall or lie out of range
abbrev pub label_values : ℤ → Label → Option (ℤ × ℤ)
label_values next label = in_range (unwrap_or label.low next) (unwrap_or label.high (unwrap_or label.low next))
  where
    in_range : ℤ → ℤ → Option (ℤ × ℤ)
    in_range low high = if int_le LOWEST low && (int_le low high && int_le high HIGHEST) then Some (low, high) else None

-- labels with their values, after those before; none where one breaks its rule
abbrev pub labels_from : ℤ → List Labelled → List Label → Option (List Labelled)
labels_from next done [] = Some done
labels_from next done (l ∷ ls) = option_and_then (λ v. labels_from (v.1 +ℤ pos 1) (done ++ record { name = l.name; low = v.0; high = v.1 } ∷ []) ls) (label_values next l)

abbrev pub labels_said : List Label → Option (List Labelled)
labels_said labels = labels_from (pos 0) [] labels
