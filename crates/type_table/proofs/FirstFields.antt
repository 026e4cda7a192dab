-- The first field of a name, once one field more is behind the others.
use Rattle.std.proofs.Common.{◌≡◌, ℕ, ◌+◌, ◌<◌, Bool, cond, nat_eq, List, [], ◌∷◌, ◌++◌, Some, length, position, take, get_or, arith}
use Rattle.std.specs.Option.{unwrap_or}
use Rattle.std.proofs.lemmas.Grind.{common_steps}
use Rattle.std.proofs.lemmas.List.Folds.{position_or_len_push}
use Rattle.std.proofs.lemmas.List.Sums.{prefix_len-le-length}
use Rattle.type_table.specs.declared.meta.FieldMeta.{FieldMeta}
use Rattle.type_table.specs.VariantFields.{first_of}

-- one item more: the first that passes stays the first, and else it may be the new one
first_behind : {A : Type 0} (p : A → Bool) (xs : List A) (x : A) → position p (xs ++ x ∷ []) ≡ cond (p x) (Some (unwrap_or (position p xs) (length xs))) (position p xs)
first_behind p xs x = grind (arith, common_steps, position_or_len_push p xs x, prefix_len-le-length)

-- one field more that is looked at: its name has it for the first, where it had none
pub one_more : (fs : List FieldMeta) (i name : ℕ) (d : FieldMeta) → i < length fs → first_of name (take (i + 1) fs) ≡ cond (nat_eq (get_or fs i d).name name) (Some (unwrap_or (first_of name (take i fs)) i)) (first_of name (take i fs))
one_more fs i name d lt = grind (arith, common_steps, first_behind (λ f. nat_eq f.name name) (take i fs) (get_or fs i d))
