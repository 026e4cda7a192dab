-- Where a field path may lead by the text of a type that stands further on (CTF 1.8, section 7.3.2). What is declared nowhere yet may be declared until there, or is refused there itself.
use Rattle.std.specs.Prelude.{Bool, true, false, not, ◌&&◌, List, [], ◌∷◌, reverse, find, Option, Some, None}
use Rattle.tsdl_parser.specs.declared.tree.TypeTree.{TypeTree}
use Rattle.tsdl_parser.specs.declared.tree.TypeTree.TheVariants as tree
use Rattle.tsdl_parser.specs.declared.tree.StructTree.{out-StructTree}
use Rattle.tsdl_parser.specs.declared.tree.StructBody.{StructBody, out-StructBody}
use Rattle.tsdl_parser.specs.declared.tree.FieldTree.{FieldTree, out-FieldTree}
use Rattle.tsdl_parser.specs.declared.tree.Dim.{Dim}
use Rattle.type_table.specs.declared.names.NameKind.TheVariants as kind
use Rattle.type_table.specs.Names.{same_name, spaced}
use Rattle.type_table.specs.Types.{Text, Ty}
use Rattle.type_scope.specs.declared.field_path.PathUse.{PathUse}
use Rattle.type_scope.specs.declared.field_path.PathUse.TheVariants.{Tag, Length}
use Rattle.type_scope.specs.Following.{follow, suits_if_any}
use Rattle.type_scope.specs.TypeScopes.{TypeScope, type_named}
use Rattle.type_scope.specs.Said.{is_signed}

abbrev pub no_dims : List Dim → Bool
no_dims [] = true
no_dims (d ∷ ds) = false

-- the last field of a name
abbrev pub last_field : Text → List FieldTree → Option FieldTree
last_field name fields = find (λ f. same_name name (out-FieldTree f).name) (reverse fields)

-- from a type that may have been declared before
abbrev pub from_known : PathUse → List Text → Option Ty → Bool
from_known path_use names None = true
from_known path_use names (Some ty) = suits_if_any path_use (follow (Some ty) names)

-- the field path ends at this type
abbrev pub ends_at : TypeScope → PathUse → TypeTree → Bool
ends_at k path_use (tree.Words words) = from_known path_use [] (type_named kind.Alias (spaced words) k)
ends_at k Tag (tree.Enum t) = true
ends_at k Length (tree.Integer attrs) = not (is_signed attrs)
ends_at k path_use (tree.Float attrs) = true
ends_at k path_use _ = false

-- a field that is no list
abbrev pub through_field : (TypeTree → Bool) → Option FieldTree → Bool
through_field leads None = false
through_field leads (Some f) = no_dims (out-FieldTree f).dims && leads (out-FieldTree f).ty

abbrev pub through_struct : (TypeTree → Bool) → (Option Ty → Bool) → TypeScope → Text → Option Text → Option StructBody → Bool
through_struct leads goes_on k name known (Some body) = through_field leads (last_field name (out-StructBody body).fields)
through_struct leads goes_on k name (Some known) None = goes_on (type_named kind.Struct known k)
through_struct leads goes_on k name None None = true

-- the field path goes on by this name, and then leads on from a text or from a type that was declared before
abbrev pub goes_through : (TypeTree → Bool) → (Option Ty → Bool) → TypeScope → Text → TypeTree → Bool
goes_through leads goes_on k name (tree.Struct t) = through_struct leads goes_on k name (out-StructTree t).name (out-StructTree t).body
goes_through leads goes_on k name (tree.Words words) = goes_on (type_named kind.Alias (spaced words) k)
goes_through leads goes_on k name (tree.Float attrs) = true
goes_through leads goes_on k name _ = false

-- a field path of these names from a type on
abbrev pub may_lead : TypeScope → PathUse → List Text → TypeTree → Bool
may_lead k path_use [] t = ends_at k path_use t
may_lead k path_use (name ∷ names) t = goes_through (may_lead k path_use names) (from_known path_use (name ∷ names)) k name t
