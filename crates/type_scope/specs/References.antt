-- Where the field path of a tag or a length leads (CTF 1.8, section 7.3.2).
use Rattle.std.specs.Prelude.{ℕ, Bool, true, ◌&&◌, List, [], ◌∷◌, ◌++◌, reverse, Option, Some, None, nat_eq, nat_lt, if◌then◌else◌}
use Rattle.tsdl_parser.specs.declared.tree.TypeTree.{TypeTree}
use Rattle.type_table.specs.declared.cause.MetaItemCause.TheVariants.{BadReference}
use Rattle.type_table.specs.declared.meta.ScopeName.{ScopeName}
use Rattle.type_table.specs.declared.meta.ScopeName.TheVariants.{PacketHeader, PacketContext, EventHeader, StreamContext, EventContext, EventFields}
use Rattle.type_scope.specs.declared.field_path.Resolution.{Resolution}
use Rattle.type_scope.specs.declared.field_path.Resolution.TheVariants.{Resolved, Invalid, Deferred}
use Rattle.type_scope.specs.declared.field_path.PathUse.{PathUse}
use Rattle.type_table.specs.Names.{names_said, scope_said}
use Rattle.type_table.specs.Table.{field_path_by}
use Rattle.type_table.specs.Types.{Text, FieldPath, Ty}
use Rattle.type_scope.specs.Ahead.{may_lead}
use Rattle.type_scope.specs.BlockContexts.{BlockContext}
use Rattle.type_table.specs.FieldPaths as walk
pub use Rattle.type_scope.specs.Following.{is_inner}
use Rattle.type_scope.specs.Following.{follow, suits_if_any, types}
use Rattle.type_scope.specs.TypeScopes.{Frame, TypeScope, DeferredPath, Scopes, Step, Good, pure, breaks, with_deferred}
use Rattle.type_table.specs.PerScope.{of_scope}

-- the nearest field of a name, which is the last
abbrev pub nearest : Text → List (Text × Ty) → Option Ty
nearest name fs = walk.nearest types name fs

-- the field of this name of a structure that is being read
abbrev pub in_frame : Text → Frame → Option Ty
in_frame name f = walk.in_open types name f

-- the first name is looked for in the innermost structure, and then outward
abbrev pub from_inside : List Frame → Text → List Text → Option Ty
from_inside frames name names = walk.from_here types frames (name ∷ names)

-- in a scope that is being read the field path begins at its outermost structure, and may go through those that are being read
abbrev pub from_outside : List Frame → List Text → Option Ty
from_outside frames names = walk.from_outside types frames names

-- the order in which the scopes are read
abbrev pub rank : ScopeName → ℕ
rank PacketHeader = 0
rank PacketContext = 1
rank EventHeader = 2
rank StreamContext = 3
rank EventContext = 4
rank EventFields = 5

abbrev pub verdict : Bool → Resolution
verdict holds = if holds then Resolved else Invalid

-- by the text of its entry the field path may lead into a scope; then the block's end decides
abbrev pub foreseen : TypeScope → PathUse → List Text → Option TypeTree → Resolution
foreseen k path_use names None = Invalid
foreseen k path_use names (Some t) = if may_lead k path_use names t then Deferred else Invalid

-- into a scope that is read before; where its entry is still to come, the entry's text is looked at
abbrev pub resolve_earlier : BlockContext → TypeScope → PathUse → ScopeName → List Text → Option Ty → Resolution
resolve_earlier a k path_use scope names (Some ty) = verdict (suits_if_any path_use (follow (Some ty) names))
resolve_earlier a k path_use scope names None = foreseen k path_use names (of_scope scope a.written)

abbrev pub resolve_scope : BlockContext → TypeScope → PathUse → ScopeName → List Text → Option ScopeName → Resolution
resolve_scope a k path_use scope names None = Invalid
resolve_scope a k path_use scope names (Some reading) =
    if nat_eq (rank scope) (rank reading) then verdict (suits_if_any path_use (from_outside (reverse k.frames) names))
    else if nat_lt (rank scope) (rank reading) then resolve_earlier a k path_use scope names (of_scope scope k.scopes)
    else Invalid

abbrev pub resolve_here : List Frame → PathUse → List Text → Resolution
resolve_here frames path_use [] = Invalid
resolve_here frames path_use (name ∷ names) = verdict (suits_if_any path_use (from_inside frames name names))

abbrev pub resolve_from : BlockContext → TypeScope → PathUse → Option ScopeName → List Text → Resolution
resolve_from a k path_use None names = resolve_here k.frames path_use names
resolve_from a k path_use (Some scope) names = resolve_scope a k path_use scope names a.reading

abbrev pub settled : Resolution → PathUse → Option ScopeName → List Text → Step (Unit {0})
settled Resolved path_use scope names = pure tt
settled Deferred path_use (Some scope) names = λ k. Good (tt, with_deferred (k.deferred ++ record { path_use = path_use; scope = scope; names = names } ∷ []) k)
settled _ path_use scope names = breaks BadReference

-- the field path that words are; none where there is none
abbrev pub field_path_said : List Text → Option FieldPath
field_path_said words = field_path_by (scope_said words) (names_said words)

-- a field path of these words from here
abbrev pub check_path : BlockContext → PathUse → List Text → Step (Unit {0})
check_path a path_use words = λ k. settled (resolve_from a k path_use (scope_said words) (names_said words)) path_use (scope_said words) (names_said words) k

abbrev pub leads : Scopes → DeferredPath → Bool
leads scopes l = suits_if_any l.path_use (follow (of_scope l.scope scopes) l.names)

-- every field path that waited leads to what it may lead to
abbrev pub all_lead : Scopes → List DeferredPath → Bool
all_lead scopes [] = true
all_lead scopes (l ∷ ls) = leads scopes l && all_lead scopes ls
