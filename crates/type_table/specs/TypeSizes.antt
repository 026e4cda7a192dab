-- What is known of each type beside its parts: alignment, depth, number of nodes, whether it may take no bit, and whether field paths lead from it.
use Rattle.std.specs.Prelude.{◌≡◌, ℕ, suc, ◌+◌, max, Bool, true, false, ◌&&◌, ◌||◌, nat_eq, nat_le, List, [], ◌∷◌, get_or}
use Rattle.type_table.specs.declared.meta.TypeMeta.{TypeMeta}
use Rattle.type_table.specs.declared.meta.TypeMeta.TheVariants as meta
use Rattle.type_table.specs.declared.meta.FieldMeta.{FieldMeta}
use Rattle.type_table.specs.declared.type_size.Inside.{Inside}
use Rattle.type_table.specs.declared.type_size.TypeSize.{TypeSize}
use Rattle.type_table.specs.declared.type_size.Sum.{Sum}
use Rattle.type_table.specs.Types.{Ty, alignment, depth, nodes, least_bits, has_paths, MAX_TYPE_DEPTH, MAX_NODES}

abbrev pub type_size_of : Ty → TypeSize
type_size_of ty = record { align = alignment ty; depth = depth ty; nodes = nodes ty; may_be_empty = nat_eq (least_bits ty) 0; has_paths = has_paths ty }

abbrev pub type_size_at : List TypeSize → ℕ → TypeSize
type_size_at type_sizes n = get_or type_sizes n (record { align = 0; depth = 0; nodes = 0; may_be_empty = false; has_paths = false })

abbrev pub no_sum : Sum
no_sum = record { align = 1; depth = 0; nodes = 0; all_empty = true; any_empty = false; any_paths = false }

-- fields together, one after the other
abbrev pub summed : Sum → TypeSize → Sum
summed s f = record { align = max s.align f.align; depth = max s.depth f.depth; nodes = s.nodes + f.nodes; all_empty = s.all_empty && f.may_be_empty; any_empty = s.any_empty || f.may_be_empty; any_paths = s.any_paths || f.has_paths }

abbrev pub summed_field : List TypeSize → Sum → FieldMeta → Sum
summed_field type_sizes s f = summed s (type_size_at type_sizes f.ty)

abbrev pub sum_from : List TypeSize → Sum → List FieldMeta → Sum
sum_from type_sizes s [] = s
sum_from type_sizes s (f ∷ fs) = sum_from type_sizes (summed_field type_sizes s f) fs

abbrev pub sum_of : List TypeSize → List FieldMeta → Sum
sum_of type_sizes fields = sum_from type_sizes no_sum fields

abbrev pub is_none : List FieldMeta → Bool
is_none [] = true
is_none (f ∷ fs) = false

abbrev pub leaf : ℕ → Bool → TypeSize
leaf align empty = record { align = align; depth = 1; nodes = 1; may_be_empty = empty; has_paths = false }

-- what is known of a type, where those of the types before it are known
abbrev pub meta_type_size : List TypeSize → TypeMeta → TypeSize
meta_type_size type_sizes (meta.Integer integer) = leaf integer.align (nat_eq integer.size 0)
meta_type_size type_sizes (meta.Enum base labels) = leaf (type_size_at type_sizes base).align (type_size_at type_sizes base).may_be_empty
meta_type_size type_sizes meta.Str = leaf 8 false
meta_type_size type_sizes (meta.Struct align fields) = record { align = align; depth = suc (sum_of type_sizes fields).depth; nodes = suc (sum_of type_sizes fields).nodes; may_be_empty = (sum_of type_sizes fields).all_empty; has_paths = (sum_of type_sizes fields).any_paths }
meta_type_size type_sizes (meta.Variant tag fields) = record { align = 1; depth = suc (sum_of type_sizes fields).depth; nodes = suc (sum_of type_sizes fields).nodes; may_be_empty = is_none fields || (sum_of type_sizes fields).any_empty; has_paths = true }
meta_type_size type_sizes (meta.Array n item) = record { align = (type_size_at type_sizes item).align; depth = suc (type_size_at type_sizes item).depth; nodes = suc (type_size_at type_sizes item).nodes; may_be_empty = nat_eq n 0 || (type_size_at type_sizes item).may_be_empty; has_paths = (type_size_at type_sizes item).has_paths }
meta_type_size type_sizes (meta.Sequence n item) = record { align = (type_size_at type_sizes item).align; depth = suc (type_size_at type_sizes item).depth; nodes = suc (type_size_at type_sizes item).nodes; may_be_empty = true; has_paths = true }

-- a type of one depth and one type more than what stands in it
abbrev pub one_around : Inside → TypeSize
one_around i = record { align = i.align; depth = suc i.depth; nodes = suc i.nodes; may_be_empty = i.may_be_empty; has_paths = i.has_paths }

abbrev pub are_fit : TypeSize → Bool
are_fit f = nat_le f.depth MAX_TYPE_DEPTH && nat_le f.nodes MAX_NODES

abbrev pub AreFit : List TypeSize → Type 0
AreFit [] = Unit {0}
AreFit (f ∷ fs) = (are_fit f ≡ true) × AreFit fs
