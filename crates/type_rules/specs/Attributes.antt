-- What the attributes in the braces of an integer say, and where they break their rules (CTF 1.8, section 4.1.1; the limits are this project's own).
use Rattle.std.specs.Prelude.{ℕ, ℤ, pos, Bool, false, ◌&&◌, ◌||◌, if◌then◌else◌, nat_le, List, [], ◌∷◌, ◌++◌, Option, Some, None, is_some, option_and_then, option_map, position, unwrap_or, codes, ◌%◌, ◌==◌, int_le, neg_ℤ}
use Rattle.std.specs.List.{list_any}
use Rattle.std.specs.Int.{is_power_of_two}
use Rattle.trace_types.specs.declared.byte_order.ByteOrderKind.{ByteOrderKind}
use Rattle.trace_types.specs.declared.byte_order.ByteOrderKind.TheVariants.{Little, Big}
use Rattle.tsdl_parser.specs.declared.tree.Attr.{Attr}
use Rattle.tsdl_parser.specs.declared.tree.AttrValue.{AttrValue}
use Rattle.tsdl_parser.specs.declared.tree.AttrValue.TheVariants as value
use Rattle.trace_types.specs.Texts.{is_text}
use Rattle.type_scope.specs.Said.{is_named, is_signed, is_word, said, same_words, sign_said}
use Rattle.type_table.specs.declared.cause.MetaItemCause.{MetaItemCause}
use Rattle.type_table.specs.declared.cause.MetaItemCause.TheVariants.{BadAttribute, BadReference}
use Rattle.std.specs.Map.{keys_of}
use Rattle.type_table.specs.declared.integer.Integer.{Integer}
use Rattle.type_table.specs.declared.declared.ClockRate.{ClockRate}
use Rattle.type_table.specs.Types.{Text}

abbrev pub number_in : ℕ → ℕ → AttrValue → Option ℕ
number_in low high (value.Signed (pos n)) = if nat_le low n && nat_le n high then Some n else None
number_in low high _ = None

-- 1 to 64 bits
abbrev pub size_said : AttrValue → Option ℕ
size_said = number_in 1 64

-- a power of two from 1 to 65,536
abbrev pub align_said : AttrValue → Option ℕ
align_said (value.Signed (pos n)) = if is_power_of_two n && nat_le n 65536 then Some n else None
align_said _ = None

-- network is big endian, and native is the trace's
abbrev pub order_said : ByteOrderKind → AttrValue → Option ByteOrderKind
order_said trace v =
    if is_word (codes "le") v then Some Little
    else if is_word (codes "be") v || is_word (codes "network") v then Some Big
    else if is_word (codes "native") v then Some trace
    else None

-- words with a dot between them
abbrev pub dotted_on : List Text → Text
dotted_on [] = []
dotted_on (w ∷ ws) = codes "." ++ (w ++ dotted_on ws)

abbrev pub dotted : List Text → Text
dotted [] = []
dotted (w ∷ ws) = w ++ dotted_on ws

-- the words before the last, where that is this one
abbrev pub before_last : Text → List Text → Option (List Text)
before_last word [] = None
before_last word (w ∷ []) = if is_text w word then Some [] else None
before_last word (w ∷ v ∷ ws) = option_map (λ before. w ∷ before) (before_last word (v ∷ ws))

abbrev pub some_words : Option (List Text) → Option (List Text)
some_words (Some (w ∷ ws)) = Some (w ∷ ws)
some_words _ = None

-- the words of NAME in clock.NAME.value, of which there is one at least
abbrev pub clock_words : List Text → Option (List Text)
clock_words [] = None
clock_words (w ∷ ws) = if is_text w (codes "clock") then some_words (before_last (codes "value") ws) else None

-- the index of the clock that a value names among those that were declared before
abbrev pub clock_said : List (Text × ClockRate) → AttrValue → Option ℕ
clock_said clocks (value.Path words) = option_and_then (λ name. position (is_text (dotted name)) (keys_of clocks)) (clock_words words)
clock_said clocks _ = None

-- an id of a stream or an event
abbrev pub id_said : AttrValue → Option ℕ
id_said = number_in 0 18446744073709551615

-- how many times a second a clock counts
abbrev pub freq_said : AttrValue → Option ℕ
freq_said = number_in 1 18446744073709551615

-- where a clock begins to count
abbrev pub offset_said : AttrValue → Option ℤ
offset_said (value.Signed z) = if int_le (neg_ℤ (pos 9223372036854775808)) z && int_le z (pos 18446744073709551615) then Some z else None
offset_said _ = None

-- the version of the format
abbrev pub is_version : AttrValue → Bool
is_version (value.Signed z) = int_le z (pos 1) && int_le (pos 1) z
is_version _ = false

-- a trace has a byte order of its own, so none is native
abbrev pub trace_order_said : AttrValue → Option ByteOrderKind
trace_order_said v =
    if is_word (codes "le") v then Some Little
    else if is_word (codes "be") v || is_word (codes "network") v then Some Big
    else None

abbrev pub cause_unless : Bool → MetaItemCause → Option MetaItemCause
cause_unless holds cause = if holds then None else Some cause

-- an attribute of an integer breaks its rule by itself
abbrev pub own_fault : ByteOrderKind → List (Text × ClockRate) → Attr → Option MetaItemCause
own_fault order clocks attr =
    if is_named (codes "size") attr then cause_unless (is_some (size_said attr.value)) BadAttribute
    else if is_named (codes "align") attr then cause_unless (is_some (align_said attr.value)) BadAttribute
    else if is_named (codes "signed") attr then cause_unless (is_some (sign_said attr.value)) BadAttribute
    else if is_named (codes "byte_order") attr then cause_unless (is_some (order_said order attr.value)) BadAttribute
    else if is_named (codes "map") attr then cause_unless (is_some (clock_said clocks attr.value)) BadReference
    else None

-- a path stands among these; these and it, each once
abbrev pub is_seen : List Text → List (List Text) → Bool
is_seen path paths = list_any (same_words path) paths

abbrev pub noted : List Text → List (List Text) → List (List Text)
noted path paths = if is_seen path paths then paths else paths ++ path ∷ []

abbrev pub or_later : Option MetaItemCause → Option MetaItemCause → Option MetaItemCause
or_later None deferred = deferred
or_later (Some cause) deferred = Some cause

-- after these paths, the first attribute that stands twice or breaks its rule
abbrev pub first_fault : ByteOrderKind → List (Text × ClockRate) → List (List Text) → List Attr → Option MetaItemCause
first_fault order clocks seen [] = None
first_fault order clocks seen (a ∷ attrs) =
    if is_seen a.path seen then Some BadAttribute
    else or_later (own_fault order clocks a) (first_fault order clocks (noted a.path seen) attrs)

-- at the closing brace, a size that is missing; one that is there and no size was refused where it stands
abbrev pub integer_fault : ByteOrderKind → List (Text × ClockRate) → List Attr → Option MetaItemCause
integer_fault order clocks attrs = or_later (first_fault order clocks [] attrs) (cause_unless (is_some (said size_said (codes "size") attrs)) BadAttribute)

-- 8 where the size is a multiple of 8, else 1
abbrev pub usual_align : ℕ → ℕ
usual_align size = if size % 8 == 0 then 8 else 1

abbrev pub integer_of : ByteOrderKind → List (Text × ClockRate) → List Attr → Integer
integer_of order clocks attrs = record {
  size = unwrap_or (said size_said (codes "size") attrs) 0;
  align = unwrap_or (said align_said (codes "align") attrs) (usual_align (unwrap_or (said size_said (codes "size") attrs) 0));
  signed = is_signed attrs;
  order = unwrap_or (said (order_said order) (codes "byte_order") attrs) order;
  clock = said (clock_said clocks) (codes "map") attrs;
}

-- in the braces of a string, after these paths: an attribute that stands twice
abbrev pub is_twice : List (List Text) → List Attr → Bool
is_twice seen [] = false
is_twice seen (a ∷ attrs) = is_seen a.path seen || is_twice (noted a.path seen) attrs
