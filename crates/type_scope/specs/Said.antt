-- What attributes of one word say (CTF 1.8, section 4.1.1).
use Rattle.std.specs.Prelude.{pos, Bool, true, false, ◌||◌, if◌then◌else◌, nat_eq, List, [], ◌∷◌, Option, Some, None, option_and_then, unwrap_or, codes}
use Rattle.std.specs.Cmp.Lexicographic.{pointwise}
use Rattle.tsdl_parser.specs.declared.tree.Attr.{Attr}
use Rattle.tsdl_parser.specs.declared.tree.AttrValue.{AttrValue}
use Rattle.tsdl_parser.specs.declared.tree.AttrValue.TheVariants as value
use Rattle.trace_types.specs.Texts.{is_text}
use Rattle.type_table.specs.Types.{Text}

abbrev pub same_words : List Text → List Text → Bool
same_words = pointwise is_text

-- an attribute of this one word
abbrev pub is_named : Text → Attr → Bool
is_named name attr = same_words attr.path (name ∷ [])

-- the value is this one word
abbrev pub is_word : Text → AttrValue → Bool
is_word word (value.Path words) = same_words words (word ∷ [])
is_word word _ = false

-- 0, 1, or a word of either case
abbrev pub sign_said : AttrValue → Option Bool
sign_said (value.Signed (pos n)) = if nat_eq n 0 then Some false else if nat_eq n 1 then Some true else None
sign_said v =
    if is_word (codes "true") v || is_word (codes "TRUE") v then Some true
    else if is_word (codes "false") v || is_word (codes "FALSE") v then Some false
    else None

-- the value of the first attribute of this name
abbrev pub value_named : Text → List Attr → Option AttrValue
value_named name [] = None
value_named name (a ∷ attrs) = if is_named name a then Some a.value else value_named name attrs

-- what the attribute of this name says, where it stands
abbrev pub said : {A : Type 0} → (AttrValue → Option A) → Text → List Attr → Option A
said read name attrs = option_and_then read (value_named name attrs)

-- the integer of these attributes has a sign
abbrev pub is_signed : List Attr → Bool
is_signed attrs = unwrap_or (said sign_said (codes "signed") attrs) false
