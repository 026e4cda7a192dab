-- Where field paths lead and what is found by names, among fields that are alike: to fields that are alike, or to none in either.
use Rattle.std.proofs.Common.{◌≡◌, ◌∙◌, ℕ, ℤ, zero, suc, List, [], ◌∷◌, ◌++◌, Option, Some, None, Bool, true, false, if◌then◌else◌, option_map, reverse, ap, refl, sym, subst, subst₂}
use Rattle.std.proofs.lemmas.List.{reverse-append}
use Rattle.type_table.specs.Names.{same_name}
use Rattle.type_table.specs.Table.{Table, name_at}
use Rattle.type_table.specs.Types.{Text}
use Rattle.type_table.specs.declared.meta.Reference.{Reference}
use Rattle.type_table.specs.declared.meta.ScopeName.{ScopeName}
use Rattle.type_table.proofs.EachScope.{both_scopes_of}
use Rattle.ctf_fields.specs.Fields.{Scopes, field_by, field_of, follow, from_here, from_inside, from_outside, from_scope, is_entered, member, member_of, nearest, number_in, number_of, or_else, same}
use Rattle.ctf_fields.specs.Named.{Within, first_at, first_by, first_in, first_member, first_named, last_at, last_by, last_in, last_member, last_named}
use Rattle.ctf_fields.specs.Values.{number_named, value_named}
use Rattle.ctf_fields.specs.declared.open_struct.OpenStruct.{OpenStruct}
use Rattle.ctf_fields.specs.declared.field.Field.{Field, out-Field}
use Rattle.ctf_fields.specs.declared.field.Field.TheOpen.{Field-F}
use Rattle.ctf_fields.specs.declared.field.Member.{Member}
use Rattle.ctf_fields.proofs.Alike.{Alike, AlikeOpenStructs, AlikeIf, AlikeItems, AlikeMembers, AlikeNames, AlikeNumbers, AlikeScopes, SameName, SameType, ints, texts, structs, choices, lists, no_members, and_member}
use Rattle.ctf_fields.proofs.SameTypes.{SameReference, SameWords, and_word, no_words}

-- ---- fields opened by one level

-- one level of fields that are alike
pub data AlikeOpen (t u : Table) : Field-F Field Member → Field-F Field Member → Type 0 where
  open_ints : (a b : ℕ) (z : ℤ) → SameType t u a b → AlikeOpen t u (Field-F.Int a z) (Field-F.Int b z)
  open_texts : (text : List ℕ) → AlikeOpen t u (Field-F.Text text) (Field-F.Text text)
  both_structs : (ms ns : List Member) → AlikeMembers t u ms ns → AlikeOpen t u (Field-F.Struct ms) (Field-F.Struct ns)
  open_choices : (a b : ℕ) (x y : Field) → SameName t u a b → Alike t u x y → AlikeOpen t u (Field-F.Choice a x) (Field-F.Choice b y)
  open_lists : (a b : ℕ) (xs ys : List Field) → SameType t u a b → AlikeItems t u xs ys → AlikeOpen t u (Field-F.List a xs) (Field-F.List b ys)

-- fields whose levels are alike are alike at their levels
shut : (t u : Table) (f g : Field) (x y : Field-F Field Member) → out-Field f ≡ x → out-Field g ≡ y → AlikeOpen t u x y → AlikeOpen t u (out-Field f) (out-Field g)
shut t u f g x y left right h = subst₂ (AlikeOpen t u) (sym left) (sym right) h

-- the levels of fields that are alike are alike
pub opened : (t u : Table) {f g : Field} → Alike t u f g → AlikeOpen t u (out-Field f) (out-Field g)
opened t u (ints f g a b z ty left right) = shut t u f g _ _ left right (open_ints a b z ty)
opened t u (texts f g text left right) = shut t u f g _ _ left right (open_texts text)
opened t u (structs f g ms ns members left right) = shut t u f g _ _ left right (both_structs ms ns members)
opened t u (choices f g a b x y name inner left right) = shut t u f g _ _ left right (open_choices a b x y name inner)
opened t u (lists f g a b xs ys ty items left right) = shut t u f g _ _ left right (open_lists a b xs ys ty items)

-- ---- one of two

-- the first of two that is there is alike, where both are
pub or_alike : (t u : Table) (f g h k : Option Field) → AlikeIf t u f g → AlikeIf t u h k → AlikeIf t u (or_else f h) (or_else g k)
or_alike t u None None h k first second = second
or_alike t u (Some f) (Some g) h k first second = first
or_alike t u None (Some g) h k first second = absurd first
or_alike t u (Some f) None h k first second = absurd first

-- one of two that one test chooses is alike, where both are
pub if_alike : (t u : Table) (b c : Bool) (f g h k : Option Field) → b ≡ c → AlikeIf t u f g → AlikeIf t u h k → AlikeIf t u (if b then f else h) (if c then g else k)
if_alike t u true true f g h k e first second = first
if_alike t u false false f g h k e first second = second
if_alike t u true false f g h k e first second = absurd (cc)
if_alike t u false true f g h k e first second = absurd (cc)

-- two names count as one in both tables, or in neither
pub same_alike : (t u : Table) (a b c d : ℕ) → SameName t u a b → SameName t u c d → same t.names a c ≡ same u.names b d
same_alike t u a b c d left right = ap (λ n. same_name n (name_at t.names c)) left ∙ ap (same_name (name_at u.names b)) right

-- ---- fields of structures by their names

-- the nearest field of a name is alike in structures that are
pub nearest_alike : (t u : Table) (a b : ℕ) {ms ns : List Member} → SameName t u a b → AlikeMembers t u ms ns → AlikeIf t u (nearest t.names a ms) (nearest u.names b ns)
nearest_alike t u a b same no_members = tt
nearest_alike t u a b is (and_member m n ms ns name alike rest) =
    or_alike t u _ _ _ _ (nearest_alike t u a b is rest) (if_alike t u _ _ (Some m.field) (Some n.field) None None (same_alike t u a b m.name n.name is name) alike tt)

-- a field of a name is alike in levels that are
member_open : (t u : Table) (a b : ℕ) {x y : Field-F Field Member} → SameName t u a b → AlikeOpen t u x y → AlikeIf t u (member_of t.names a x) (member_of u.names b y)
member_open t u a b same (both_structs ms ns members) = nearest_alike t u a b same members
member_open t u a b same _ = tt

-- a field of a name is alike in fields that are
member_alike : (t u : Table) (a b : ℕ) (f g : Option Field) → SameName t u a b → AlikeIf t u f g → AlikeIf t u (member t.names a f) (member u.names b g)
member_alike t u a b None None same alike = tt
member_alike t u a b (Some f) (Some g) same alike = member_open t u a b same (opened t u alike)
member_alike t u a b None (Some g) same alike = absurd alike
member_alike t u a b (Some f) None same alike = absurd alike

-- words of the same names lead from fields that are alike to fields that are alike
pub follow_alike : (t u : Table) {ws vs : List ℕ} (f g : Option Field) → SameWords t u ws vs → AlikeIf t u f g → AlikeIf t u (follow t.names f ws) (follow u.names g vs)
follow_alike t u f g no_words alike = alike
follow_alike t u f g (and_word w v ws vs name words) alike = follow_alike t u (member t.names w f) (member u.names v g) words (member_alike t u w v f g name alike)

-- ---- structures that are being read

-- the field of a name of the innermost structure that has one
pub from_inside_alike : (t u : Table) (a b : ℕ) (open_structs others : List OpenStruct) → SameName t u a b → AlikeOpenStructs t u open_structs others → AlikeIf t u (from_inside t.names a open_structs) (from_inside u.names b others)
from_inside_alike t u a b [] [] same alike = tt
from_inside_alike t u a b [] (o ∷ others) same alike = absurd alike
from_inside_alike t u a b (o ∷ open_structs) [] same alike = absurd alike
from_inside_alike t u a b (o ∷ open_structs) (p ∷ others) same alike = or_alike t u _ _ _ _ (nearest_alike t u a b same alike.0.1) (from_inside_alike t u a b open_structs others same alike.1)

-- a field path from the innermost structure outward leads to fields that are alike
pub from_here_alike : (t u : Table) {ws vs : List ℕ} (open_structs others : List OpenStruct) → AlikeOpenStructs t u open_structs others → SameWords t u ws vs → AlikeIf t u (from_here t.names open_structs ws) (from_here u.names others vs)
from_here_alike t u open_structs others alike no_words = tt
from_here_alike t u open_structs others alike (and_word w v ws vs name words) = follow_alike t u _ _ words (from_inside_alike t u w v open_structs others name alike)

-- one structure inside others
entered_by : (t u : Table) (a b : ℕ) (x y : Option ℕ) (ms ns : List Member) (open_structs others : List OpenStruct) → SameName t u a b → AlikeNames t u x y
    → is_entered t.names a (record { name = x; fields = ms } ∷ open_structs) ≡ is_entered u.names b (record { name = y; fields = ns } ∷ others)
entered_by t u a b None None ms ns open_structs others same alike = refl
entered_by t u a b (Some x) (Some y) ms ns open_structs others same alike = same_alike t u a b x y same alike
entered_by t u a b None (Some y) ms ns open_structs others same alike = absurd alike
entered_by t u a b (Some x) None ms ns open_structs others same alike = absurd alike

-- the structure inside is entered by a name in both, or in neither
pub entered_alike : (t u : Table) (a b : ℕ) (open_structs others : List OpenStruct) → SameName t u a b → AlikeOpenStructs t u open_structs others → is_entered t.names a open_structs ≡ is_entered u.names b others
entered_alike t u a b [] [] same alike = refl
entered_alike t u a b [] (o ∷ others) same alike = absurd alike
entered_alike t u a b (o ∷ open_structs) [] same alike = absurd alike
entered_alike t u a b (o ∷ open_structs) (p ∷ others) same alike = entered_by t u a b o.name p.name o.fields p.fields open_structs others same alike.0.0

-- a field path from the outermost structure inward leads to fields that are alike
pub from_outside_alike : (t u : Table) {ws vs : List ℕ} (open_structs others : List OpenStruct) → AlikeOpenStructs t u open_structs others → SameWords t u ws vs → AlikeIf t u (from_outside t.names open_structs ws) (from_outside u.names others vs)
from_outside_alike t u [] [] alike words = tt
from_outside_alike t u [] (o ∷ others) alike words = absurd alike
from_outside_alike t u (o ∷ open_structs) [] alike words = absurd alike
from_outside_alike t u (o ∷ open_structs) (p ∷ others) alike no_words = tt
from_outside_alike t u (o ∷ open_structs) (p ∷ others) alike (and_word w v ws vs name words) =
    if_alike t u _ _ _ _ _ _ (entered_alike t u w v open_structs others name alike.1) (from_outside_alike t u open_structs others alike.1 words) (follow_alike t u _ _ words (nearest_alike t u w v name alike.0.1))

-- one more structure after the others
around_push : (t u : Table) (open_structs others : List OpenStruct) (o p : OpenStruct) → AlikeOpenStructs t u open_structs others → AlikeNames t u o.name p.name × AlikeMembers t u o.fields p.fields → AlikeOpenStructs t u (open_structs ++ o ∷ []) (others ++ p ∷ [])
around_push t u [] [] o p alike last = (last, tt)
around_push t u [] (q ∷ others) o p alike last = absurd alike
around_push t u (q ∷ open_structs) [] o p alike last = absurd alike
around_push t u (q ∷ open_structs) (r ∷ others) o p alike last = (alike.0, around_push t u open_structs others o p alike.1 last)

-- structures are alike in either order
pub reverse_alike : (t u : Table) (open_structs others : List OpenStruct) → AlikeOpenStructs t u open_structs others → AlikeOpenStructs t u (reverse open_structs) (reverse others)
reverse_alike t u [] [] alike = tt
reverse_alike t u [] (o ∷ others) alike = absurd alike
reverse_alike t u (o ∷ open_structs) [] alike = absurd alike
reverse_alike t u (o ∷ open_structs) (p ∷ others) alike =
    subst₂ (AlikeOpenStructs t u) (sym (reverse-append (o ∷ []) open_structs)) (sym (reverse-append (p ∷ []) others)) (around_push t u (reverse open_structs) (reverse others) o p (reverse_alike t u open_structs others alike.1) alike.0)

-- ---- scopes

-- a field path into a scope leads to fields that are alike
pub from_scope_alike : (t u : Table) {ws vs : List ℕ} (f g : Option Field) (open_structs others : List OpenStruct) → AlikeIf t u f g → AlikeOpenStructs t u open_structs others → SameWords t u ws vs → AlikeIf t u (from_scope t.names f open_structs ws) (from_scope u.names g others vs)
from_scope_alike t u None None open_structs others alike here words = from_outside_alike t u (reverse open_structs) (reverse others) (reverse_alike t u open_structs others here) words
from_scope_alike t u (Some f) (Some g) open_structs others alike here words = follow_alike t u (Some f) (Some g) words alike
from_scope_alike t u None (Some g) open_structs others alike here words = absurd alike
from_scope_alike t u (Some f) None open_structs others alike here words = absurd alike

-- a field path from a scope, or from none, leads to fields that are alike
by_alike : (t u : Table) (s r : Scopes) (open_structs others : List OpenStruct) (scope : Option ScopeName) {ws vs : List ℕ} → AlikeScopes t u s r → AlikeOpenStructs t u open_structs others → SameWords t u ws vs
    → AlikeIf t u (field_by t.names s open_structs scope ws) (field_by u.names r others scope vs)
by_alike t u s r open_structs others None alike here words = from_here_alike t u open_structs others here words
by_alike t u s r open_structs others (Some scope) alike here words = from_scope_alike t u _ _ open_structs others (both_scopes_of (AlikeIf t u) scope s r alike) here words

-- the same reference leads to fields that are alike
pub field_alike : (t u : Table) (s r : Scopes) (open_structs others : List OpenStruct) (field_path path : Reference) → AlikeScopes t u s r → AlikeOpenStructs t u open_structs others → SameReference t u field_path path
    → AlikeIf t u (field_of t.names s open_structs field_path) (field_of u.names r others path)
field_alike t u s r open_structs others field_path path alike here same =
    subst (λ scope. AlikeIf t u (field_of t.names s open_structs field_path) (field_by u.names r others scope path.words)) same.scope (by_alike t u s r open_structs others field_path.scope alike here same.words)

-- ---- numbers

-- levels that are alike are one number, or none
number_open : (t u : Table) {x y : Field-F Field Member} → AlikeOpen t u x y → AlikeNumbers t u (number_in x) (number_in y)
number_open t u (open_ints a b z same) = (refl, same)
number_open t u _ = tt

-- fields that are alike are one number, or none
pub number_alike : (t u : Table) (f g : Option Field) → AlikeIf t u f g → AlikeNumbers t u (number_of f) (number_of g)
number_alike t u None None alike = tt
number_alike t u (Some f) (Some g) alike = number_open t u (opened t u alike)
number_alike t u None (Some g) alike = absurd alike
number_alike t u (Some f) None alike = absurd alike

-- ---- fields at any depth by their names

-- a text counts as the same name in both tables, or in neither
pub text_alike : (t u : Table) (text : Text) (a b : ℕ) → SameName t u a b → same_name text (name_at t.names a) ≡ same_name text (name_at u.names b)
text_alike t u text a b same = ap (same_name text) same

-- what is found within fields that are alike is alike
abbrev WithinAlike : Table → Table → Within → Within → Type 0
WithinAlike t u i j = (f g : Field) → Alike t u f g → AlikeIf t u (i f) (j g)

-- the first of a name in a field with a name
first_at_alike : (t u : Table) (text : Text) (i j : Within) (a b : ℕ) (f g : Field) → WithinAlike t u i j → SameName t u a b → Alike t u f g → AlikeIf t u (first_at i t.names text a f) (first_at j u.names text b g)
first_at_alike t u text i j a b f g inner same alike = if_alike t u _ _ (Some f) (Some g) (i f) (j g) (text_alike t u text a b same) alike (inner f g alike)

-- the first of a name in the fields of a structure
first_members : (t u : Table) (text : Text) (i j : Within) {ms ns : List Member} → WithinAlike t u i j → AlikeMembers t u ms ns → AlikeIf t u (first_member i t.names text ms) (first_member j u.names text ns)
first_members t u text i j inner no_members = tt
first_members t u text i j inner (and_member m n ms ns name alike rest) =
    or_alike t u _ _ _ _ (first_at_alike t u text i j m.name n.name m.field n.field inner name alike) (first_members t u text i j inner rest)

-- the first of a name in one level
first_open : (t u : Table) (text : Text) (i j : Within) {x y : Field-F Field Member} → WithinAlike t u i j → AlikeOpen t u x y → AlikeIf t u (first_by i t.names text x) (first_by j u.names text y)
first_open t u text i j inner (both_structs ms ns members) = first_members t u text i j inner members
first_open t u text i j inner (open_choices a b x y name alike) = first_at_alike t u text i j a b x y inner name alike
first_open t u text i j inner _ = tt

-- the first of a name at each depth
first_deep : (t u : Table) (text : Text) (d : ℕ) → WithinAlike t u (first_in d t.names text) (first_in d u.names text)
unfolding first_in
first_deep t u text zero f g alike = tt
first_deep t u text (suc d) f g alike = first_open t u text (first_in d t.names text) (first_in d u.names text) (first_deep t u text d) (opened t u alike)

-- the first field of a name in fields that are alike
pub first_alike : (t u : Table) (text : Text) (f g : Option Field) → AlikeIf t u f g → AlikeIf t u (first_named t.names text f) (first_named u.names text g)
first_alike t u text None None alike = tt
first_alike t u text (Some f) (Some g) alike = first_deep t u text 32 f g alike
first_alike t u text None (Some g) alike = absurd alike
first_alike t u text (Some f) None alike = absurd alike

-- the last of a name in a field with a name
last_at_alike : (t u : Table) (text : Text) (i j : Within) (a b : ℕ) (f g : Field) → WithinAlike t u i j → SameName t u a b → Alike t u f g → AlikeIf t u (last_at i t.names text a f) (last_at j u.names text b g)
last_at_alike t u text i j a b f g inner same alike = or_alike t u (i f) (j g) _ _ (inner f g alike) (if_alike t u _ _ (Some f) (Some g) None None (text_alike t u text a b same) alike tt)

-- the last of a name in the fields of a structure
last_members : (t u : Table) (text : Text) (i j : Within) {ms ns : List Member} → WithinAlike t u i j → AlikeMembers t u ms ns → AlikeIf t u (last_member i t.names text ms) (last_member j u.names text ns)
last_members t u text i j inner no_members = tt
last_members t u text i j inner (and_member m n ms ns name alike rest) =
    or_alike t u _ _ _ _ (last_members t u text i j inner rest) (last_at_alike t u text i j m.name n.name m.field n.field inner name alike)

-- the last of a name in one level
last_open : (t u : Table) (text : Text) (i j : Within) {x y : Field-F Field Member} → WithinAlike t u i j → AlikeOpen t u x y → AlikeIf t u (last_by i t.names text x) (last_by j u.names text y)
last_open t u text i j inner (both_structs ms ns members) = last_members t u text i j inner members
last_open t u text i j inner (open_choices a b x y name alike) = last_at_alike t u text i j a b x y inner name alike
last_open t u text i j inner _ = tt

-- the last of a name at each depth
last_deep : (t u : Table) (text : Text) (d : ℕ) → WithinAlike t u (last_in d t.names text) (last_in d u.names text)
unfolding last_in
last_deep t u text zero f g alike = tt
last_deep t u text (suc d) f g alike = last_open t u text (last_in d t.names text) (last_in d u.names text) (last_deep t u text d) (opened t u alike)

-- the last field of a name in fields that are alike
pub last_alike : (t u : Table) (text : Text) (f g : Option Field) → AlikeIf t u f g → AlikeIf t u (last_named t.names text f) (last_named u.names text g)
last_alike t u text None None alike = tt
last_alike t u text (Some f) (Some g) alike = last_deep t u text 32 f g alike
last_alike t u text None (Some g) alike = absurd alike
last_alike t u text (Some f) None alike = absurd alike

-- ---- values by names

-- the number of the first field of a name in fields that are alike
pub named_alike : (t u : Table) (text : Text) (f g : Option Field) → AlikeIf t u f g → AlikeNumbers t u (number_named t text f) (number_named u text g)
named_alike t u text f g alike = number_alike t u _ _ (first_alike t u text f g alike)

-- numbers of the same value and type have one value
same_value : (t u : Table) (n m : Option (ℤ × ℕ)) → AlikeNumbers t u n m → option_map (λ x. x.0) n ≡ option_map (λ x. x.0) m
same_value t u None None alike = refl
same_value t u (Some n) (Some m) alike = ap Some alike.0
same_value t u None (Some m) alike = absurd alike
same_value t u (Some n) None alike = absurd alike

-- the value of the first field of a name is the same in fields that are alike
pub value_alike : (t u : Table) (text : Text) (f g : Option Field) → AlikeIf t u f g → value_named t text f ≡ value_named u text g
value_alike t u text f g alike = same_value t u _ _ (named_alike t u text f g alike)
