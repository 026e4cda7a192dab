-- What two sound tables of one trace read from the same bits: fields that are alike and end at one bit, or the same cause for which none can be read.
use Rattle.std.proofs.Common.{◌≡◌, ◌∙◌, ℕ, ℤ, zero, suc, pos, negsuc, List, [], ◌∷◌, ◌++◌, Option, Some, None, Bool, true, false, ◌&&◌, if◌then◌else◌, int_le, ap, ap₂, refl, sym, subst, subst₂}
use Rattle.std.specs.Int.{next_multiple_of}
use Rattle.type_table.specs.Table.{IsSoundTable, Table}
use Rattle.type_table.specs.declared.integer.Integer.{Integer}
use Rattle.type_table.specs.declared.meta.FieldMeta.{FieldMeta}
use Rattle.type_table.specs.declared.meta.LabelMeta.{LabelMeta}
use Rattle.type_table.specs.declared.meta.Reference.{Reference}
use Rattle.type_table.specs.declared.meta.TypeMeta.{TypeMeta}
use Rattle.ctf_fields.specs.Choice.{by_label, by_labels, chosen, first_named}
use Rattle.ctf_fields.specs.Fields.{Scopes, fields_of, or_else, same, with_member}
use Rattle.ctf_fields.specs.Leaves.{integer_read, text_read}
use Rattle.ctf_fields.specs.Reading.{Fails, SourceModel, Got, Inner, MAX_TYPE_DEPTH, Reads, align_at, as_read, leaf, length_of, number_at, read, read_by, read_choice, read_item, read_items, read_list, read_member, read_members, read_number, read_sequence, read_struct, scope_read, then_read}
use Rattle.ctf_fields.specs.declared.open_struct.OpenStruct.{OpenStruct}
use Rattle.ctf_fields.specs.declared.field.Field.{Field}
use Rattle.ctf_fields.specs.declared.field.Field.TheBlock.{shown-the_row-Field-1}
use Rattle.ctf_fields.specs.declared.field.Field.TheOpen.{Field-F}
use Rattle.ctf_fields.specs.declared.field.Field.TheVariants as field
use Rattle.ctf_fields.specs.declared.field.Field.TheViews.{out-Field, out-roll-Field, roll-Field}
use Rattle.ctf_fields.specs.declared.field.Member.{Member}
use Rattle.ctf_fields.proofs.Alike.{Alike, AlikeOpenStructs, AlikeItems, AlikeMembers, AlikeNames, AlikeNumbers, AlikeScopes, ReadBoth, SameName, SameType, ints, texts, structs, choices, lists, no_members, and_member, no_items, and_item}
use Rattle.ctf_fields.proofs.AlikeFields.{field_alike, number_alike, same_alike}
use Rattle.ctf_fields.proofs.SameTypes.{SameFields, SameLabels, SameMeta, SameReference, and_field, and_label, arrays, enums, integers, no_fields, no_labels, same_align, same_labels, sequences, strings, types_at, variants}
use Rattle.ctf_fields.proofs.SameTypes.{structs as structures}

-- ---- the field of a variant that is chosen

-- a field of a variant, of the same name and type, or none
abbrev pub SameChoice : Table → Table → Option FieldMeta → Option FieldMeta → Type 0
SameChoice t u None None = Unit {0}
SameChoice t u (Some f) (Some g) = SameName t u f.name g.name × SameType t u f.ty g.ty
SameChoice t u _ _ = ⊥

-- the first of two that is there is the same, where both are
or_same : (t u : Table) (f g h k : Option FieldMeta) → SameChoice t u f g → SameChoice t u h k → SameChoice t u (or_else f h) (or_else g k)
or_same t u None None h k first second = second
or_same t u (Some f) (Some g) h k first second = first
or_same t u None (Some g) h k first second = absurd first
or_same t u (Some f) None h k first second = absurd first

-- one of two that one test chooses is the same, where both are
if_same : (t u : Table) (b c : Bool) (f g h k : Option FieldMeta) → b ≡ c → SameChoice t u f g → SameChoice t u h k → SameChoice t u (if b then f else h) (if c then g else k)
if_same t u true true f g h k e first second = first
if_same t u false false f g h k e first second = second
if_same t u true false f g h k e first second = absurd (cc)
if_same t u false true f g h k e first second = absurd (cc)

-- the first field of a name has the same name and type
first_same : (t u : Table) (a b : ℕ) {fs gs : List FieldMeta} → SameName t u a b → SameFields t u fs gs → SameChoice t u (first_named t.names a fs) (first_named u.names b gs)
first_same t u a b is no_fields = tt
first_same t u a b is (and_field f g fs gs name ty rest) = if_same t u _ _ (Some f) (Some g) _ _ (same_alike t u a b f.name g.name is name) (name, ty) (first_same t u a b is rest)

-- labels of the same name and range choose the same field
label_same : (t u : Table) (z y : ℤ) (l m : LabelMeta) {fs gs : List FieldMeta} → z ≡ y → SameName t u l.name m.name → l.low ≡ m.low → l.high ≡ m.high → SameFields t u fs gs
    → SameChoice t u (by_label t.names z l fs) (by_label u.names y m gs)
label_same t u z y l m value name low high inside =
    if_same t u _ _ _ _ None None (ap₂ ◌&&◌ (ap₂ int_le low value) (ap₂ int_le value high)) (first_same t u l.name m.name name inside) tt

-- the same labels choose the same field
labels_choose : (t u : Table) (z y : ℤ) {ls ms : List LabelMeta} {fs gs : List FieldMeta} → z ≡ y → SameLabels t u ls ms → SameFields t u fs gs → SameChoice t u (by_labels t.names z ls fs) (by_labels u.names y ms gs)
labels_choose t u z y value no_labels inside = tt
labels_choose t u z y value (and_label l m ls ms name low high rest) inside = or_same t u _ _ _ _ (label_same t u z y l m value name low high inside) (labels_choose t u z y value rest inside)

-- tags of one value and type choose fields of the same name and type, or none
pub chosen_both : (t u : Table) (n m : Option (ℤ × ℕ)) {fs gs : List FieldMeta} → IsSoundTable t → IsSoundTable u → AlikeNumbers t u n m → SameFields t u fs gs → SameChoice t u (chosen t n fs) (chosen u m gs)
chosen_both t u None None one two tag inside = tt
chosen_both t u (Some n) (Some m) one two tag inside = labels_choose t u n.0 m.0 tag.0 (same_labels t u n.1 m.1 one two tag.1) inside
chosen_both t u None (Some m) one two tag inside = absurd tag
chosen_both t u (Some n) None one two tag inside = absurd tag

-- ---- one reading after another

-- what is read after what was read alike is read alike, where it is from each bit
pub then_both : {A B C D : Type 0} (P : A → B → Type 0) (Q : C → D → Type 0) (x : Reads A) (y : Reads B) (f : A → ℕ → Reads C) (g : B → ℕ → Reads D) → ReadBoth P x y → ((a : A) (b : B) (at : ℕ) → P a b → ReadBoth Q (f a at) (g b at))
    → ReadBoth Q (then_read x f) (then_read y g)
then_both P Q (Got a at) (Got b to) f g both next = subst (λ k. ReadBoth Q (f a at) (g b k)) both.1 (next a b at both.0)
then_both P Q (Fails c) (Fails d) f g both next = both
then_both P Q (Got a at) (Fails d) f g both next = absurd both
then_both P Q (Fails c) (Got b to) f g both next = absurd both

-- what is made of what was read alike is made alike
pub as_both : {A B C D : Type 0} (P : A → B → Type 0) (Q : C → D → Type 0) (x : Reads A) (y : Reads B) (f : A → C) (g : B → D) → ReadBoth P x y → ((a : A) (b : B) → P a b → Q (f a) (g b)) → ReadBoth Q (as_read f x) (as_read g y)
as_both P Q (Got a at) (Got b to) f g both next = (next a b both.0, both.1)
as_both P Q (Fails c) (Fails d) f g both next = both
as_both P Q (Got a at) (Fails d) f g both next = absurd both
as_both P Q (Fails c) (Got b to) f g both next = absurd both

-- ---- fields that are made alike

-- integers of one value and type
pub int_alike : (t u : Table) (a b : ℕ) (z : ℤ) → SameType t u a b → Alike t u (field.Int a z) (field.Int b z)
unfolding out-Field denote.Hole.Carrier.out shown-the_row-Field-1 denote.Hole.Carrier.shown denote.Hole.Carrier.hidden
int_alike t u a b z same = ints (field.Int a z) (field.Int b z) a b z same refl refl

-- one text twice
pub string_alike : (t u : Table) (text : List ℕ) → Alike t u (field.Text text) (field.Text text)
unfolding out-Field denote.Hole.Carrier.out shown-the_row-Field-1 denote.Hole.Carrier.shown denote.Hole.Carrier.hidden
string_alike t u text = texts (field.Text text) (field.Text text) text refl refl

-- structures of fields that are alike
pub struct_alike : (t u : Table) (ms ns : List Member) → AlikeMembers t u ms ns → Alike t u (field.Struct ms) (field.Struct ns)
unfolding roll-Field out-Field denote.Hole.Carrier.roll
struct_alike t u ms ns members = structs (field.Struct ms) (field.Struct ns) ms ns members (out-roll-Field (Field-F.Struct ms)) (out-roll-Field (Field-F.Struct ns))

-- chosen fields of one name that are alike
pub choice_alike : (t u : Table) (a b : ℕ) (x y : Field) → SameName t u a b → Alike t u x y → Alike t u (field.Choice a x) (field.Choice b y)
unfolding out-Field denote.Hole.Carrier.out shown-the_row-Field-1 denote.Hole.Carrier.shown denote.Hole.Carrier.hidden
choice_alike t u a b x y name alike = choices (field.Choice a x) (field.Choice b y) a b x y name alike refl refl

-- lists of one type whose items are alike
pub list_alike : (t u : Table) (a b : ℕ) (xs ys : List Field) → SameType t u a b → AlikeItems t u xs ys → Alike t u (field.List a xs) (field.List b ys)
unfolding roll-Field out-Field denote.Hole.Carrier.roll
list_alike t u a b xs ys is items = lists (field.List a xs) (field.List b ys) a b xs ys is items (out-roll-Field (Field-F.List a xs)) (out-roll-Field (Field-F.List b ys))

-- one more field after fields that are alike
members_push : (t u : Table) {ms ns : List Member} (m n : Member) → AlikeMembers t u ms ns → SameName t u m.name n.name → Alike t u m.field n.field → AlikeMembers t u (ms ++ m ∷ []) (ns ++ n ∷ [])
members_push t u m n no_members name alike = and_member m n [] [] name alike no_members
members_push t u m n (and_member k l ms ns first inner rest) name alike = and_member k l (ms ++ m ∷ []) (ns ++ n ∷ []) first inner (members_push t u m n rest name alike)

-- one more item after items that are alike
items_push : (t u : Table) {xs ys : List Field} (f g : Field) → AlikeItems t u xs ys → Alike t u f g → AlikeItems t u (xs ++ f ∷ []) (ys ++ g ∷ [])
items_push t u f g no_items alike = and_item f g [] [] alike no_items
items_push t u f g (and_item x y xs ys first rest) alike = and_item x y (xs ++ f ∷ []) (ys ++ g ∷ []) first (items_push t u f g rest alike)

-- one more field in the innermost structure
with_alike : (t u : Table) (m n : Member) (open_structs others : List OpenStruct) → AlikeOpenStructs t u open_structs others → SameName t u m.name n.name → Alike t u m.field n.field → AlikeOpenStructs t u (with_member m open_structs) (with_member n others)
with_alike t u m n [] [] here name alike = tt
with_alike t u m n [] (o ∷ others) here name alike = absurd here
with_alike t u m n (o ∷ open_structs) [] here name alike = absurd here
with_alike t u m n (o ∷ open_structs) (p ∷ others) here name alike = ((here.0.0, members_push t u m n here.0.1 name alike), here.1)

-- the fields of the innermost structures
inmost_alike : (t u : Table) (open_structs others : List OpenStruct) → AlikeOpenStructs t u open_structs others → AlikeMembers t u (fields_of open_structs) (fields_of others)
inmost_alike t u [] [] here = no_members
inmost_alike t u [] (o ∷ others) here = absurd here
inmost_alike t u (o ∷ open_structs) [] here = absurd here
inmost_alike t u (o ∷ open_structs) (p ∷ others) here = here.0.1

-- ---- integers and strings

-- an integer or a string that is there, or that the bits end before
leaf_both : {A : Type 0} (t u : Table) (f g : A → Field) (o : Option (A × ℕ)) → ((a : A) → Alike t u (f a) (g a)) → ReadBoth (Alike t u) (leaf f o) (leaf g o)
leaf_both t u f g None alike = refl
leaf_both t u f g (Some r) alike = (alike r.0, refl)

-- what is read by a table, of these bits
abbrev source : Table → List ℕ → ℕ → Scopes → SourceModel
source t bytes end scopes = record { table = t; bytes = bytes; end = end; scopes = scopes }

-- one integer
number_both : (t u : Table) (bytes : List ℕ) (end : ℕ) (s r : Scopes) (a b : ℕ) (i : Option Integer) (at : ℕ) → SameType t u a b → ReadBoth (Alike t u) (read_number (source t bytes end s) a i at) (read_number (source u bytes end r) b i at)
number_both t u bytes end s r a b None at same = refl
number_both t u bytes end s r a b (Some i) at same = leaf_both t u (field.Int a) (field.Int b) (integer_read i bytes end at) (λ z. int_alike t u a b z same)

-- equal integers
numbers_both : (t u : Table) (bytes : List ℕ) (end : ℕ) (s r : Scopes) (a b : ℕ) (i j : Option Integer) (at : ℕ) → i ≡ j → SameType t u a b → ReadBoth (Alike t u) (read_number (source t bytes end s) a i at) (read_number (source u bytes end r) b j at)
numbers_both t u bytes end s r a b i j at e same = subst (λ k. ReadBoth (Alike t u) (read_number (source t bytes end s) a i at) (read_number (source u bytes end r) b k at)) e (number_both t u bytes end s r a b i at same)

-- ---- structures, variants and lists, where the types within are read alike

-- types within a type are read alike
abbrev pub InnerAlike : Table → Table → Inner → Inner → Type 0
InnerAlike t u i j = (x y : Option ℕ) (a b : ℕ) (open_structs others : List OpenStruct) (at : ℕ) → AlikeNames t u x y → SameType t u a b → AlikeOpenStructs t u open_structs others → ReadBoth (Alike t u) (i x a open_structs at) (j y b others at)

-- one field of a structure
member_both : (t u : Table) (i j : Inner) (f g : FieldMeta) (open_structs others : List OpenStruct) (at : ℕ) → InnerAlike t u i j → SameName t u f.name g.name → SameType t u f.ty g.ty → AlikeOpenStructs t u open_structs others
    → ReadBoth (AlikeOpenStructs t u) (read_member i f open_structs at) (read_member j g others at)
member_both t u i j f g open_structs others at inner name ty here =
    as_both (Alike t u) (AlikeOpenStructs t u) _ _ _ _ (inner (Some f.name) (Some g.name) f.ty g.ty open_structs others at name ty here)
    (λ x y alike. with_alike t u (record { name = f.name; field = x }) (record { name = g.name; field = y }) open_structs others here name alike)

-- the fields of a structure
members_both : (t u : Table) (i j : Inner) {fs gs : List FieldMeta} (open_structs others : List OpenStruct) (at : ℕ) → InnerAlike t u i j → SameFields t u fs gs → AlikeOpenStructs t u open_structs others
    → ReadBoth (AlikeOpenStructs t u) (read_members i fs open_structs at) (read_members j gs others at)
members_both t u i j open_structs others at inner no_fields here = (here, refl)
members_both t u i j open_structs others at inner (and_field f g fs gs name ty rest) here =
    then_both (AlikeOpenStructs t u) (AlikeOpenStructs t u) _ _ (read_members i fs) (read_members j gs) (member_both t u i j f g open_structs others at inner name ty here)
    (λ a b bit alike. members_both t u i j a b bit inner rest alike)

-- structures of one alignment, with the same fields
struct_both : (t u : Table) (i j : Inner) (x y : Option ℕ) (align : ℕ) {fs gs : List FieldMeta} (open_structs others : List OpenStruct) (at : ℕ) → InnerAlike t u i j → AlikeNames t u x y → SameFields t u fs gs → AlikeOpenStructs t u open_structs others
    → ReadBoth (Alike t u) (read_struct i x align fs open_structs at) (read_struct j y align gs others at)
struct_both t u i j x y align open_structs others at inner name inside here =
    as_both (AlikeOpenStructs t u) (Alike t u) _ _ _ _ (members_both t u i j (record { name = x; fields = [] } ∷ open_structs) (record { name = y; fields = [] } ∷ others) (next_multiple_of at align) inner inside ((name, no_members), here))
    (λ whole other alike. struct_alike t u (fields_of whole) (fields_of other) (inmost_alike t u whole other alike))

-- the field that is chosen, or none
choice_both : (t u : Table) (i j : Inner) (f g : Option FieldMeta) (open_structs others : List OpenStruct) (at : ℕ) → InnerAlike t u i j → SameChoice t u f g → AlikeOpenStructs t u open_structs others
    → ReadBoth (Alike t u) (read_choice i f open_structs at) (read_choice j g others at)
choice_both t u i j None None open_structs others at inner same here = refl
choice_both t u i j (Some f) (Some g) open_structs others at inner same here =
    as_both (Alike t u) (Alike t u) _ _ (field.Choice f.name) (field.Choice g.name) (inner None None f.ty g.ty open_structs others at tt same.1 here) (λ x y alike. choice_alike t u f.name g.name x y same.0 alike)
choice_both t u i j None (Some g) open_structs others at inner same here = absurd same
choice_both t u i j (Some f) None open_structs others at inner same here = absurd same

-- one item of a list
item_both : (t u : Table) (i j : Inner) (a b : ℕ) (open_structs others : List OpenStruct) (done made : List Field) (at : ℕ) → InnerAlike t u i j → SameType t u a b → AlikeOpenStructs t u open_structs others → AlikeItems t u done made
    → ReadBoth (AlikeItems t u) (read_item i a open_structs done at) (read_item j b others made at)
item_both t u i j a b open_structs others done made at inner same here items =
    as_both (Alike t u) (AlikeItems t u) _ _ _ _ (inner None None a b open_structs others at tt same here) (λ x y alike. items_push t u x y items alike)

-- so many items of a list
items_both : (t u : Table) (i j : Inner) (a b : ℕ) (open_structs others : List OpenStruct) (n : ℕ) (done made : List Field) (at : ℕ) → InnerAlike t u i j → SameType t u a b → AlikeOpenStructs t u open_structs others → AlikeItems t u done made
    → ReadBoth (AlikeItems t u) (read_items i a open_structs n done at) (read_items j b others n made at)
items_both t u i j a b open_structs others zero done made at inner same here items = (items, refl)
items_both t u i j a b open_structs others (suc n) done made at inner same here items =
    then_both (AlikeItems t u) (AlikeItems t u) _ _ (read_items i a open_structs n) (read_items j b others n) (item_both t u i j a b open_structs others done made at inner same here items)
    (λ more rest bit alike. items_both t u i j a b open_structs others n more rest bit inner same here alike)

-- lists of one length, of items of one type
list_both : (t u : Table) (i j : Inner) (n a b : ℕ) (open_structs others : List OpenStruct) (at : ℕ) → InnerAlike t u i j → SameType t u a b → AlikeOpenStructs t u open_structs others
    → ReadBoth (Alike t u) (read_list i t n a open_structs at) (read_list j u n b others at)
list_both t u i j n a b open_structs others at inner same here =
    subst (λ align. ReadBoth (Alike t u) (read_list i t n a open_structs at) (as_read (field.List b) (read_items j b others n [] (next_multiple_of at align)))) (same_align t u a b same)
    (as_both (AlikeItems t u) (Alike t u) _ _ (field.List a) (field.List b) (items_both t u i j a b open_structs others n [] [] (next_multiple_of at (align_at t a)) inner same here no_items) (λ xs ys items. list_alike t u a b xs ys same items))

-- lists whose length is a field, or is none
sequence_both : (t u : Table) (i j : Inner) (n m : Option ℕ) (a b : ℕ) (open_structs others : List OpenStruct) (at : ℕ) → InnerAlike t u i j → n ≡ m → SameType t u a b → AlikeOpenStructs t u open_structs others
    → ReadBoth (Alike t u) (read_sequence i t n a open_structs at) (read_sequence j u m b others at)
sequence_both t u i j n m a b open_structs others at inner e same here = subst (λ k. ReadBoth (Alike t u) (read_sequence i t n a open_structs at) (read_sequence j u k b others at)) e (by n)
  where
    by : (k : Option ℕ) → ReadBoth (Alike t u) (read_sequence i t k a open_structs at) (read_sequence j u k b others at)
    by None = refl
    by (Some count) = list_both t u i j count a b open_structs others at inner same here

-- ---- numbers that field paths lead to

-- the same references lead to numbers of the same value and type
field_path_both : (t u : Table) (bytes : List ℕ) (end : ℕ) (s r : Scopes) (open_structs others : List OpenStruct) (field_path path : Reference) → AlikeScopes t u s r → AlikeOpenStructs t u open_structs others → SameReference t u field_path path
    → AlikeNumbers t u (number_at (source t bytes end s) open_structs field_path) (number_at (source u bytes end r) others path)
field_path_both t u bytes end s r open_structs others field_path path scopes here same = number_alike t u _ _ (field_alike t u s r open_structs others field_path path scopes here same)

-- a length depends on its value alone
length_value : (z y : ℤ) (a b : ℕ) → z ≡ y → length_of (Some (z, a)) ≡ length_of (Some (y, b))
length_value z y a b e = ap (λ x. length_of (Some (x, a))) e ∙ of_any y
  where
    of_any : (x : ℤ) → length_of (Some (x, a)) ≡ length_of (Some (x, b))
    of_any (pos n) = refl
    of_any (negsuc n) = refl

-- numbers of the same value and type are one length, or none
length_both : (t u : Table) (n m : Option (ℤ × ℕ)) → AlikeNumbers t u n m → length_of n ≡ length_of m
length_both t u None None same = refl
length_both t u (Some n) (Some m) same = length_value n.0 m.0 n.1 m.1 same.0
length_both t u None (Some m) same = absurd same
length_both t u (Some n) None same = absurd same

-- ---- types

-- types of one kind with the same parts are read alike, where the types within them are
by_both : (t u : Table) (bytes : List ℕ) (end : ℕ) (s r : Scopes) (i j : Inner) (x y : Option ℕ) (a b : ℕ) {k l : TypeMeta} (open_structs others : List OpenStruct) (at : ℕ) → IsSoundTable t → IsSoundTable u → AlikeScopes t u s r
    → InnerAlike t u i j → AlikeNames t u x y → SameType t u a b → SameMeta t u k l → AlikeOpenStructs t u open_structs others
    → ReadBoth (Alike t u) (read_by i (source t bytes end s) x a (Some k) open_structs at) (read_by j (source u bytes end r) y b (Some l) others at)
unfolding read_by
by_both t u bytes end s r i j x y a b open_structs others at one two scopes inner name same (integers _ _ e) here = numbers_both t u bytes end s r a b _ _ at (ap Some e) same
by_both t u bytes end s r i j x y a b open_structs others at one two scopes inner name same (enums c d ls ms base _) here = numbers_both t u bytes end s r a b _ _ at (base.left ∙ sym base.right) same
by_both t u bytes end s r i j x y a b open_structs others at one two scopes inner name same strings here = leaf_both t u field.Text field.Text (text_read bytes end at) (string_alike t u)
by_both t u bytes end s r i j x y a b open_structs others at one two scopes inner name same (structures align align' fs gs e inside) here =
    subst (λ n. ReadBoth (Alike t u) (read_struct i x align fs open_structs at) (read_struct j y n gs others at)) e (struct_both t u i j x y align open_structs others at inner name inside here)
by_both t u bytes end s r i j x y a b open_structs others at one two scopes inner name same (variants field_path path fs gs paths inside) here =
    choice_both t u i j _ _ open_structs others at inner (chosen_both t u _ _ one two (field_path_both t u bytes end s r open_structs others field_path path scopes here paths) inside) here
by_both t u bytes end s r i j x y a b open_structs others at one two scopes inner name same (arrays n m c d e item) here =
    subst (λ k. ReadBoth (Alike t u) (read_list i t n c open_structs at) (read_list j u k d others at)) e (list_both t u i j n c d open_structs others at inner item here)
by_both t u bytes end s r i j x y a b open_structs others at one two scopes inner name same (sequences field_path path c d paths item) here =
    sequence_both t u i j _ _ c d open_structs others at inner (length_both t u _ _ (field_path_both t u bytes end s r open_structs others field_path path scopes here paths)) item here

-- at every depth, types of one tree are read alike
pub deep_both : (t u : Table) (bytes : List ℕ) (end : ℕ) (s r : Scopes) (depth : ℕ) → IsSoundTable t → IsSoundTable u → AlikeScopes t u s r → InnerAlike t u (read depth (source t bytes end s)) (read depth (source u bytes end r))
unfolding read
deep_both t u bytes end s r zero one two scopes x y a b open_structs others at name same here = refl
deep_both t u bytes end s r (suc d) one two scopes x y a b open_structs others at name same here =
    let types = types_at t u a b one two same in
    subst₂ (λ k l. ReadBoth (Alike t u) (read_by (read d (source t bytes end s)) (source t bytes end s) x a k open_structs at) (read_by (read d (source u bytes end r)) (source u bytes end r) y b l others at)) (sym types.at_left) (sym types.at_right)
    (by_both t u bytes end s r (read d (source t bytes end s)) (read d (source u bytes end r)) x y a b open_structs others at one two scopes (deep_both t u bytes end s r d one two scopes) name same types.same here)

-- scopes of one type are read alike by two sound tables, after scopes that are alike
pub reads_alike : (from to : SourceModel) (a b at : ℕ) → IsSoundTable from.table → IsSoundTable to.table → from.bytes ≡ to.bytes → from.end ≡ to.end → AlikeScopes from.table to.table from.scopes to.scopes → SameType from.table to.table a b
    → ReadBoth (Alike from.table to.table) (scope_read from a at) (scope_read to b at)
reads_alike from to a b at one two bytes end scopes same =
    subst₂ (λ bs e. ReadBoth (Alike from.table to.table) (scope_read from a at) (scope_read (source to.table bs e to.scopes) b at)) bytes end
    (deep_both from.table to.table from.bytes from.end from.scopes to.scopes MAX_TYPE_DEPTH one two scopes None None a b [] [] at tt same tt)
