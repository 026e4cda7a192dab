-- What is found of several names in one walk.
use Rattle.std.proofs.Common.{◌≡◌, ◌∙◌, ℕ, Bool, true, false, List, Option, Some, None, if◌then◌else◌, ap, refl, sym}
use Rattle.type_table.specs.Names.{same_name}
use Rattle.type_table.specs.Types.{Text}
use Rattle.ctf_fields.specs.Fields.{or_else}
use Rattle.ctf_fields.specs.Named.{first_in}
use Rattle.ctf_fields.specs.declared.field.Field.{Field}
use Rattle.kernel_layout.specs.Sought.{sought_of, text_of}
use Rattle.kernel_layout.specs.declared.sought.Sought.{Sought}
use Rattle.kernel_layout.proofs.KnownNames.{as_counted, none_counted}

-- where no more is found
pub or_none : {A : Type 0} (o : Option A) → o ≡ or_else o None
or_none (Some a) = refl
or_none None = refl

or_more : {A : Type 0} (a b c : Option A) → or_else (or_else a b) c ≡ or_else a (or_else b c)
or_more (Some x) b c = refl
or_more None b c = refl

-- a field that may be of the name
abbrev pub if_named : Bool → Field → Option Field
if_named b f = if b then Some f else None

-- a name that counts as one that is looked for, and one that counts as none
pub by_counted : (name : Text) (k s : Sought) (f : Field) (before after : Option Field) → sought_of name ≡ Some k → after ≡ or_else before (if_named (same_name (text_of s) (text_of k)) f) → after ≡ or_else before (if_named (same_name (text_of s) name) f)
by_counted name k s f before after is found = found ∙ ap (λ b. or_else before (if_named b f)) (as_counted name k s is)

pub by_none : (name : Text) (s : Sought) (f : Field) (before : Option Field) → sought_of name ≡ None → before ≡ or_else before (if_named (same_name (text_of s) name) f)
by_none name s f before is = or_none before ∙ ap (λ b. or_else before (if_named b f)) (sym (none_counted name s is))

-- the field itself, and then those within it
pub or_within : (b : Bool) (f : Field) (before mid after inner : Option Field) → mid ≡ or_else before (if_named b f) → after ≡ or_else mid inner → after ≡ or_else before (if b then Some f else inner)
or_within true f before mid after inner m a = a ∙ (ap (λ o. or_else o inner) m ∙ or_more before (Some f) inner)
or_within false f before mid after inner m a = a ∙ ap (λ o. or_else o inner) (m ∙ sym (or_none before))

-- a field that has none within it
pub or_lone : (b : Bool) (f : Field) (before after inner : Option Field) → after ≡ or_else before (if_named b f) → inner ≡ None → after ≡ or_else before (if b then Some f else inner)
or_lone b f before after inner is none = or_within b f before after after inner is (or_none after ∙ ap (or_else after) (sym none))

-- no field is found without depth
pub none_deep : (d : ℕ) (names : List Text) (text : Text) (f : Field) (before : Option Field) → d ≡ 0 → before ≡ or_else before (first_in d names text f)
unfolding first_in
none_deep d names text f before e = or_none before ∙ ap (λ n. or_else before (first_in n names text f)) (sym e)
