-- What is found by a name within a chosen field, and within a number, which has no fields.
use Rattle.std.proofs.Common.{◌≡◌, ◌∙◌, ℕ, ℤ, zero, suc, ◌-◌, ◌≤◌, List, None, ap, refl, sym, arith}
use Rattle.type_table.specs.Types.{Text}
use Rattle.ctf_fields.specs.declared.field.Field.{Field}
use Rattle.ctf_fields.specs.declared.field.Field.TheVariants as field
use Rattle.ctf_fields.specs.Named.{first_in, last_at, last_in}

step : (d e : ℕ) (names : List Text) (text : Text) (name : ℕ) (f : Field) → d ≡ suc e → last_in d names text (field.Choice name f) ≡ last_at (last_in e names text) names text name f
unfolding last_in Rattle.ctf_fields.specs.declared.field.Field.TheViews.out-Field denote.Hole.Carrier.out Rattle.ctf_fields.specs.declared.field.Field.TheBlock.shown-the_row-Field-1 denote.Hole.Carrier.shown denote.Hole.Carrier.hidden
step d e names text name f is = ap (λ n. last_in n names text (field.Choice name f)) is

pub last_chosen : (d : ℕ) (names : List Text) (text : Text) (name : ℕ) (whole f g : Field) → 1 ≤ d → whole ≡ field.Choice name f → g ≡ f → last_in d names text whole ≡ last_at (last_in (d - 1) names text) names text name g
last_chosen d names text name whole f g h is same =
    ap (last_in d names text) is ∙ (step d (d - 1) names text name f (omega (arith, h)) ∙ ap (λ x. last_at (last_in (d - 1) names text) names text name x) (sym same))

last_of_int : (d : ℕ) (names : List Text) (text : Text) (ty : ℕ) (z : ℤ) → last_in d names text (field.Int ty z) ≡ None
unfolding last_in Rattle.ctf_fields.specs.declared.field.Field.TheViews.out-Field denote.Hole.Carrier.out Rattle.ctf_fields.specs.declared.field.Field.TheBlock.shown-the_row-Field-1 denote.Hole.Carrier.shown denote.Hole.Carrier.hidden
last_of_int zero names text ty z = refl
last_of_int (suc d) names text ty z = refl

first_of_int : (d : ℕ) (names : List Text) (text : Text) (ty : ℕ) (z : ℤ) → first_in d names text (field.Int ty z) ≡ None
unfolding first_in Rattle.ctf_fields.specs.declared.field.Field.TheViews.out-Field denote.Hole.Carrier.out Rattle.ctf_fields.specs.declared.field.Field.TheBlock.shown-the_row-Field-1 denote.Hole.Carrier.shown denote.Hole.Carrier.hidden
first_of_int zero names text ty z = refl
first_of_int (suc d) names text ty z = refl

pub none_last : (d : ℕ) (names : List Text) (text : Text) (f : Field) (ty : ℕ) (z : ℤ) → f ≡ field.Int ty z → last_in d names text f ≡ None
none_last d names text f ty z is = ap (last_in d names text) is ∙ last_of_int d names text ty z

pub none_first : (d : ℕ) (names : List Text) (text : Text) (f : Field) (ty : ℕ) (z : ℤ) → f ≡ field.Int ty z → first_in d names text f ≡ None
none_first d names text f ty z is = ap (first_in d names text) is ∙ first_of_int d names text ty z
