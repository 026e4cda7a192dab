-- The first of a name within a structure and within a chosen field.
use Rattle.std.proofs.Common.{◌≡◌, ◌∙◌, ℕ, suc, ◌-◌, ◌≤◌, List, ap, sym, arith}
use Rattle.type_table.specs.Types.{Text}
use Rattle.ctf_fields.specs.declared.field.Field.{Field, out-Field, out-roll-Field, roll-Field}
use Rattle.ctf_fields.specs.declared.field.Field.TheOpen.{Field-F}
use Rattle.ctf_fields.specs.declared.field.Field.TheVariants as field
use Rattle.ctf_fields.specs.declared.field.Member.{Member}
use Rattle.ctf_fields.specs.Named.{first_at, first_by, first_in, first_member}

pub in_struct : (d : ℕ) (names : List Text) (text : Text) (ms : List Member) → first_in (suc d) names text (field.Struct ms) ≡ first_member (first_in d names text) names text ms
unfolding first_in roll-Field out-Field denote.Hole.Carrier.roll
in_struct d names text ms = ap (first_by (first_in d names text) names text) (out-roll-Field (Field-F.Struct ms))

pub first_of_struct : (d : ℕ) (names : List Text) (text : Text) (whole : Field) (ms all : List Member) → 1 ≤ d → whole ≡ field.Struct ms → all ≡ ms → first_in d names text whole ≡ first_member (first_in (d - 1) names text) names text all
first_of_struct d names text whole ms all h is same =
    let deeper : d ≡ suc (d - 1) = omega (arith, h) in
    ap (first_in d names text) is
    ∙ (ap (λ n. first_in n names text (field.Struct ms)) deeper
    ∙ (in_struct (d - 1) names text ms ∙ ap (λ l. first_member (first_in (d - 1) names text) names text l) (sym same)))

step : (d e : ℕ) (names : List Text) (text : Text) (name : ℕ) (f : Field) → d ≡ suc e → first_in d names text (field.Choice name f) ≡ first_at (first_in e names text) names text name f
unfolding first_in Rattle.ctf_fields.specs.declared.field.Field.TheViews.out-Field denote.Hole.Carrier.out Rattle.ctf_fields.specs.declared.field.Field.TheBlock.shown-the_row-Field-1 denote.Hole.Carrier.shown denote.Hole.Carrier.hidden
step d e names text name f is = ap (λ n. first_in n names text (field.Choice name f)) is

pub first_chosen : (d : ℕ) (names : List Text) (text : Text) (name : ℕ) (whole f g : Field) → 1 ≤ d → whole ≡ field.Choice name f → g ≡ f → first_in d names text whole ≡ first_at (first_in (d - 1) names text) names text name g
first_chosen d names text name whole f g h is same =
    ap (first_in d names text) is ∙ (step d (d - 1) names text name f (omega (arith, h)) ∙ ap (λ x. first_at (first_in (d - 1) names text) names text name x) (sym same))
