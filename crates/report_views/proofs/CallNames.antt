-- A name is cut where the bytes first stand.
use Rattle.std.proofs.Common.{◌≡◌, ℕ, ◌<◌, ◌≤◌, ◌-◌, true, List, [], ◌∷◌, ◌++◌, length, take, drop, if◌then◌else◌, sym, ap, ◌∙◌, arith, length-drop}
use Rattle.std.proofs.lemmas.List.{take_all}
use Rattle.std.specs.Prelude.{nat_eq}
use Rattle.std.specs.List.{starts_with}
use Rattle.report_views.specs.Values.{call_name}
use Rattle.trace_types.specs.CallNames.{call_entry}

pub cut_here : (rest : List ℕ) → 0 < length rest → starts_with nat_eq rest call_entry ≡ true → call_name rest ≡ drop 14 rest
cut_here [] some is = absurd (omega (arith, some))
cut_here (b ∷ bs) some is = ap (λ c. if c then drop 14 (b ∷ bs) else b ∷ call_name bs) is

-- the rest after the bytes is the end of the name
pub ended : (name kept rest new : List ℕ) → kept ++ call_name rest ≡ call_name name → 1 ≤ length rest → starts_with nat_eq rest call_entry ≡ true → new ≡ kept ++ take (length rest - 14) (drop 14 rest) → new ≡ call_name name
ended name kept rest new h some is e =
    let all : take (length rest - 14) (drop 14 rest) ≡ drop 14 rest = take_all (length rest - 14) (drop 14 rest) (omega (arith, length-drop 14 rest)) in
    e ∙ (ap (λ l. kept ++ l) (all ∙ sym (cut_here rest (omega (arith, some)) is)) ∙ h)
