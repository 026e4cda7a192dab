use Rattle.std.proofs.Common.{◌≡◌, ◌∙◌, Some, length, slice_get, sym, ap, refl}
use Rattle.std.proofs.lemmas.Bool.{ltb-true}
use Rattle.std.proofs.lemmas.Option.{slice_get_read}
use Rattle.kernel_layout.proofs.KnownNames.{known_at}
use Rattle.kernel_layout.proofs.known.sought_at.Goals as goal

pub returns-in-Some : goal.returns-in-Some
returns-in-Some c =
    let found = c.in-Some.ensures.lookup in
    let there : slice_get c.args.known.now c.args.name ≡ Some c.in-Some.found.now = slice_get_read c.args.known.now (length c.args.known.now) c.args.name c.in-Some.found.now refl (ltb-true c.args.name (length c.args.known.now) (sym found.0)) found.1 in
    sym (known_at c.args.table.now.names c.args.name c.in-Some.found.now (ap (λ ks. slice_get ks c.args.name) (sym c.requires) ∙ there))
