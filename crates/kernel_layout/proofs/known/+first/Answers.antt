use Rattle.std.proofs.Common.{◌≡◌, ◌∙◌, Some, false, if◌then◌else◌, sym, ap, arith}
use Rattle.type_table.specs.Names.{same_name}
use Rattle.type_table.specs.Table.{name_at}
use Rattle.ctf_fields.specs.Named.{first_in}
use Rattle.ctf_fields.proofs.Chosen.{none_first}
use Rattle.kernel_layout.specs.Sought.{text_of}
use Rattle.kernel_layout.proofs.FirstChosen.{first_chosen}
use Rattle.kernel_layout.proofs.known.+first.Goals as goal

pub first_in-returns-in-Choice : goal.first_in-returns-in-Choice
first_in-returns-in-Choice t c =
    c.first_at.ensures
    ∙ sym (first_chosen c.args.depth c.args.table.now.names (text_of c.args.sought) c.in-Choice.name c.args.field.now c.in-Choice.field c.get.result.now (omega (arith, c.if-depth-eq0.false)) c.in-Choice.is c.get.ensures)

pub first_at-returns-in-Int : goal.first_at-returns-in-Int
first_at-returns-in-Int t c =
    let other : same_name (text_of c.args.sought) (name_at c.args.table.now.names c.args.name) ≡ false = sym c.counts_as.ensures ∙ c.if-counts_as.false in
    sym (ap (λ b. if b then Some c.args.field.now else first_in c.args.depth c.args.table.now.names (text_of c.args.sought) c.args.field.now) other
    ∙ none_first c.args.depth c.args.table.now.names (text_of c.args.sought) c.args.field.now c.in-Int.ty c.in-Int.value c.in-Int.is)
