-- A table keeps what it has.
use Rattle.std.proofs.Common.{◌∙◌, refl, arith}
use Rattle.type_table.specs.Table.{Table, Keeps}

pub keeps_same : (t : Table) → Keeps t t
keeps_same t = record { names = λ n h. refl; types = λ n h. refl; more_names = omega arith; more_types = omega arith }

pub keeps_then : (a b c : Table) → Keeps a b → Keeps b c → Keeps a c
keeps_then a b c p q = record {
  names = λ n h. q.names n (omega (arith, h, p.more_names)) ∙ p.names n h;
  types = λ n h. q.types n (omega (arith, h, p.more_types)) ∙ p.types n h;
  more_names = omega (arith, p.more_names, q.more_names);
  more_types = omega (arith, p.more_types, q.more_types);
}
