-- Clocks whose rates lie within their bounds.
use Rattle.std.proofs.Common.{◌≡◌, ◌<◌, ◌+◌, ◌^◌, ◌++◌, List, [], ◌∷◌, length, sym, subst, arith}
use Rattle.std.proofs.lemmas.List.{length-append}
use Rattle.std.specs.List.{AllByRecursion}
use Rattle.type_table.specs.Types.{Text}
use Rattle.type_table.specs.declared.declared.ClockRate.{ClockRate}
use Rattle.type_table.specs.TraceMetas.{AreFew, IsRate, DeclaredIndices}

all_push : (clocks : List (Text × ClockRate)) (name : Text) (rate : ClockRate) → AllByRecursion (λ clock. IsRate clock.1) clocks → IsRate rate → AllByRecursion (λ clock. IsRate clock.1) (clocks ++ (name, rate) ∷ [])
all_push [] name rate all h = (h, tt)
all_push (c ∷ clocks) name rate all h = (all.0, all_push clocks name rate all.1 h)

-- one clock more
pub few_clocks : (declared : DeclaredIndices) (clocks : List (Text × ClockRate)) (name : Text) (rate : ClockRate) → AreFew declared → clocks ≡ declared.clocks ++ (name, rate) ∷ [] → length declared.clocks + 1 < 2 ^ 32 → IsRate rate
    → AreFew (record { is_trace_read = declared.is_trace_read; uuid = declared.uuid; streams = declared.streams; events = declared.events; event_names = declared.event_names; clocks = clocks; hostname = declared.hostname })
few_clocks declared clocks name rate few is room h = record {
  names = few.names;
  clocks = subst (λ cs. length cs < 2 ^ 32) (sym is) (omega (arith, room, length-append declared.clocks ((name, rate) ∷ [])));
  rates = subst (AllByRecursion (λ clock. IsRate clock.1)) (sym is) (all_push declared.clocks name rate few.rates h);
  events = few.events;
}
