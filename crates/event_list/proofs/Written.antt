-- The lines that are written of events that are in their ranges are those of a list.
use Rattle.std.proofs.Common.{◌≡◌, ℕ, List, [], ◌∷◌, ◌++◌, flat_map, refl, ap, ap₂, sym}
use Rattle.std.specs.Fmt.{decimal}
use Rattle.std.specs.List.{AllByRecursion, join_with_byte}
use Rattle.trace_types.specs.declared.event.Merged.{Merged}
use Rattle.trace_types.specs.declared.event.KernelEvent.{KernelEvent}
use Rattle.trace_types.specs.declared.event.KernelEvent.TheVariants as kind
use Rattle.event_list.specs.Lines.{IsEventList, IsParsedLine, events_of, kind_words, line_text, parsed_text}
use Rattle.event_list.specs.Names.{lines_of, with_number}
use Rattle.event_list.specs.Order.{RiseFrom}
use Rattle.event_list.specs.Written.{name_parsed, parsed_line_of, parsed_lines_of}

words_as : (names : List (List ℕ)) (k : KernelEvent) → kind_words (name_parsed names k ∷ []) (with_number 0 k) ≡ kind_words names k
words_as names (kind.CallIn n) = refl
words_as names (kind.CallOut n) = refl
words_as names (kind.Other n) = refl
words_as names (kind.Switch s pt nt pp np pc nc) = refl
words_as names (kind.Wakeup tid comm prio cpu) = refl
words_as names (kind.WakeupNew tid comm prio cpu) = refl
words_as names (kind.Waking tid comm prio cpu) = refl
words_as names (kind.Fork parent child comm) = refl
words_as names (kind.Exit tid) = refl
words_as names (kind.Free tid) = refl
words_as names (kind.Migrate tid cpu) = refl
words_as names (kind.IrqIn irq) = refl
words_as names (kind.IrqOut irq) = refl
words_as names (kind.SoftIn vec) = refl
words_as names (kind.SoftOut vec) = refl
words_as names (kind.Process tid ppid comm status) = refl
words_as names (kind.Send key) = refl
words_as names (kind.Receive key) = refl
words_as names (kind.DiskIssue sector dev count) = refl
words_as names (kind.DiskDone sector dev count) = refl
words_as names (kind.Lost events gap) = refl

line_as : (names : List (List ℕ)) (m : Merged) → parsed_text (parsed_line_of names m) ≡ line_text names m
line_as names m = ap (λ ws. join_with_byte 32 (decimal m.key ∷ decimal m.event.host ∷ decimal m.event.cpu ∷ decimal m.event.time ∷ ws) ++ 10 ∷ []) (words_as names m.event.kind)

lines_as : (names : ℕ → List (List ℕ)) (ms : List Merged) → flat_map (λ m. line_text (names m.event.host) m) ms ≡ flat_map parsed_text (parsed_lines_of names ms)
lines_as names [] = refl
lines_as names (m ∷ ms) = ap₂ (λ a b. a ++ b) (sym (line_as (names m.event.host) m)) (lines_as names ms)

rise_as : (names : ℕ → List (List ℕ)) (k : ℕ) (ms : List Merged) → RiseFrom k ms → RiseFrom k (events_of (parsed_lines_of names ms))
rise_as names k [] h = tt
rise_as names k (m ∷ ms) h = (h.0, rise_as names m.key ms h.1)

pub is_list : (names : ℕ → List (List ℕ)) (ms : List Merged) → AllByRecursion IsParsedLine (parsed_lines_of names ms) → RiseFrom 0 ms → IsEventList (lines_of names ms) (parsed_lines_of names ms)
is_list names ms each order = (_, refl, record { spelling = lines_as names ms; each = each; order = rise_as names 0 ms order })
