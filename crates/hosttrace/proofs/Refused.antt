-- What is known of the bytes that were read holds of the file in a store that tells its files.
use Rattle.std.proofs.Common.{◌≡◌, ℕ, ◌≤◌, List, [], length, map, ◌∷◌, Option, Some, None, subst, refl, sym, Result, ◌<◌, ◌^◌}
use Rattle.std.specs.Prelude.{IfSome, IfErr, IsErrAnd}
use Rattle.std.proofs.lemmas.Result.{err_from_is_err_and}
use Rattle.event_list.specs.declared.parsed_line.ParsedLine.{ParsedLine}
use Rattle.event_list.specs.declared.trace.MergedTrace.{MergedTrace}
use Rattle.event_list.specs.Names.{IsTrace, numbered_in, names_of}
use Rattle.event_list.proofs.Numbered.{still_rise}
use Rattle.ht_outside.specs.Files.{Files, bytes_of}
use Rattle.std.specs.List.{AllByRecursion}
use Rattle.trace_types.specs.declared.limits.TheConstants.{MAX_EVENTS}
use Rattle.event_list.specs.Lines.{IsCrowded, IsEventList, IsFirstBad, IsParsedLine}
use Rattle.event_list.specs.declared.list.ListError.{ListError}
use Rattle.event_list.specs.declared.list.ListError.TheVariants as list
use Rattle.history_core.specs.Agreement.{IsMerge}
use Rattle.hosttrace.specs.Inputs.{LIST_LIMIT}
use Rattle.hosttrace.specs.Refusals.{ListRefuses}
use Rattle.hosttrace.specs.Seen.{FailsBy, StoreSeen}
use Rattle.hosttrace.specs.Statuses.{list_status}
use Rattle.hosttrace.specs.declared.status.ListFile.TheVariants.{Events}
use Rattle.hosttrace.specs.declared.status.Refusal.TheVariants.{BadList, TooManyEvents}
use Rattle.hosttrace.specs.declared.status.Status.{Status}

pub no_list : (files : Option Files) (bytes file : List ℕ) (line : ℕ) → IfSome files (λ f. bytes ≡ bytes_of f [] file) → length bytes ≤ LIST_LIMIT → ((parsed_lines : List ParsedLine) → ¬ (IsEventList bytes parsed_lines)) → IsFirstBad bytes line
    → IfSome files (λ f. ListRefuses (bytes_of f [] file) (BadList Events line))
no_list (Some f) bytes file line is small bad there = subst (λ b. ListRefuses b (BadList Events line)) is (small, bad, there)
no_list None bytes file line is small bad there = tt

pub crowded : (files : Option Files) (bytes file : List ℕ) → IfSome files (λ f. bytes ≡ bytes_of f [] file) → length bytes ≤ LIST_LIMIT → IsCrowded bytes → ((parsed_lines : List ParsedLine) → IsEventList bytes parsed_lines → MAX_EVENTS < length parsed_lines)
    → IfSome files (λ f. ListRefuses (bytes_of f [] file) TooManyEvents)
crowded (Some f) bytes file is small many all = subst (λ b. ListRefuses b TooManyEvents) is (small, many, all)
crowded None bytes file is small many all = tt

-- what is known of an error that another was turned into
pub at_err : {T E : Type 0} (r : Result T E) (P Q : E → Type 0) → IsErrAnd r P → ((e : E) → P e → Q e) → IfErr r Q
at_err r P Q h f = let p = err_from_is_err_and r h in subst (λ x. IfErr x Q) (sym p.1) (f p.0 p.2)

-- why a list has no events: its first bad line, or lack of memory
pub list_fails : (seen : StoreSeen) (bytes file : List ℕ) (error : ListError) (status : Status) → status ≡ list_status error → IfSome seen.files (λ f. bytes ≡ bytes_of f [] file) → length bytes ≤ LIST_LIMIT
    → ((line : ℕ) → error ≡ list.BadLine line → (parsed_lines : List ParsedLine) → ¬ (IsEventList bytes parsed_lines)) → ((line : ℕ) → error ≡ list.BadLine line → IsFirstBad bytes line) → (error ≡ list.TooManyEvents → IsCrowded bytes) → (error ≡ list.TooManyEvents → (parsed_lines : List ParsedLine) → IsEventList bytes parsed_lines → MAX_EVENTS < length parsed_lines)
    → FailsBy (λ fs refusal. ListRefuses (bytes_of fs [] file) refusal) seen status
list_fails seen bytes file (list.BadLine line) status e is small bad there many all = subst (FailsBy (λ fs refusal. ListRefuses (bytes_of fs [] file) refusal) seen) (sym e) (no_list seen.files bytes file line is small (bad line refl) (there line refl))
list_fails seen bytes file list.TooManyEvents status e is small bad there many all = subst (FailsBy (λ fs refusal. ListRefuses (bytes_of fs [] file) refusal) seen) (sym e) (crowded seen.files bytes file is small (many refl) (all refl))
list_fails seen bytes file list.OutOfMemory status e is small bad there many all = subst (FailsBy (λ fs refusal. ListRefuses (bytes_of fs [] file) refusal) seen) (sym e) tt

-- the events of a list are merged
pub is_merge : (bytes : List ℕ) (parsed_lines : List ParsedLine) (trace : MergedTrace) → IsEventList bytes parsed_lines → IsTrace parsed_lines trace → IsMerge trace.events.items
is_merge bytes parsed_lines trace h is = subst IsMerge (sym is.events) (record { rises = still_rise (λ h. names_of h parsed_lines) 0 parsed_lines h.2.order; below = keys_below (λ h. names_of h parsed_lines) parsed_lines h.2.each })
  where
    keys_below : (names : ℕ → List (List ℕ)) (ts : List ParsedLine) → AllByRecursion IsParsedLine ts → AllByRecursion (λ m. m.key < 2 ^ 62) (map (λ t. numbered_in (names t.event.event.host) t) ts)
    keys_below names [] h = tt
    keys_below names (t ∷ ts) h = (h.0.key, keys_below names ts h.1)
