-- What stands when some lines of a list were read, with the numbers of their names.
use Rattle.std.proofs.Common.{◌≡◌, ℕ, ◌+◌, ◌^◌, ◌<◌, ◌≤◌, List, [], ◌∷◌, ◌++◌, length, take, get_or, refl, sym, ap, ap₂, ◌∙◌, subst, arith, length-append, replicate}
use Rattle.std.specs.Prelude.{◌==◌, flat_map}
use Rattle.trace_types.specs.declared.event.Merged.{Merged}
use Rattle.std.specs.List.{AllByRecursion, slice_split}
use Rattle.std.proofs.lemmas.List.{get_or-replicate, get_or-take, length-map, length-take-le}
use Rattle.event_list.specs.declared.parsed_line.ParsedLine.{ParsedLine}
use Rattle.event_list.specs.declared.numbering.Numbering.{Numbering}
use Rattle.event_list.specs.declared.trace.MergedTrace.{MergedTrace}
use Rattle.trace_types.specs.declared.limits.TheConstants.{MAX_EVENTS}
use Rattle.event_list.specs.Lines.{AreLines, EndsBehind, HasMany, IsLine, first_line, line_text}
use Rattle.event_list.specs.Names.{IsTrace, lines_of, names_at, names_of, numbered_in}
use Rattle.event_list.specs.Numbering.{Adds, IsNumbered}
use Rattle.event_list.specs.Order.{host_count}
use Rattle.event_list.proofs.Spelling.{NoEnd}
use Rattle.event_list.proofs.Reading.{Begins, HasRead, all_crowded, crowded, more_read, nothing_read, stuck, stuck_there}
use Rattle.event_list.proofs.Numbered.{again, by_names, by_same, few_hosts, few_names, hosts_below, more_numbered}

pub record Reads (text : List ℕ) (read : Numbering) (least : ℕ) (rest : List ℕ) : Type 0 where
  pub parsed_lines : List ParsedLine
  pub has : HasRead text parsed_lines least rest
  pub numbered : IsNumbered parsed_lines read
  pub few : length read.events.items ≤ MAX_EVENTS

pub size : (parsed_lines : List ParsedLine) (read : Numbering) → IsNumbered parsed_lines read → length read.events.items ≡ length parsed_lines
size parsed_lines read n = ap length n.events ∙ length-map parsed_lines (by_names (names_at read.tables.items))

pub begin : (text : List ℕ) (read : Numbering) → read.events.items ≡ [] → read.tables.items ≡ replicate 64 [] → Reads text read 0 text
begin text read none tables = record {
  parsed_lines = [];
  has = nothing_read text;
  numbered = record { events = none; names = λ h low. ap (λ l. get_or l h []) tables ∙ no_names h low; held = tt; tables = ap length tables };
  few = rw none (omega arith);
}
  where
    no_names : (h : ℕ) → h < 64 → get_or (replicate {A = List (List ℕ)} 64 []) h [] ≡ []
    no_names h low = get_or-replicate 64 h [] [] low

pub one_more : (text : List ℕ) (read : Numbering) (least : ℕ) (rest line after : List ℕ) (words : List (List ℕ)) (t : ParsedLine) (new : Numbering) → Reads text read least rest → rest ≡ line ++ 10 ∷ after → NoEnd line → words ≡ slice_split (λ b. b == 32) line → IsLine words t → least ≤ t.event.key → length read.events.items < MAX_EVENTS → Adds read t new → Reads text new t.event.key after
one_more text read least rest line after words t new r e ends w is rises room adds = record {
  parsed_lines = r.parsed_lines ++ t ∷ [];
  has = more_read text r.parsed_lines least rest line after words t r.has e ends w is rises;
  numbered = more_numbered r.parsed_lines t read new r.has.lines.each is.is_parsed_line r.numbered adds;
  few = omega (arith, room, ap length adds.events, length-append read.events.items (numbered_in (names_at read.tables.items t.event.event.host) t ∷ []));
}

pub too_many : (text : List ℕ) (read : Numbering) (least : ℕ) (rest line after : List ℕ) (words : List (List ℕ)) (t : ParsedLine) → Reads text read least rest → rest ≡ line ++ 10 ∷ after → NoEnd line → words ≡ slice_split (λ b. b == 32) line → IsLine words t → least ≤ t.event.key → MAX_EVENTS ≤ length read.events.items → HasMany text
too_many text read least rest line after words t r e ends w is rises full =
    crowded text (r.parsed_lines ++ t ∷ []) t.event.key after (more_read text r.parsed_lines least rest line after words t r.has e ends w is rises) (omega (arith, full, size r.parsed_lines read r.numbered, length-append r.parsed_lines (t ∷ [])))

pub all_too_many : (text : List ℕ) (read : Numbering) (least : ℕ) (rest line after : List ℕ) (words : List (List ℕ)) (t : ParsedLine) → Reads text read least rest → rest ≡ line ++ 10 ∷ after → NoEnd line → words ≡ slice_split (λ b. b == 32) line → IsLine words t → least ≤ t.event.key → MAX_EVENTS ≤ length read.events.items → (others : List ParsedLine) → AreLines 0 others text → MAX_EVENTS < length others
all_too_many text read least rest line after words t r e ends w is rises full =
    all_crowded text (r.parsed_lines ++ t ∷ []) t.event.key after (more_read text r.parsed_lines least rest line after words t r.has e ends w is rises) (omega (arith, full, size r.parsed_lines read r.numbered, length-append r.parsed_lines (t ∷ [])))

-- the names so far can be numbered
pub names_few : (text : List ℕ) (read : Numbering) (least : ℕ) (rest : List ℕ) (host : ℕ) → Reads text read least rest → host < 64 → length (names_at read.tables.items host) < 2 ^ 32
names_few text read least rest host r low = omega (arith, r.few, size r.parsed_lines read r.numbered, ap length (r.numbered.names host low), few_names host r.parsed_lines)

-- no line follows
pub no_line : (text : List ℕ) (read : Numbering) (least : ℕ) (rest : List ℕ) → Reads text read least rest → 0 < length rest → ((n : ParsedLine) → ¬ (Begins least rest n)) → (others : List ParsedLine) → ¬ (AreLines 0 others text)
no_line text read least rest r some none = stuck text r.parsed_lines least rest r.has some none

pub bad_there : (text : List ℕ) (read : Numbering) (least : ℕ) (rest : List ℕ) (line : ℕ) → Reads text read least rest → ((n : ParsedLine) → ¬ (Begins least rest n)) → line ≡ length read.events.items + 2 → (parsed_lines : List ParsedLine) × EndsBehind text parsed_lines × (line ≡ length parsed_lines + 2)
bad_there text read least rest line r none e =
    let same = size r.parsed_lines read r.numbered in
    (r.parsed_lines, stuck_there text r.parsed_lines least rest r.has (omega (arith, r.few, same)) none, e ∙ ap (λ n. n + 2) same)

-- ---- the trace

abbrev trace_of : Numbering → MergedTrace → Type 0
trace_of read trace = (trace.events.items ≡ read.events.items) × (trace.names.items ≡ take (host_count read.events.items) read.tables.items)

pub tables_enough : (text : List ℕ) (parsed_lines : List ParsedLine) (read : Numbering) → AreLines 0 parsed_lines text → IsNumbered parsed_lines read → (AllByRecursion (λ m. m.event.host < 64) read.events.items) × (host_count read.events.items ≤ length read.tables.items)
tables_enough text parsed_lines read lines n =
    let below = subst (AllByRecursion (λ m. m.event.host < 64)) (sym n.events) (hosts_below (names_at read.tables.items) parsed_lines lines.each) in
    (below, omega (arith, few_hosts read.events.items below, n.tables))

pub is_trace : (text : List ℕ) (parsed_lines : List ParsedLine) (read : Numbering) (trace : MergedTrace) → AreLines 0 parsed_lines text → IsNumbered parsed_lines read → trace.events.items ≡ read.events.items → trace.names.items ≡ take (host_count read.events.items) read.tables.items → IsTrace parsed_lines trace
is_trace text parsed_lines read trace lines n events names =
    let enough = tables_enough text parsed_lines read lines n in
    let low = few_hosts read.events.items enough.0 in
    record {
      events = events ∙ (n.events ∙ by_same (names_at read.tables.items) (λ h. names_of h parsed_lines) parsed_lines lines.each n.names);
      hosts = ap length names ∙ (length-take-le (host_count read.events.items) read.tables.items enough.1 ∙ ap host_count (sym events));
      names = λ h below. let here : h < host_count read.events.items = subst (λ l. h < host_count l) events below in ap (λ l. get_or l h []) names ∙ (get_or-take (host_count read.events.items) read.tables.items h [] here ∙ n.names h (omega (arith, here, low)));
    }

pub names_of_few : (text : List ℕ) (parsed_lines : List ParsedLine) (read : Numbering) (lists : List (List (List ℕ))) → AreLines 0 parsed_lines text → IsNumbered parsed_lines read → lists ≡ take (host_count read.events.items) read.tables.items → length lists ≤ 64
names_of_few text parsed_lines read lists lines n names =
    let enough = tables_enough text parsed_lines read lines n in
    omega (arith, few_hosts read.events.items enough.0, ap length names, length-take-le (host_count read.events.items) read.tables.items enough.1)

-- events are spelled alike where their hosts' names are alike
lines_same : (f g : ℕ → List (List ℕ)) (count : ℕ) (ms : List Merged) → host_count ms ≤ count → ((h : ℕ) → h < count → f h ≡ g h) → flat_map (λ m. line_text (f m.event.host) m) ms ≡ flat_map (λ m. line_text (g m.event.host) m) ms
lines_same f g count [] low same = refl
lines_same f g count (m ∷ ms) low same = ap₂ (λ a b. a ++ b) (ap (λ names. line_text names m) (same m.event.host (omega (arith, low)))) (lines_same f g count ms (omega (arith, low)) same)

pub written_again : (text : List ℕ) (parsed_lines : List ParsedLine) (read : Numbering) (trace : MergedTrace) → AreLines 0 parsed_lines text → IsNumbered parsed_lines read → trace.events.items ≡ read.events.items → trace.names.items ≡ take (host_count read.events.items) read.tables.items → first_line ++ text ≡ lines_of (names_at trace.names.items) trace.events.items
written_again text parsed_lines read trace lines n events names =
    let count = host_count read.events.items in
    let own = lines.spelling ∙ (again (names_at read.tables.items) parsed_lines lines.each n.held ∙ ap (flat_map (λ m. line_text (names_at read.tables.items m.event.host) m)) (sym n.events)) in
    let alike = lines_same (names_at read.tables.items) (names_at trace.names.items) count read.events.items (omega arith) (λ h low. sym (ap (λ l. get_or l h []) names ∙ get_or-take count read.tables.items h [] low)) in
    ap (λ l. first_line ++ l) (own ∙ (alike ∙ ap (flat_map (λ m. line_text (names_at trace.names.items m.event.host) m)) (sym events)))
