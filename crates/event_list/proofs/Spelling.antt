-- Lines are cut where they end, and words where they do.
use Rattle.std.proofs.Common.{◌≡◌, ◌≢◌, ℕ, ℤ, pos, negsuc, suc, ◌+◌, ◌/◌, ◌%◌, ◌<◌, ◌^◌, Bool, true, false, if◌then◌else◌, List, [], ◌∷◌, ◌++◌, inl, inr, subst, refl, sym, ap, ◌∙◌, append_assoc, map, Bor, arith, rules, FitsSigned}
use Rattle.std.specs.Prelude.{flat_map, ◌==◌}
use Rattle.std.specs.List.{AllByRecursion, slice_split, join_with_byte}
use Rattle.std.specs.Int.{w32, w64}
use Rattle.std.specs.Fmt.{decimal, signed_decimal}
use lib.Signed.{mag}
use Rattle.std.proofs.lemmas.Int.{ints}
use Rattle.std.proofs.lemmas.Bool.{ne_eqb}
use Rattle.std.proofs.lemmas.List.{map-append}
use Rattle.trace_types.specs.ByteTexts.{byte_text, spelled, is_plain, hex_digit}
use Rattle.trace_types.proofs.Decimals.{below_wide, decimal_high}
use Rattle.trace_types.proofs.Everywhere.{all_weaker, all_both}
use Rattle.event_list.specs.declared.parsed_line.ParsedLine.{ParsedLine}
use Rattle.trace_types.specs.EventKinds.{kind_of_event, word_of}
use Rattle.trace_types.specs.declared.event_kind.EventKind.{EventKind}
use Rattle.trace_types.specs.declared.event_kind.EventKind.TheVariants as event_kind
use Rattle.event_list.proofs.KindViews.{by_kind}
use Rattle.trace_types.specs.declared.event.KernelEvent.{KernelEvent}
use Rattle.trace_types.specs.declared.event.KernelEvent.TheVariants.{Switch, Wakeup, WakeupNew, Waking, Fork, Exit, Free, Migrate, IrqIn, IrqOut, SoftIn, SoftOut, Process, Send, Receive, DiskIssue, DiskDone, Lost}
use Rattle.trace_types.specs.declared.segment.SegKey.{SegKey}
use Rattle.event_list.specs.Lines.{field_words, kind_words, woken_words, segment_words, request_words, IsSegKey, IsRequested, parsed_words, IsKind, IsPlain, IsWoken, IsParsedLine}

-- every byte of the word is past the space
abbrev pub IsWord : List ℕ → Type 0
IsWord = AllByRecursion (λ b. 32 < b)

decimal_word : (n : ℕ) → n < 2 ^ 128 → IsWord (decimal n)
decimal_word n h = all_weaker (λ b. 47 < b) (λ b. 32 < b) (decimal n) (λ b k. omega (arith, k)) (decimal_high n h)

signed_word : (z : ℤ) → mag z < 2 ^ 63 → IsWord (signed_decimal z)
signed_word (pos n) h = decimal_word n (below_wide n (2 ^ 63) h (omega arith))
signed_word (negsuc n) h = (omega arith, decimal_word (suc n) (below_wide (suc n) (2 ^ 63 + 1) (omega arith) (omega arith)))

hex_word : (n : ℕ) → 32 < hex_digit n
hex_word n = grind arith

spelled_word : (b : ℕ) → IsWord (spelled b)
spelled_word b = by (is_plain b) refl
  where
    above : (b : ℕ) → true ≡ is_plain b → 32 < b
    above b h = grind arith

    by : (p : Bool) → p ≡ is_plain b → IsWord (if p then b ∷ [] else 37 ∷ hex_digit (b / 16) ∷ hex_digit (b % 16) ∷ [])
    by true h = (above b h, tt)
    by false h = (omega arith, (hex_word (b / 16), (hex_word (b % 16), tt)))

spelled_all_word : (bs : List ℕ) → IsWord (flat_map spelled bs)
spelled_all_word [] = tt
spelled_all_word (b ∷ bs) = all_both (λ b. 32 < b) (spelled b) _ (spelled_word b) (spelled_all_word bs)

byte_text_word : (bs : List ℕ) → IsWord (byte_text bs)
byte_text_word [] = (omega arith, tt)
byte_text_word (b ∷ bs) = spelled_all_word (b ∷ bs)

abbrev AreWords : List (List ℕ) → Type 0
AreWords = AllByRecursion IsWord

pub mag_64 : (z : ℤ) → FitsSigned w64 z → mag z < 2 ^ 63
mag_64 (pos n) h = omega (arith, ints)
mag_64 (negsuc n) h = omega (arith, ints)

pub mag_32 : (z : ℤ) → FitsSigned w32 z → mag z < 2 ^ 63
mag_32 (pos n) h = omega (arith, ints)
mag_32 (negsuc n) h = omega (arith, ints)

number : (n limit : ℕ) → n < limit → limit < 2 ^ 64 → IsWord (decimal n)
number n limit h g = decimal_word n (below_wide n limit h g)

small : (n : ℕ) → n < 2 ^ 31 → IsWord (decimal n)
small n h = number n (2 ^ 31) h (omega arith)

woken_are_words : (tid : ℕ) (comm : List ℕ) (prio : ℤ) (cpu : ℕ) → IsWoken tid comm prio cpu → AreWords (woken_words tid comm prio cpu)
woken_are_words tid comm prio cpu h = (small tid h.0, (byte_text_word comm, (signed_word prio (mag_32 prio h.2), (small cpu h.3, tt))))

pub wide : (n : ℕ) → n < 2 ^ 64 → n < 2 ^ 128
wide n h = omega (arith, h)

segment_are_words : (key : SegKey) → IsSegKey key → AreWords (segment_words key)
segment_are_words key h = (
  decimal_word key.saddr h.0,
  (
    decimal_word key.daddr h.1,
    (
      number key.source_port (2 ^ 16) h.2 (omega arith),
      (
        number key.dest_port (2 ^ 16) h.3 (omega arith),
        (
          number key.seq (2 ^ 32) h.4 (omega arith),
          (
            number key.ack_seq (2 ^ 32) h.5 (omega arith),
            (number key.flags (2 ^ 16) h.6 (omega arith), tt),
          ),
        ),
      ),
    ),
  ),
)

request_are_words : (sector dev count : ℕ) → IsRequested sector dev count → AreWords (request_words sector dev count)
request_are_words sector dev count h = (number dev (2 ^ 32) h.1 (omega arith), (decimal_word sector (wide sector h.0), (number count (2 ^ 32) h.2 (omega arith), tt)))

one_word : (gap : Bool) → IsWord (decimal (if gap then 1 else 0))
one_word true = number 1 2 (omega arith) (omega arith)
one_word false = number 0 2 (omega arith) (omega arith)

plain_are_words : (names : List (List ℕ)) (k : KernelEvent) → IsPlain k → AreWords (field_words names k)
plain_are_words names (Switch s pt nt pp np pc nc) h =
    let prev : IsWord (decimal pt) = number pt (2 ^ 31) h.0 (omega arith) in
    let next : IsWord (decimal nt) = number nt (2 ^ 31) h.4 (omega arith) in
    (prev, (byte_text_word pc, (signed_word pp (mag_32 pp h.2), (signed_word s (mag_64 s h.3), (next, (byte_text_word nc, (signed_word np (mag_32 np h.6), tt)))))))
plain_are_words names (Wakeup tid comm prio cpu) h = woken_are_words tid comm prio cpu h
plain_are_words names (WakeupNew tid comm prio cpu) h = woken_are_words tid comm prio cpu h
plain_are_words names (Waking tid comm prio cpu) h = woken_are_words tid comm prio cpu h
plain_are_words names (Fork parent child comm) h = (small parent h.0, (small child h.1, (byte_text_word comm, tt)))
plain_are_words names (Exit tid) h = (small tid h, tt)
plain_are_words names (Free tid) h = (small tid h, tt)
plain_are_words names (Migrate tid cpu) h = (small tid h.0, (small cpu h.1, tt))
plain_are_words names (IrqIn irq) h = (small irq h, tt)
plain_are_words names (IrqOut irq) h = (small irq h, tt)
plain_are_words names (SoftIn vec) h = (small vec h, tt)
plain_are_words names (SoftOut vec) h = (small vec h, tt)
plain_are_words names (Process tid ppid name status) h = (small tid h.0, (small ppid h.1, (byte_text_word name, (small status h.3, tt))))
plain_are_words names (Send key) h = segment_are_words key h
plain_are_words names (Receive key) h = segment_are_words key h
plain_are_words names (DiskIssue sector dev count) h = request_are_words sector dev count h
plain_are_words names (DiskDone sector dev count) h = request_are_words sector dev count h
plain_are_words names (Lost events gap) h = (decimal_word events (wide events h), (one_word gap, tt))
plain_are_words names k h = absurd h

word_is_word : (kind : EventKind) → IsWord (word_of kind)
word_is_word event_kind.Switch = search rules
word_is_word event_kind.Wakeup = search rules
word_is_word event_kind.WakeupNew = search rules
word_is_word event_kind.Waking = search rules
word_is_word event_kind.Fork = search rules
word_is_word event_kind.Exit = search rules
word_is_word event_kind.Free = search rules
word_is_word event_kind.Migrate = search rules
word_is_word event_kind.IrqIn = search rules
word_is_word event_kind.IrqOut = search rules
word_is_word event_kind.SoftIn = search rules
word_is_word event_kind.SoftOut = search rules
word_is_word event_kind.Process = search rules
word_is_word event_kind.CallIn = search rules
word_is_word event_kind.CallOut = search rules
word_is_word event_kind.Send = search rules
word_is_word event_kind.Receive = search rules
word_is_word event_kind.DiskIssue = search rules
word_is_word event_kind.DiskDone = search rules
word_is_word event_kind.Lost = search rules
word_is_word event_kind.Other = search rules

kind_are_words : (name : List ℕ) (k : KernelEvent) → IsKind name k → AreWords (kind_words (name ∷ []) k)
kind_are_words name k h = (word_is_word (kind_of_event k), elim (by_kind name k h) [ inl p ↦ plain_are_words (name ∷ []) k p.plain | inr n ↦ subst AreWords (sym n.field.spelled) (byte_text_word name, tt) ])

pub are_words : (t : ParsedLine) → IsParsedLine t → AreWords (parsed_words t)
are_words t h =
    let m = t.event in
    (number m.key (2 ^ 62) h.key (omega arith), (number m.event.host 64 h.host (omega arith), (number m.event.cpu (2 ^ 32) h.cpu (omega arith), (number m.event.time (2 ^ 62) h.time.1 (omega arith), kind_are_words t.name m.event.kind h.kind))))

-- words that are joined by spaces are cut at the spaces
split_word : (w rest : List ℕ) → IsWord w → slice_split (λ b. b == 32) (w ++ 32 ∷ rest) ≡ w ∷ slice_split (λ b. b == 32) rest
split_word [] rest h = refl
split_word (b ∷ bs) rest h = rw (ne_eqb b 32 (λ e. omega (arith, h.0, e)), split_word bs rest h.1) refl

split_last : (w : List ℕ) → IsWord w → slice_split (λ b. b == 32) w ≡ w ∷ []
split_last [] h = refl
split_last (b ∷ bs) h = rw (ne_eqb b 32 (λ e. omega (arith, h.0, e)), split_last bs h.1) refl

pub split_joined : (w : List ℕ) (ws : List (List ℕ)) → AreWords (w ∷ ws) → slice_split (λ b. b == 32) (join_with_byte 32 (w ∷ ws)) ≡ w ∷ ws
split_joined w [] h = split_last w h.0
split_joined w (v ∷ vs) h = split_word w (join_with_byte 32 (v ∷ vs)) h.0 ∙ ap (λ l. w ∷ l) (split_joined v vs h.1)

-- no line feed is in a line
abbrev pub NoEnd : List ℕ → Type 0
NoEnd = AllByRecursion (λ b. b ≢ 10)

word_no_end : (w : List ℕ) → IsWord w → NoEnd w
word_no_end w h = all_weaker (λ b. 32 < b) (λ b. b ≢ 10) w (λ b k e. omega (arith, k, e)) h

pub joined_no_end : (ws : List (List ℕ)) → AreWords ws → NoEnd (join_with_byte 32 ws)
joined_no_end [] h = tt
joined_no_end (w ∷ []) h = word_no_end w h.0
joined_no_end (w ∷ v ∷ vs) h = all_both (λ b. b ≢ 10) w _ (word_no_end w h.0) (λ e. omega (arith, e), joined_no_end (v ∷ vs) h.1)

-- a line's words, cut off one by one
abbrev pub cut : List ℕ → List (List ℕ)
cut = slice_split (λ b. b == 32)

pub cut_word : (w rest : List ℕ) → AllByRecursion (λ b. b ≢ 32) w → cut (w ++ 32 ∷ rest) ≡ w ∷ cut rest
cut_word [] rest h = refl
cut_word (b ∷ bs) rest h = rw (ne_eqb b 32 h.0, cut_word bs rest h.1) refl

pub cut_last : (w : List ℕ) → AllByRecursion (λ b. b ≢ 32) w → cut w ≡ w ∷ []
cut_last [] h = refl
cut_last (b ∷ bs) h = rw (ne_eqb b 32 h.0, cut_last bs h.1) refl

-- one more word of a line
pub one_more : (line rest after w : List ℕ) (ws vs : List (Bor (List ℕ))) (v : Bor (List ℕ)) → cut line ≡ map (λ w. w.now) ws ++ cut rest → rest ≡ w ++ 32 ∷ after → AllByRecursion (λ b. b ≢ 32) w → v.now ≡ w → vs ≡ ws ++ v ∷ []
    → cut line ≡ map (λ w. w.now) vs ++ cut after
one_more line rest after w ws vs v h e apart is more = rw (more, map-append, append_assoc, is) (h ∙ ap (λ l. map (λ w. w.now) ws ++ l) (ap cut e ∙ cut_word w after apart))

-- the last word of a line
pub last_word : (line rest : List ℕ) (ws vs : List (Bor (List ℕ))) (v : Bor (List ℕ)) → cut line ≡ map (λ w. w.now) ws ++ cut rest → AllByRecursion (λ b. b ≢ 32) rest → v.now ≡ rest → vs ≡ ws ++ v ∷ []
    → map (λ w. w.now) vs ≡ cut line
last_word line rest ws vs v h apart is more = rw (more, map-append, is) (sym (h ∙ ap (λ l. map (λ w. w.now) ws ++ l) (cut_last rest apart)))
