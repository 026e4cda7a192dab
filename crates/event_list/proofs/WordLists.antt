-- The words of a line as the code holds them, by place.
use Rattle.std.proofs.Common.{◌≡◌, ℕ, ℤ, zero, suc, ◌<◌, ◌≤◌, ◌^◌, List, [], ◌∷◌, length, take, drop, ◌-◌, map, get_or, Bor, refl, sym, ap, ◌∙◌, arith, FitsSigned}
use Rattle.std.specs.Int.{w64}
use Rattle.std.specs.Fmt.{decimal}
use Rattle.trace_types.specs.Numbers.{IsNumber, IsSigned}
use Rattle.std.proofs.Math.Seq.{take-length}
use Rattle.std.proofs.lemmas.List.{length-map}
use Rattle.event_list.specs.declared.parsed_line.ParsedLine.{ParsedLine}
use Rattle.event_list.specs.declared.parsed_line.ParsedKind.{ParsedKind}
use Rattle.event_list.specs.declared.line_head.LineHead.{LineHead}
use Rattle.trace_types.proofs.Decimals.{same_number, below_wide}
use Rattle.trace_types.specs.declared.event.KernelEvent.{KernelEvent}
use Rattle.trace_types.specs.declared.event.KernelEvent.TheVariants.{Switch}
use Rattle.event_list.specs.declared.thread.NamedThread.{NamedThread}
use Rattle.event_list.specs.Threads.{IsThread}
use Rattle.trace_types.specs.declared.event_kind.EventKind.TheVariants as event_kind
use Rattle.trace_types.specs.declared.segment.SegKey.{SegKey}
use Rattle.event_list.specs.Kinds.{IsWakeup, IsSegment, IsOf}
use Rattle.event_list.specs.Lines.{kind_words, IsKindLine, IsLine, IsLineHead, IsSegKey}

-- the word at a place, none past the end
abbrev pub word : List (Bor (List ℕ)) → ℕ → List ℕ
word ws i = (get_or ws i (record { ref_ptr = (0, 0); now = [] })).now

abbrev pub texts : List (Bor (List ℕ)) → List (List ℕ)
texts ws = map (λ w. w.now) ws

pub word_is : (ws : List (Bor (List ℕ))) (vs : List (List ℕ)) (i : ℕ) → texts ws ≡ vs → word ws i ≡ get_or vs i []
word_is ws vs i e = at ws i ∙ ap (λ l. get_or l i []) e
  where
    at : (ws : List (Bor (List ℕ))) (i : ℕ) → word ws i ≡ get_or (texts ws) i []
    at [] i = refl
    at (w ∷ ws) zero = refl
    at (w ∷ ws) (suc i) = at ws i

seven : (ws : List (Bor (List ℕ))) → 7 ≤ length ws → length ws < 8 → texts ws ≡ word ws 0 ∷ word ws 1 ∷ word ws 2 ∷ word ws 3 ∷ word ws 4 ∷ word ws 5 ∷ word ws 6 ∷ []
seven (a ∷ b ∷ c ∷ d ∷ e ∷ f ∷ g ∷ []) low high = refl
seven [] low high = absurd (omega arith)
seven (a ∷ []) low high = absurd (omega arith)
seven (a ∷ b ∷ []) low high = absurd (omega arith)
seven (a ∷ b ∷ c ∷ []) low high = absurd (omega arith)
seven (a ∷ b ∷ c ∷ d ∷ []) low high = absurd (omega arith)
seven (a ∷ b ∷ c ∷ d ∷ e ∷ []) low high = absurd (omega arith)
seven (a ∷ b ∷ c ∷ d ∷ e ∷ f ∷ []) low high = absurd (omega arith)
seven (a ∷ b ∷ c ∷ d ∷ e ∷ f ∷ g ∷ h ∷ ws) low high = absurd (omega arith)

-- the seven words of a switch
pub switch_found : (ws : List (Bor (List ℕ))) (prev next : NamedThread) (state : ℤ) → 7 ≤ length ws → length ws < 8 → IsThread (word ws 0) (word ws 1) (word ws 2) prev → IsSigned (word ws 3) state → FitsSigned w64 state
    → IsThread (word ws 4) (word ws 5) (word ws 6) next → IsOf event_kind.Switch (texts ws) (Switch state prev.tid next.tid prev.prio next.prio prev.comm next.comm)
switch_found ws prev next state low high p s fits n = (
  state,
  prev.tid,
  next.tid,
  prev.prio,
  next.prio,
  prev.comm,
  next.comm,
  record {
    spelled = rw (seven ws low high, p.is_tid, p.is_comm.spelling, p.is_prio, s, n.is_tid, n.is_comm.spelling, n.is_prio) refl;
    fit = (p.tid_below, p.is_comm.is_name, p.prio_fits, fits, n.tid_below, n.is_comm.is_name, n.prio_fits);
  },
  refl,
)

-- the seven words of a segment
pub segment_found : (ws : List (Bor (List ℕ))) (key : SegKey) → 7 ≤ length ws → length ws < 8 → IsNumber (word ws 0) key.saddr → IsNumber (word ws 1) key.daddr → IsNumber (word ws 2) key.source_port → IsNumber (word ws 3) key.dest_port → IsNumber (word ws 4) key.seq → IsNumber (word ws 5) key.ack_seq → IsNumber (word ws 6) key.flags
    → IsSegKey key → IsSegment (texts ws) key
segment_found ws key low high a b c d e f g fits = record { spelled = rw (seven ws low high, a, b, c, d, e, f, g) refl; fit = fits }

pub no_dest_port : (ws : List (Bor (List ℕ))) → ((n : ℕ) → n < 2 ^ 16 → ¬ (IsNumber (word ws 3) n)) → (key : SegKey) → ¬ (IsSegment (texts ws) key)
no_dest_port ws none key is = none key.dest_port is.fit.3 (word_is ws _ 3 is.spelled)

pub no_flags : (ws : List (Bor (List ℕ))) → ((n : ℕ) → n < 2 ^ 16 → ¬ (IsNumber (word ws 6) n)) → (key : SegKey) → ¬ (IsSegment (texts ws) key)
no_flags ws none key is = none key.flags is.fit.6 (word_is ws _ 6 is.spelled)

-- where the words of a thread are none, the line is of no switch
pub no_prev : (ws : List (Bor (List ℕ))) → ((t : NamedThread) → ¬ (IsThread (word ws 0) (word ws 1) (word ws 2) t)) → (k : KernelEvent) → ¬ (IsOf event_kind.Switch (texts ws) k)
no_prev ws none k (s, pt, nt, pp, np, pc, nc, is, same) =
    let e = is.spelled in
    none (record { tid = pt; prio = pp; comm = pc }) (record { is_tid = word_is ws _ 0 e; tid_below = is.fit.0; is_comm = record { spelling = word_is ws _ 1 e; is_name = is.fit.1 }; is_prio = word_is ws _ 2 e; prio_fits = is.fit.2 })

pub no_state : (ws : List (Bor (List ℕ))) → ((z : ℤ) → FitsSigned w64 z → ¬ (IsSigned (word ws 3) z)) → (k : KernelEvent) → ¬ (IsOf event_kind.Switch (texts ws) k)
no_state ws none k (s, pt, nt, pp, np, pc, nc, is, same) = none s is.fit.3 (word_is ws _ 3 is.spelled)

pub no_next : (ws : List (Bor (List ℕ))) → ((t : NamedThread) → ¬ (IsThread (word ws 4) (word ws 5) (word ws 6) t)) → (k : KernelEvent) → ¬ (IsOf event_kind.Switch (texts ws) k)
no_next ws none k (s, pt, nt, pp, np, pc, nc, is, same) =
    let e = is.spelled in
    none (record { tid = nt; prio = np; comm = nc }) (record { is_tid = word_is ws _ 4 e; tid_below = is.fit.4; is_comm = record { spelling = word_is ws _ 5 e; is_name = is.fit.5 }; is_prio = word_is ws _ 6 e; prio_fits = is.fit.6 })

-- nor of a wakeup
pub no_woken : (ws : List (Bor (List ℕ))) → ((t : NamedThread) → ¬ (IsThread (word ws 0) (word ws 1) (word ws 2) t)) → (tid : ℕ) (comm : List ℕ) (prio : ℤ) (cpu : ℕ) → ¬ (IsWakeup (texts ws) tid comm prio cpu)
no_woken ws none tid comm prio cpu is =
    let e = is.spelled in
    none (record { tid = tid; prio = prio; comm = comm }) (record { is_tid = word_is ws _ 0 e; tid_below = is.fit.0; is_comm = record { spelling = word_is ws _ 1 e; is_name = is.fit.1 }; is_prio = word_is ws _ 2 e; prio_fits = is.fit.2 })

pub no_target : (ws : List (Bor (List ℕ))) → ((n : ℕ) → n < 2 ^ 31 → ¬ (IsNumber (word ws 3) n)) → (tid : ℕ) (comm : List ℕ) (prio : ℤ) (cpu : ℕ) → ¬ (IsWakeup (texts ws) tid comm prio cpu)
no_target ws none tid comm prio cpu is = none cpu is.fit.3 (word_is ws _ 3 is.spelled)

-- no event has the time 0
pub no_time : (key host cpu time : List ℕ) (t : ℕ) → IsNumber time t → t ≡ 0 → (p : LineHead) → ¬ (IsLineHead key host cpu time p)
no_time key host cpu time t is zero_time p place =
    let e : decimal t ≡ decimal p.time = sym is ∙ place.time_is in
    let same : t ≡ p.time = same_number t p.time (below_wide t 1 (omega (arith, zero_time)) (omega arith)) (below_wide p.time (2 ^ 62) place.time_in.1 (omega arith)) e in
    omega (arith, same, zero_time, place.time_in.0)

behind : (a b c d : Bor (List ℕ)) (vs : List (Bor (List ℕ))) → take (length (a ∷ b ∷ c ∷ d ∷ vs) - 4) vs ≡ vs
behind a b c d vs = ap (λ n. take n vs) (omega arith) ∙ take-length vs

abbrev pub parsed_line_of : LineHead → ParsedKind → ParsedLine
parsed_line_of p k = record { event = record { key = p.key; event = record { time = p.time; host = p.host; cpu = p.cpu; kind = k.kind } }; name = k.name }

-- four words of a place, and those of a kind
pub line_there : (ws : List (Bor (List ℕ))) (p : LineHead) (k : ParsedKind) → 4 ≤ length ws → IsLineHead (word ws 0) (word ws 1) (word ws 2) (word ws 3) p → IsKindLine (texts (take (length ws - 4) (drop 4 ws))) k → IsLine (texts ws) (parsed_line_of p k)
line_there (a ∷ b ∷ c ∷ d ∷ vs) p k some place line =
    let spelled : texts vs ≡ kind_words (k.name ∷ []) k.kind = ap texts (sym (behind a b c d vs)) ∙ line.spelling in
    record {
      spelling = rw (place.key_is, place.host_is, place.cpu_is, place.time_is, spelled) refl;
      is_parsed_line = record { key = place.key_below; host = place.host_below; cpu = place.cpu_below; time = place.time_in; kind = line.is_kind };
    }
line_there [] p k some place line = absurd (omega (arith, some))
line_there (a ∷ []) p k some place line = absurd (omega (arith, some))
line_there (a ∷ b ∷ []) p k some place line = absurd (omega (arith, some))
line_there (a ∷ b ∷ c ∷ []) p k some place line = absurd (omega (arith, some))

abbrev pub place_of : ParsedLine → LineHead
place_of t = record { key = t.event.key; host = t.event.event.host; cpu = t.event.event.cpu; time = t.event.event.time }

pub no_line_head_there : (ws : List (Bor (List ℕ))) → ((p : LineHead) → ¬ (IsLineHead (word ws 0) (word ws 1) (word ws 2) (word ws 3) p)) → (t : ParsedLine) → ¬ (IsLine (texts ws) t)
no_line_head_there ws none t line =
    let e = line.spelling in
    let is = line.is_parsed_line in
    none (place_of t) (record { key_is = word_is ws _ 0 e; key_below = is.key; host_is = word_is ws _ 1 e; host_below = is.host; cpu_is = word_is ws _ 2 e; cpu_below = is.cpu; time_is = word_is ws _ 3 e; time_in = is.time })

pub no_kind_there : (ws : List (Bor (List ℕ))) → 4 ≤ length ws → ((k : ParsedKind) → ¬ (IsKindLine (texts (take (length ws - 4) (drop 4 ws))) k)) → (t : ParsedLine) → ¬ (IsLine (texts ws) t)
no_kind_there (a ∷ b ∷ c ∷ d ∷ vs) some none t line =
    none (record { kind = t.event.event.kind; name = t.name }) (record { spelling = ap texts (behind a b c d vs) ∙ rest (line.spelling); is_kind = line.is_parsed_line.kind })
  where
    rest : {p q r s : List ℕ} {us : List (List ℕ)} → texts (a ∷ b ∷ c ∷ d ∷ vs) ≡ p ∷ q ∷ r ∷ s ∷ us → texts vs ≡ us
    rest e = cc
no_kind_there [] some none t line = absurd (omega (arith, some))
no_kind_there (a ∷ []) some none t line = absurd (omega (arith, some))
no_kind_there (a ∷ b ∷ []) some none t line = absurd (omega (arith, some))
no_kind_there (a ∷ b ∷ c ∷ []) some none t line = absurd (omega (arith, some))

pub too_short : (ws : List (Bor (List ℕ))) → length ws < 4 → (t : ParsedLine) → ¬ (IsLine (texts ws) t)
too_short ws short t line = let size : length ws ≡ length (texts ws) = sym (length-map ws (λ w. w.now)) in omega (arith, short, size, ap length line.spelling)
