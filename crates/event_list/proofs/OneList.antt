-- Bytes are one event list at most, and tell one trace at most.
use Rattle.std.proofs.Common.{◌≡◌, ◌≢◌, ◌⊎◌, inl, inr, ℕ, ℤ, suc, ◌<◌, ◌^◌, Bool, true, false, if◌then◌else◌, List, [], ◌∷◌, ◌++◌, length, get_or, refl, sym, ap, ap₂, ◌∙◌, subst, arith, FitsSigned}
use Rattle.std.specs.Prelude.{flat_map, ◌==◌}
use Rattle.std.specs.List.{AllByRecursion, slice_split, join_with_byte}
use Rattle.std.specs.Fmt.{decimal, signed_decimal}
use Rattle.std.specs.Int.{w32, w64}
use Rattle.std.proofs.lemmas.Fmt.{signed_decimal_injective}
use Rattle.trace_types.specs.ByteTexts.{byte_text}
use Rattle.trace_types.specs.Comms.{IsName}
use Rattle.trace_types.proofs.Cutting.{same_front}
use Rattle.trace_types.proofs.Decimals.{same_decimal, same_number}
use Rattle.trace_types.proofs.OneByteText.{same_text}
use Rattle.trace_types.specs.declared.event.KernelEvent.{KernelEvent}
use Rattle.trace_types.specs.declared.event.KernelEvent.TheVariants as kind
use Rattle.trace_types.specs.declared.segment.SegKey.{SegKey}
use Rattle.trace_types.specs.EventKinds.{kind_of_event}
use Rattle.trace_types.specs.declared.event_kind.EventKind.{EventKind}
use Rattle.trace_types.specs.declared.event_kind.EventKind.TheVariants.{Switch, Wakeup, WakeupNew, Waking, Fork, Exit, Free, Migrate, IrqIn, IrqOut, SoftIn, SoftOut, Process, Send, Receive, DiskIssue, DiskDone, Lost}
use Rattle.event_list.specs.declared.parsed_line.ParsedLine.{ParsedLine}
use Rattle.event_list.specs.declared.trace.MergedTrace.{MergedTrace}
use Rattle.event_list.specs.Kinds.{IsLost, IsOf, IsOne, IsRequest, IsSegment, IsWakeup}
use Rattle.event_list.specs.Lines.{IsEventList, IsKind, IsParsedLine, field_words, first_line, kind_words, parsed_text, parsed_words}
use Rattle.event_list.specs.Names.{IsTrace, names_of, numbered}
use Rattle.event_list.specs.Order.{host_count}
use Rattle.event_list.specs.NamedKinds.{named_event}
use Rattle.event_list.proofs.KindViews.{IsNamedKind, IsPlainKind, by_kind}
use Rattle.event_list.proofs.KindWords.{first_is, none_or_some, one_some, rest_is, same_word}
use Rattle.event_list.proofs.Spelling.{are_words, joined_no_end, mag_32, mag_64, split_joined, wide}
use Rattle.event_list.proofs.Reading.{line_and, nonempty}

-- ---- numbers and names of one field

small : (m n : ℕ) → m < 2 ^ 31 → n < 2 ^ 31 → decimal m ≡ decimal n → m ≡ n
small m n h g e = same_decimal m n (2 ^ 31) h g (omega arith) e

signed_32 : (y z : ℤ) → FitsSigned w32 y → FitsSigned w32 z → signed_decimal y ≡ signed_decimal z → y ≡ z
signed_32 y z h g e = signed_decimal_injective y z (mag_32 y h) (mag_32 z g) e

signed_64 : (y z : ℤ) → FitsSigned w64 y → FitsSigned w64 z → signed_decimal y ≡ signed_decimal z → y ≡ z
signed_64 y z h g e = signed_decimal_injective y z (mag_64 y h) (mag_64 z g) e

comm : (a b : List ℕ) → IsName a → IsName b → byte_text a ≡ byte_text b → a ≡ b
comm a b h g e = same_text a b h.bytes g.bytes e

one_number : (fields : List (List ℕ)) (m n : ℕ) → IsOne fields m → IsOne fields n → m ≡ n
one_number fields m n h g = let e : decimal m ∷ [] ≡ decimal n ∷ [] = sym h.spelled ∙ g.spelled in small m n h.below g.below (cc)

-- ---- fields of a name are one event's

woken : (fields : List (List ℕ)) (make : ℕ → List ℕ → ℤ → ℕ → KernelEvent) (t u : ℕ) (c d : List ℕ) (p q : ℤ) (x y : ℕ) → IsWakeup fields t c p x → IsWakeup fields u d q y → make t c p x ≡ make u d q y
woken fields make t u c d p q x y h g =
    let e : decimal t ∷ byte_text c ∷ signed_decimal p ∷ decimal x ∷ [] ≡ decimal u ∷ byte_text d ∷ signed_decimal q ∷ decimal y ∷ [] = sym h.spelled ∙ g.spelled in
    let tid = small t u h.fit.0 g.fit.0 (cc) in
    let name = comm c d h.fit.1 g.fit.1 (cc) in
    let prio = signed_32 p q h.fit.2 g.fit.2 (cc) in
    let cpu = small x y h.fit.3 g.fit.3 (cc) in
    λ i. make (tid i) (name i) (prio i) (cpu i)

segment : (fields : List (List ℕ)) (a b : SegKey) → IsSegment fields a → IsSegment fields b → a ≡ b
segment fields a b h g =
    let e : decimal a.saddr ∷ decimal a.daddr ∷ decimal a.source_port ∷ decimal a.dest_port ∷ decimal a.seq ∷ decimal a.ack_seq ∷ decimal a.flags ∷ [] ≡ decimal b.saddr ∷ decimal b.daddr ∷ decimal b.source_port ∷ decimal b.dest_port ∷ decimal b.seq ∷ decimal b.ack_seq ∷ decimal b.flags ∷ [] = sym h.spelled ∙ g.spelled in
    let saddr = same_number a.saddr b.saddr h.fit.0 g.fit.0 (cc) in
    let daddr = same_number a.daddr b.daddr h.fit.1 g.fit.1 (cc) in
    let source = same_decimal a.source_port b.source_port (2 ^ 16) h.fit.2 g.fit.2 (omega arith) (cc) in
    let dest = same_decimal a.dest_port b.dest_port (2 ^ 16) h.fit.3 g.fit.3 (omega arith) (cc) in
    let seq = same_decimal a.seq b.seq (2 ^ 32) h.fit.4 g.fit.4 (omega arith) (cc) in
    let ack = same_decimal a.ack_seq b.ack_seq (2 ^ 32) h.fit.5 g.fit.5 (omega arith) (cc) in
    let flags = same_decimal a.flags b.flags (2 ^ 16) h.fit.6 g.fit.6 (omega arith) (cc) in
    λ i. record { saddr = saddr i; daddr = daddr i; seq = seq i; ack_seq = ack i; source_port = source i; dest_port = dest i; flags = flags i }

request : (fields : List (List ℕ)) (make : ℕ → ℕ → ℕ → KernelEvent) (s t d e n m : ℕ) → IsRequest fields s d n → IsRequest fields t e m → make s d n ≡ make t e m
request fields make s t d e n m h g =
    let all : decimal d ∷ decimal s ∷ decimal n ∷ [] ≡ decimal e ∷ decimal t ∷ decimal m ∷ [] = sym h.spelled ∙ g.spelled in
    let sector = same_number s t (wide s h.fit.0) (wide t g.fit.0) (cc) in
    let dev = same_decimal d e (2 ^ 32) h.fit.1 g.fit.1 (omega arith) (cc) in
    let count = same_decimal n m (2 ^ 32) h.fit.2 g.fit.2 (omega arith) (cc) in
    λ i. make (sector i) (dev i) (count i)

gap_number : Bool → ℕ
gap_number gap = if gap then 1 else 0

gap_below : (gap : Bool) → gap_number gap < 2
unfolding gap_number
gap_below true = omega arith
gap_below false = omega arith

same_gap : (a b : Bool) → gap_number a ≡ gap_number b → a ≡ b
unfolding gap_number
same_gap true true e = refl
same_gap true false e = absurd (omega (arith, e))
same_gap false true e = absurd (omega (arith, e))
same_gap false false e = refl

loss : (fields : List (List ℕ)) (m n : ℕ) (a b : Bool) → IsLost fields m a → IsLost fields n b → kind.Lost m a ≡ kind.Lost n b
unfolding gap_number
loss fields m n a b h g =
    let e : decimal m ∷ decimal (gap_number a) ∷ [] ≡ decimal n ∷ decimal (gap_number b) ∷ [] = sym h.spelled ∙ g.spelled in
    let events = same_number m n (wide m h.fit) (wide n g.fit) (cc) in
    let gap = same_gap a b (same_decimal (gap_number a) (gap_number b) 2 (gap_below a) (gap_below b) (omega arith) (cc)) in
    λ i. kind.Lost (events i) (gap i)

one_of : (w : EventKind) (fields : List (List ℕ)) (k l : KernelEvent) → IsOf w fields k → IsOf w fields l → k ≡ l
one_of Switch fields k l (s, pt, nt, pp, np, pc, nc, h, e) (s', pt', nt', pp', np', pc', nc', g, f) =
    let all : decimal pt ∷ byte_text pc ∷ signed_decimal pp ∷ signed_decimal s ∷ decimal nt ∷ byte_text nc ∷ signed_decimal np ∷ [] ≡ decimal pt' ∷ byte_text pc' ∷ signed_decimal pp' ∷ signed_decimal s' ∷ decimal nt' ∷ byte_text nc' ∷ signed_decimal np' ∷ [] = sym h.spelled ∙ g.spelled in
    let prev = small pt pt' h.fit.0 g.fit.0 (cc) in
    let prev_comm = comm pc pc' h.fit.1 g.fit.1 (cc) in
    let prev_prio = signed_32 pp pp' h.fit.2 g.fit.2 (cc) in
    let state = signed_64 s s' h.fit.3 g.fit.3 (cc) in
    let next = small nt nt' h.fit.4 g.fit.4 (cc) in
    let next_comm = comm nc nc' h.fit.5 g.fit.5 (cc) in
    let next_prio = signed_32 np np' h.fit.6 g.fit.6 (cc) in
    e ∙ ((λ i. kind.Switch (state i) (prev i) (next i) (prev_prio i) (next_prio i) (prev_comm i) (next_comm i)) ∙ sym f)
one_of Wakeup fields k l (t, c, p, x, h, e) (u, d, q, y, g, f) = e ∙ (woken fields kind.Wakeup t u c d p q x y h g ∙ sym f)
one_of WakeupNew fields k l (t, c, p, x, h, e) (u, d, q, y, g, f) = e ∙ (woken fields kind.WakeupNew t u c d p q x y h g ∙ sym f)
one_of Waking fields k l (t, c, p, x, h, e) (u, d, q, y, g, f) = e ∙ (woken fields kind.Waking t u c d p q x y h g ∙ sym f)
one_of Fork fields k l (p, c, n, h, e) (q, d, m, g, f) =
    let all : decimal p ∷ decimal c ∷ byte_text n ∷ [] ≡ decimal q ∷ decimal d ∷ byte_text m ∷ [] = sym h.spelled ∙ g.spelled in
    let parent = small p q h.fit.0 g.fit.0 (cc) in
    let child = small c d h.fit.1 g.fit.1 (cc) in
    let name = comm n m h.fit.2 g.fit.2 (cc) in
    e ∙ ((λ i. kind.Fork (parent i) (child i) (name i)) ∙ sym f)
one_of Migrate fields k l (t, c, h, e) (u, d, g, f) =
    let all : decimal t ∷ decimal c ∷ [] ≡ decimal u ∷ decimal d ∷ [] = sym h.spelled ∙ g.spelled in
    let tid = small t u h.fit.0 g.fit.0 (cc) in
    let cpu = small c d h.fit.1 g.fit.1 (cc) in
    e ∙ ((λ i. kind.Migrate (tid i) (cpu i)) ∙ sym f)
one_of Process fields k l (t, p, n, s, h, e) (u, q, m, r, g, f) =
    let all : decimal t ∷ decimal p ∷ byte_text n ∷ decimal s ∷ [] ≡ decimal u ∷ decimal q ∷ byte_text m ∷ decimal r ∷ [] = sym h.spelled ∙ g.spelled in
    let tid = small t u h.fit.0 g.fit.0 (cc) in
    let parent = small p q h.fit.1 g.fit.1 (cc) in
    let name = comm n m h.fit.2 g.fit.2 (cc) in
    let status = small s r h.fit.3 g.fit.3 (cc) in
    e ∙ ((λ i. kind.Process (tid i) (parent i) (name i) (status i)) ∙ sym f)
one_of Send fields k l (a, h, e) (b, g, f) = e ∙ (ap kind.Send (segment fields a b h g) ∙ sym f)
one_of Receive fields k l (a, h, e) (b, g, f) = e ∙ (ap kind.Receive (segment fields a b h g) ∙ sym f)
one_of DiskIssue fields k l (s, d, n, h, e) (t, c, m, g, f) = e ∙ (request fields kind.DiskIssue s t d c n m h g ∙ sym f)
one_of DiskDone fields k l (s, d, n, h, e) (t, c, m, g, f) = e ∙ (request fields kind.DiskDone s t d c n m h g ∙ sym f)
one_of Lost fields k l (m, a, h, e) (n, b, g, f) = e ∙ (loss fields m n a b h g ∙ sym f)
one_of Exit fields k l (m, h, e) (n, g, f) = e ∙ (ap kind.Exit (one_number fields m n h g) ∙ sym f)
one_of Free fields k l (m, h, e) (n, g, f) = e ∙ (ap kind.Free (one_number fields m n h g) ∙ sym f)
one_of IrqIn fields k l (m, h, e) (n, g, f) = e ∙ (ap kind.IrqIn (one_number fields m n h g) ∙ sym f)
one_of IrqOut fields k l (m, h, e) (n, g, f) = e ∙ (ap kind.IrqOut (one_number fields m n h g) ∙ sym f)
one_of SoftIn fields k l (m, h, e) (n, g, f) = e ∙ (ap kind.SoftIn (one_number fields m n h g) ∙ sym f)
one_of SoftOut fields k l (m, h, e) (n, g, f) = e ∙ (ap kind.SoftOut (one_number fields m n h g) ∙ sym f)
one_of w fields k l h g = absurd h

-- ---- words are one event's

same_kind : (m n : List ℕ) (k l : KernelEvent) → IsKind m k → IsKind n l → kind_words (m ∷ []) k ≡ kind_words (n ∷ []) l → (m ≡ n) × (k ≡ l)
same_kind m n k l h g e = by (by_kind m k h) (by_kind n l g)
  where
    kind_is : kind_of_event k ≡ kind_of_event l
    kind_is = same_word (kind_of_event k) (kind_of_event l) (first_is _ _ _ _ e)

    fields_are : field_words (m ∷ []) k ≡ field_words (n ∷ []) l
    fields_are = rest_is _ _ _ _ e

    by : IsPlainKind m k ⊎ IsNamedKind m k → IsPlainKind n l ⊎ IsNamedKind n l → (m ≡ n) × (k ≡ l)
    by (inl a) (inl b) = (
      a.empty ∙ sym b.empty,
      one_of (kind_of_event k) (field_words (m ∷ []) k) k l (a.fields (m ∷ [])) (subst (λ w. IsOf w (field_words (m ∷ []) k) l) (sym kind_is) (subst (λ fs. IsOf (kind_of_event l) fs l) (sym fields_are) (b.fields (n ∷ [])))),
    )
    by (inl a) (inr b) = absurd (none_or_some l _ (ap named_event (sym kind_is) ∙ a.unnamed) b.named)
    by (inr a) (inl b) = absurd (none_or_some k _ (ap named_event kind_is ∙ b.unnamed) a.named)
    by (inr a) (inr b) = (
      same_text m n a.field.are_bytes b.field.are_bytes (first_is _ _ _ _ (sym a.field.spelled ∙ (fields_are ∙ b.field.spelled))),
      one_some k l (sym a.named ∙ (ap named_event kind_is ∙ b.named)),
    )

same_told : (t u : ParsedLine) → IsParsedLine t → IsParsedLine u → parsed_words t ≡ parsed_words u → t ≡ u
same_told t u h g e =
    let m = t.event in
    let n = u.event in
    let all : decimal m.key ∷ decimal m.event.host ∷ decimal m.event.cpu ∷ decimal m.event.time ∷ kind_words (t.name ∷ []) m.event.kind ≡ decimal n.key ∷ decimal n.event.host ∷ decimal n.event.cpu ∷ decimal n.event.time ∷ kind_words (u.name ∷ []) n.event.kind = e in
    let key = same_decimal m.key n.key (2 ^ 62) h.key g.key (omega arith) (cc) in
    let host = same_decimal m.event.host n.event.host 64 h.host g.host (omega arith) (cc) in
    let cpu = same_decimal m.event.cpu n.event.cpu (2 ^ 32) h.cpu g.cpu (omega arith) (cc) in
    let time = same_decimal m.event.time n.event.time (2 ^ 62) h.time.1 g.time.1 (omega arith) (cc) in
    let what = same_kind t.name u.name m.event.kind n.event.kind h.kind g.kind (cc) in
    λ i. record { name = what.0 i; event = record { key = key i; event = record { time = time i; host = host i; cpu = cpu i; kind = what.1 i } } }

-- ---- lines are one list

first_line_alike : (t u : ParsedLine) (xs ys : List ℕ) → IsParsedLine t → IsParsedLine u → parsed_text t ++ xs ≡ parsed_text u ++ ys → (t ≡ u) × (xs ≡ ys)
first_line_alike t u xs ys h g e =
    let cut = same_front 10 (join_with_byte 32 (parsed_words t)) (join_with_byte 32 (parsed_words u)) xs ys (joined_no_end (parsed_words t) (are_words t h)) (joined_no_end (parsed_words u) (are_words u g)) (sym (line_and t xs) ∙ (e ∙ line_and u ys)) in
    (same_told t u h g (sym (split_joined _ _ (are_words t h)) ∙ (ap (slice_split (λ b. b == 32)) cut.0 ∙ split_joined _ _ (are_words u g))), cut.1)

no_text : (t : ParsedLine) (xs : List ℕ) → parsed_text t ++ xs ≢ []
no_text t xs e = nonempty (join_with_byte 32 (parsed_words t)) xs (sym (line_and t xs) ∙ e)

same_lines : (ts us : List ParsedLine) → AllByRecursion IsParsedLine ts → AllByRecursion IsParsedLine us → flat_map parsed_text ts ≡ flat_map parsed_text us → ts ≡ us
same_lines [] [] h g e = refl
same_lines [] (u ∷ us) h g e = absurd (no_text u (flat_map parsed_text us) (sym e))
same_lines (t ∷ ts) [] h g e = absurd (no_text t (flat_map parsed_text ts) e)
same_lines (t ∷ ts) (u ∷ us) h g e =
    let first = first_line_alike t u (flat_map parsed_text ts) (flat_map parsed_text us) h.0 g.0 e in
    ap₂ (λ x xs. x ∷ xs) first.0 (same_lines ts us h.1 g.1 first.1)

same_rest : (front xs ys : List ℕ) → front ++ xs ≡ front ++ ys → xs ≡ ys
same_rest [] xs ys e = e
same_rest (f ∷ fs) xs ys e = same_rest fs xs ys (cc)

pub one_list : (bytes : List ℕ) (ts us : List ParsedLine) → IsEventList bytes ts → IsEventList bytes us → ts ≡ us
one_list bytes ts us (text, is, h) (other, are, g) =
    let same = same_rest first_line text other (sym is ∙ are) in
    same_lines ts us h.each g.each (sym h.spelling ∙ (same ∙ g.spelling))

-- ---- and tell one trace

same_items : {A : Type 0} (xs ys : List A) (d : A) → length xs ≡ length ys → ((n : ℕ) → n < length xs → get_or xs n d ≡ get_or ys n d) → xs ≡ ys
same_items [] [] d e all = refl
same_items [] (y ∷ ys) d e all = absurd (omega (arith, e))
same_items (x ∷ xs) [] d e all = absurd (omega (arith, e))
same_items (x ∷ xs) (y ∷ ys) d e all = ap₂ (λ z zs. z ∷ zs) (all 0 (omega arith)) (same_items xs ys d (omega (arith, e)) (λ n h. all (suc n) (omega (arith, h))))

pub one_trace : (bytes : List ℕ) (ts us : List ParsedLine) (t u : MergedTrace) → IsEventList bytes ts → IsTrace ts t → IsEventList bytes us → IsTrace us u → (t.events.items ≡ u.events.items) × (t.names.items ≡ u.names.items)
one_trace bytes ts us t u h a g b =
    let same = one_list bytes ts us h g in
    let events = a.events ∙ (ap numbered same ∙ sym b.events) in
    let count = ap host_count events in (
      events,
      same_items t.names.items u.names.items [] (a.hosts ∙ (count ∙ sym b.hosts))
          (λ n in_t. let lt : n < host_count t.events.items = subst (λ k. n < k) a.hosts in_t in a.names n lt ∙ (ap (names_of n) same ∙ sym (b.names n (subst (λ k. n < k) count lt)))),
    )
