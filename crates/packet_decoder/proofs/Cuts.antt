-- A file that is cut piece by piece.
use Rattle.std.proofs.Common.{◌≡◌, ◌∙◌, ℕ, zero, suc, ◌+◌, ◌-◌, ◌<◌, ◌≤◌, ◌++◌, List, [], ◌∷◌, length, drop, Ok, Err, refl, sym, ap, arith}
use Rattle.std.proofs.lemmas.List.{append_assoc, append-nil, drop_all, length-append, length-drop}
use Rattle.type_table.specs.TraceMetas.{TraceMetaModel}
use Rattle.trace_types.specs.declared.cause.Cause.{Cause}
use Rattle.packet_decoder.specs.declared.piece.PacketSpan.{PacketSpan}
use Rattle.packet_decoder.specs.declared.piece.Piece.{Piece}
use Rattle.packet_decoder.specs.declared.piece.Piece.TheVariants.{Packet, Bad}
use Rattle.packet_decoder.specs.Packets.{packets_in}
use Rattle.packet_decoder.specs.Pieces.{AllLieIn, PieceLiesIn, packet_at, pieces_by, pieces_from}

one_packet : (n m : ℕ) (meta : TraceMetaModel) (offset : ℕ) (rest : List ℕ) (span : PacketSpan) → n ≡ suc m → 1 ≤ length rest → packet_at meta offset rest ≡ Ok span
    → pieces_from n meta offset rest ≡ Packet span ∷ pieces_from m meta (offset + span.bytes) (drop span.bytes rest)
unfolding pieces_from
one_packet n m meta offset [] span is some found = absurd (omega (arith, some))
one_packet n m meta offset (b ∷ rest) span is some found =
    ap (λ k. pieces_from k meta offset (b ∷ rest)) is
    ∙ ap (λ r. pieces_by r offset (λ s. pieces_from m meta (offset + s.bytes) (drop s.bytes (b ∷ rest)))) found

one_bad : (n m : ℕ) (meta : TraceMetaModel) (offset : ℕ) (rest : List ℕ) (cause : Cause) → n ≡ suc m → 1 ≤ length rest → packet_at meta offset rest ≡ Err cause
    → pieces_from n meta offset rest ≡ Bad offset cause ∷ []
unfolding pieces_from
one_bad n m meta offset [] cause is some found = absurd (omega (arith, some))
one_bad n m meta offset (b ∷ rest) cause is some found =
    ap (λ k. pieces_from k meta offset (b ∷ rest)) is
    ∙ ap (λ r. pieces_by r offset (λ s. pieces_from m meta (offset + s.bytes) (drop s.bytes (b ∷ rest)))) found

none_left : (n : ℕ) (meta : TraceMetaModel) (offset : ℕ) → pieces_from n meta offset [] ≡ []
unfolding pieces_from
none_left zero meta offset = refl
none_left (suc n) meta offset = refl

drop_twice : (bytes : List ℕ) (i j : ℕ) → drop j (drop i bytes) ≡ drop (i + j) bytes
drop_twice bytes zero j = ap (λ n. drop n bytes) (zero_plus j)
  where
    zero_plus : (j : ℕ) → j ≡ 0 + j
    zero_plus j = omega arith
drop_twice [] (suc i) j = drop_all j [] (omega arith) ∙ sym (drop_all (suc i + j) [] (omega arith))
drop_twice (b ∷ bytes) (suc i) j = drop_twice bytes i j ∙ ap (λ n. drop n (b ∷ bytes)) (suc_plus i j)
  where
    suc_plus : (i j : ℕ) → suc (i + j) ≡ suc i + j
    suc_plus i j = omega arith

-- with a packet more
pub goes_on : (meta : TraceMetaModel) (file : List ℕ) (offset : ℕ) (found : List Piece) (span : PacketSpan) → offset < length file → length found ≤ offset → packet_at meta offset (drop offset file) ≡ Ok span
    → found ++ pieces_from (length file - length found) meta offset (drop offset file)
    ≡ (found ++ Packet span ∷ []) ++ pieces_from (length file - length (found ++ Packet span ∷ [])) meta (offset + span.bytes) (drop (offset + span.bytes) file)
goes_on meta file offset found span left few is =
    ap (λ ps. found ++ ps) (one_packet (length file - length found) (length file - length (found ++ Packet span ∷ [])) meta offset (drop offset file) span (omega (arith, left, few, length-append found (Packet span ∷ []))) (omega (arith, left, length-drop offset file)) is
    ∙ ap (λ rest. Packet span ∷ pieces_from (length file - length (found ++ Packet span ∷ [])) meta (offset + span.bytes) rest) (drop_twice file offset span.bytes))
    ∙ sym (append_assoc found (Packet span ∷ []) (pieces_from (length file - length (found ++ Packet span ∷ [])) meta (offset + span.bytes) (drop (offset + span.bytes) file)))

-- with the last piece
pub ends_badly : (meta : TraceMetaModel) (file : List ℕ) (offset : ℕ) (found : List Piece) (cause : Cause) → offset < length file → length found ≤ offset → packet_at meta offset (drop offset file) ≡ Err cause
    → found ++ pieces_from (length file - length found) meta offset (drop offset file) ≡ found ++ Bad offset cause ∷ []
ends_badly meta file offset found cause left few is =
    ap (λ ps. found ++ ps) (one_bad (length file - length found) (length file - length found - 1) meta offset (drop offset file) cause (omega (arith, left, few)) (omega (arith, left, length-drop offset file)) is)

-- at the end
pub ends_well : (meta : TraceMetaModel) (file : List ℕ) (offset n : ℕ) (found : List Piece) → length file ≤ offset → found ++ pieces_from n meta offset (drop offset file) ≡ found
ends_well meta file offset n found h = ap (λ ps. found ++ ps) (ap (pieces_from n meta offset) (drop_all offset file h) ∙ none_left n meta offset) ∙ append-nil found

pub lie_push : (file : List ℕ) (found : List Piece) (p : Piece) → AllLieIn file found → PieceLiesIn file p → AllLieIn file (found ++ p ∷ [])
lie_push file [] p all h = (h, tt)
lie_push file (q ∷ found) p all h = (all.0, lie_push file found p all.1 h)

-- ---- how many packets there are

pub packets_append : (ps qs : List Piece) → packets_in (ps ++ qs) ≡ packets_in ps + packets_in qs
packets_append [] qs = omega arith
packets_append (Packet span ∷ ps) qs = let rest = packets_append ps qs in omega (arith, rest)
packets_append (Bad offset cause ∷ ps) qs = packets_append ps qs

-- with a packet more, all are packets
pub all_packets : (found : List Piece) (span : PacketSpan) → packets_in found ≡ length found → packets_in (found ++ Packet span ∷ []) ≡ length (found ++ Packet span ∷ [])
all_packets found span all = omega (arith, all, packets_append found (Packet span ∷ []), length-append found (Packet span ∷ []))

-- there is one more than those that were found, at least
pub one_too_many : (found rest all : List Piece) (span : PacketSpan) (most : ℕ) → packets_in found ≡ length found → most ≤ length found → (found ++ Packet span ∷ []) ++ rest ≡ all → most < packets_in all
one_too_many found rest all span most are many e =
    let total : packets_in all ≡ packets_in (found ++ Packet span ∷ []) + packets_in rest = ap packets_in (sym e) ∙ packets_append (found ++ Packet span ∷ []) rest in
    omega (arith, total, all_packets found span are, length-append found (Packet span ∷ []), many)

pub few_with_rest : (found all : List Piece) (offset : ℕ) (cause : Cause) (most : ℕ) → packets_in found ≡ length found → length found ≤ most → all ≡ found ++ Bad offset cause ∷ [] → packets_in all ≤ most
few_with_rest found all offset cause most are few e = omega (arith, ap packets_in e, packets_append found (Bad offset cause ∷ []), are, few)
