-- The pieces of a stream file are the same by two representations of one trace.
use Rattle.std.proofs.Common.{◌≡◌, ◌∙◌, ℕ, zero, suc, ◌+◌, ◌*◌, ◌^◌, List, [], ◌∷◌, length, drop, Option, Some, None, Result, Ok, Err, codes, unwrap_or, refl, ap, ap₂}
use Rattle.type_table.specs.SameTrace.{IsSameTrace}
use Rattle.type_table.specs.TraceMetas.{IsSoundMeta, TraceMetaModel}
use Rattle.ctf_fields.specs.declared.field.Field.{Field}
use Rattle.ctf_fields.specs.Values.{below_if_any, number_named, value_named}
use Rattle.ctf_fields.proofs.Alike.{AlikeIf}
use Rattle.trace_types.specs.declared.cause.Cause.{Cause}
use Rattle.packet_decoder.specs.PacketHeads.{and_then, packet_head}
use Rattle.packet_decoder.specs.Pieces.{packet_at, pieces, pieces_by, pieces_from, sizes, span_by, span_of}
use Rattle.packet_decoder.specs.Values.{counter_in}
use Rattle.packet_decoder.specs.declared.packet_head.PacketHead.{PacketHead}
use Rattle.packet_decoder.specs.declared.piece.Counter.{Counter}
use Rattle.packet_decoder.specs.declared.piece.PacketSpan.{PacketSpan}
use Rattle.packet_decoder.specs.declared.piece.Piece.{Piece}
use Rattle.packet_decoder.specs.declared.piece.Piece.TheVariants as piece
use Rattle.ctf_fields.proofs.AlikeFields.{named_alike, value_alike}
use Rattle.packet_decoder.proofs.AlikePacketHeads.{AlikePacketHead, AnswersBoth, same_heading}
use Rattle.packet_decoder.proofs.AlikeValues.{same_counter}

span_parts : ℕ → ℕ × ℕ → ℕ → ℕ → ℕ → ℕ → Option Counter → Option Counter → PacketSpan
span_parts offset s start stream begin cpu seq discarded = record { offset = offset; bytes = s.0; start_bit = start; content_bits = s.1; stream = stream; begin = begin; cpu = cpu; seq = seq; discarded = discarded }

same_parts : (offset : ℕ) (s : ℕ × ℕ) (start start2 stream stream2 begin begin2 cpu cpu2 : ℕ) (seq seq2 discarded discarded2 : Option Counter) → start ≡ start2 → stream ≡ stream2 → begin ≡ begin2 → cpu ≡ cpu2 → seq ≡ seq2 → discarded ≡ discarded2
    → Path (Result PacketSpan Cause) (Ok (record { offset = offset; bytes = s.0; start_bit = start; content_bits = s.1; stream = stream; begin = begin; cpu = cpu; seq = seq; discarded = discarded })) (Ok (record { offset = offset; bytes = s.0; start_bit = start2; content_bits = s.1; stream = stream2; begin = begin2; cpu = cpu2; seq = seq2; discarded = discarded2 }))
unfolding span_parts
same_parts offset s start start2 stream stream2 begin begin2 cpu cpu2 seq seq2 discarded discarded2 a b c d e f =
    ap (λ x. Ok (span_parts offset s x stream begin cpu seq discarded)) a ∙ (ap (λ x. Ok (span_parts offset s start2 x begin cpu seq discarded)) b ∙ (ap (λ x. Ok (span_parts offset s start2 stream2 x cpu seq discarded)) c
    ∙ (ap (λ x. Ok (span_parts offset s start2 stream2 begin2 x seq discarded)) d ∙ (ap (λ x. Ok (span_parts offset s start2 stream2 begin2 cpu2 x discarded)) e ∙ ap (λ x. Ok (span_parts offset s start2 stream2 begin2 cpu2 seq2 x)) f))))

module _ (m n : TraceMetaModel) (sm : IsSoundMeta m) (sn : IsSoundMeta n) (same : IsSameTrace m n) where
  same_value : (name : List ℕ) (f g : Option Field) → AlikeIf m.table n.table f g → value_named m.table name f ≡ value_named n.table name g
  same_value name f g h = value_alike m.table n.table name f g h

  same_count : (name : List ℕ) (f g : Option Field) → AlikeIf m.table n.table f g → counter_in m.table (number_named m.table name f) ≡ counter_in n.table (number_named n.table name g)
  same_count name f g h = same_counter m.table n.table sm.table sn.table _ _ (named_alike m.table n.table name f g h)

  same_span_by : (offset : ℕ) (h k : PacketHead) (s : Option (ℕ × ℕ)) → AlikePacketHead m n sm sn same h k → span_by m.table offset h.scopes.packet_context h s ≡ span_by n.table offset k.scopes.packet_context k s
  same_span_by offset h k None a = refl
  same_span_by offset h k (Some s) a =
      let begin = same_value (codes "timestamp_begin") h.scopes.packet_context k.scopes.packet_context a.scopes.packet_context in
      let cpu = same_value (codes "cpu_id") h.scopes.packet_context k.scopes.packet_context a.scopes.packet_context in
      let seq = same_count (codes "packet_seq_num") h.scopes.packet_context k.scopes.packet_context a.scopes.packet_context in
      let discarded = same_count (codes "events_discarded") h.scopes.packet_context k.scopes.packet_context a.scopes.packet_context in
      same_parts offset s h.start k.start h.stream k.stream _ _ _ _ _ _ _ _ a.start a.stream (ap (λ v. unwrap_or (below_if_any (2 ^ 64) v) 0) begin) (ap (λ v. unwrap_or (below_if_any 4294967296 v) 0) cpu) seq discarded

  same_span_of : (offset left : ℕ) (h k : PacketHead) → AlikePacketHead m n sm sn same h k → span_of m.table offset left h ≡ span_of n.table offset left k
  unfolding span_of
  same_span_of offset left h k a =
      let packet = same_value (codes "packet_size") h.scopes.packet_context k.scopes.packet_context a.scopes.packet_context in
      let content = same_value (codes "content_size") h.scopes.packet_context k.scopes.packet_context a.scopes.packet_context in
      let s : sizes left h.start (value_named m.table (codes "packet_size") h.scopes.packet_context) (value_named m.table (codes "content_size") h.scopes.packet_context) ≡ sizes left k.start (value_named n.table (codes "packet_size") k.scopes.packet_context) (value_named n.table (codes "content_size") k.scopes.packet_context)
      = ap (λ x. sizes left x (value_named m.table (codes "packet_size") h.scopes.packet_context) (value_named m.table (codes "content_size") h.scopes.packet_context)) a.start ∙ ap₂ (sizes left k.start) packet content in
      same_span_by offset h k _ a ∙ ap (span_by n.table offset k.scopes.packet_context k) s

  same_packet : (offset : ℕ) (rest : List ℕ) → packet_at m offset rest ≡ packet_at n offset rest
  unfolding packet_at
  same_packet offset rest = by (packet_head m rest) (packet_head n rest) (same_heading m n sm sn same rest)
    where
      by : (x y : Result PacketHead Cause) → AnswersBoth (AlikePacketHead m n sm sn same) x y → and_then x (span_of m.table offset (8 * length rest)) ≡ and_then y (span_of n.table offset (8 * length rest))
      by (Ok h) (Ok k) a = same_span_of offset (8 * length rest) h k a
      by (Ok h) (Err d) a = absurd a
      by (Err c) (Ok k) a = absurd a
      by (Err c) (Err d) a = ap Err a

  same_by : (r : Result PacketSpan Cause) (offset : ℕ) (f g : PacketSpan → List Piece) → ((span : PacketSpan) → f span ≡ g span) → pieces_by r offset f ≡ pieces_by r offset g
  same_by (Ok span) offset f g h = ap (λ ps. piece.Packet span ∷ ps) (h span)
  same_by (Err c) offset f g h = refl

  same_from : (most offset : ℕ) (rest : List ℕ) → pieces_from most m offset rest ≡ pieces_from most n offset rest
  unfolding pieces_from
  same_from zero offset rest = refl
  same_from (suc most) offset [] = refl
  same_from (suc most) offset (b ∷ rest) =
      ap (λ r. pieces_by r offset (λ span. pieces_from most m (offset + span.bytes) (drop span.bytes (b ∷ rest)))) (same_packet offset (b ∷ rest))
      ∙ same_by (packet_at n offset (b ∷ rest)) offset _ _ (λ span. same_from most (offset + span.bytes) (drop span.bytes (b ∷ rest)))

  pub same_pieces : (file : List ℕ) → pieces m file ≡ pieces n file
  same_pieces file = same_from (length file) 0 file
