-- The pieces that a stream file is cut into (CTF 1.8, section 5; the sizes that are taken for missing ones, and the order of the checks, are this project's own).
use Rattle.std.specs.Prelude.{ℕ, zero, suc, ℤ, pos, ◌+◌, ◌*◌, ◌/◌, ◌%◌, ◌^◌, ◌≤◌, ◌&&◌, ◌==◌, nat_le, List, [], ◌∷◌, length, drop, Option, Some, None, Result, Ok, Err, codes, unwrap_or, if◌then◌else◌}
use Rattle.type_table.specs.Table.{Table}
use Rattle.type_table.specs.TraceMetas.{TraceMetaModel}
use Rattle.ctf_fields.specs.declared.field.Field.{Field}
use Rattle.packet_decoder.specs.PacketHeads.{and_then, packet_head}
use Rattle.packet_decoder.specs.Values.{below_if_any, counter_in, number_named, value_named}
use Rattle.trace_types.specs.declared.cause.Cause.{Cause}
use Rattle.trace_types.specs.declared.cause.Cause.TheVariants as cause
use Rattle.packet_decoder.specs.declared.packet_head.PacketHead.{PacketHead}
use Rattle.packet_decoder.specs.declared.piece.PacketSpan.{PacketSpan}
use Rattle.packet_decoder.specs.declared.piece.Piece.{Piece}
use Rattle.packet_decoder.specs.declared.piece.Piece.TheVariants as piece

-- the size of a packet in bytes, and that of its content in bits, where they are right: the packet is whole bytes, at least one, and not more than are left; the content ends in it, and not before its first event
abbrev pub right_sizes : ℕ → ℕ → ℤ → ℤ → Option (ℕ × ℕ)
right_sizes left start (pos p) (pos c) =
    if p % 8 == 0 && nat_le 8 p && nat_le p left && nat_le c p && nat_le start c then Some (p / 8, c) else None
right_sizes left start _ _ = None

-- a missing size of the packet is that of its content, and else all that is left; a missing size of the content is that of the packet
abbrev pub sizes : ℕ → ℕ → Option ℤ → Option ℤ → Option (ℕ × ℕ)
sizes left start (Some p) (Some c) = right_sizes left start p c
sizes left start (Some p) None = right_sizes left start p p
sizes left start None (Some c) = right_sizes left start c c
sizes left start None None = right_sizes left start (pos left) (pos left)

abbrev pub span_by : Table → ℕ → Option Field → PacketHead → Option (ℕ × ℕ) → Result PacketSpan Cause
span_by t offset context h None = Err cause.BadSize
span_by t offset context h (Some s) = Ok (record {
  offset = offset;
  bytes = s.0;
  start_bit = h.start;
  content_bits = s.1;
  stream = h.stream;
  begin = unwrap_or (below_if_any (2 ^ 64) (value_named t (codes "timestamp_begin") context)) 0;
  cpu = unwrap_or (below_if_any 4294967296 (value_named t (codes "cpu_id") context)) 0;
  seq = counter_in t (number_named t (codes "packet_seq_num") context);
  discarded = counter_in t (number_named t (codes "events_discarded") context);
})

-- a packet with this head, at this offset in a file of which so many bits are left
unfoldable pub span_of : Table → ℕ → ℕ → PacketHead → Result PacketSpan Cause
span_of t offset left h =
    span_by t offset h.scopes.packet_context h (sizes left h.start (value_named t (codes "packet_size") h.scopes.packet_context) (value_named t (codes "content_size") h.scopes.packet_context))

-- the packet that these bytes begin with, which lie at this offset in a file
unfoldable pub packet_at : TraceMetaModel → ℕ → List ℕ → Result PacketSpan Cause
packet_at meta offset rest = and_then (packet_head meta rest) (span_of meta.table offset (8 * length rest))

abbrev pub pieces_by : Result PacketSpan Cause → ℕ → (PacketSpan → List Piece) → List Piece
pieces_by (Ok span) offset more = piece.Packet span ∷ more span
pieces_by (Err cause) offset more = piece.Bad offset cause ∷ []

-- the pieces of what is left from an offset in a file on, of which each takes a byte at least: so many at most
unfoldable pub pieces_from : ℕ → TraceMetaModel → ℕ → List ℕ → List Piece
pieces_from zero meta offset rest = []
pieces_from (suc most) meta offset [] = []
pieces_from (suc most) meta offset (b ∷ rest) =
    pieces_by (packet_at meta offset (b ∷ rest)) offset (λ span. pieces_from most meta (offset + span.bytes) (drop span.bytes (b ∷ rest)))

-- one packet after the other, up to the end or to an offset where none can be cut
abbrev pub pieces : TraceMetaModel → List ℕ → List Piece
pieces meta file = pieces_from (length file) meta 0 file

-- a packet that lies in a file, and whose content lies in it
pub record LiesIn (file : List ℕ) (span : PacketSpan) : Type 0 where
  pub bytes : span.offset + span.bytes ≤ length file
  pub content : span.content_bits ≤ 8 * span.bytes
  pub start : span.start_bit ≤ span.content_bits
  pub some : 1 ≤ span.bytes

abbrev pub PieceLiesIn : List ℕ → Piece → Type 0
PieceLiesIn file (piece.Packet span) = LiesIn file span
PieceLiesIn file (piece.Bad offset cause) = Unit {0}

abbrev pub AllLieIn : List ℕ → List Piece → Type 0
AllLieIn file [] = Unit {0}
AllLieIn file (p ∷ ps) = PieceLiesIn file p × AllLieIn file ps
