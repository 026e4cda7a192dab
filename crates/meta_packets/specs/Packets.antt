-- Metadata packets (CTF 1.8, section 7.1): a header of 37 bytes, the text, and padding.
use Rattle.std.specs.Prelude.{◌≡◌, ◌≢◌, ◌⊎◌, ℕ, ◌+◌, ◌-◌, ◌*◌, ◌/◌, ◌%◌, ◌<◌, ◌≤◌, ◌==◌, ◌||◌, not, nat_lt, Bool, if◌then◌else◌, List, [], ◌∷◌, length, take, drop, slice_index, flat_map, Option, None, Some, codes}
use Rattle.trace_types.specs.Texts.{same_bytes}
use Rattle.byteorder.specs.Endian.{big_number, little_number}
use Rattle.trace_types.specs.declared.byte_order.ByteOrderKind.{ByteOrderKind}
use Rattle.trace_types.specs.declared.byte_order.ByteOrderKind.TheVariants.{Big, Little}
use Rattle.meta_packets.specs.declared.header.MetaPacketCause.{MetaPacketCause}
use Rattle.meta_packets.specs.declared.header.MetaPacketCause.TheVariants.{ShortHeader, BadMagic, Scheme, BadSize, MixedUuid}

abbrev pub MAGIC : ℕ
MAGIC = 1976638807

-- the bytes of a header
abbrev pub HEADER : ℕ
HEADER = 37

-- the number in the first four bytes
abbrev pub number : ByteOrderKind → List ℕ → ℕ
number Big bytes = big_number 4 bytes
number Little bytes = little_number 4 bytes

-- a packet's header: the uuid after the magic number, then the checksum, both sizes in bits, and a byte each for compression and encryption
abbrev pub uuid_of : List ℕ → List ℕ
uuid_of packet = take 16 (drop 4 packet)

abbrev pub content_bits : ByteOrderKind → List ℕ → ℕ
content_bits order packet = number order (drop 24 packet)

abbrev pub packet_bits : ByteOrderKind → List ℕ → ℕ
packet_bits order packet = number order (drop 28 packet)

-- text that is compressed or encrypted can't be read
abbrev pub is_coded : List ℕ → Bool
is_coded packet = not (slice_index packet 32 == 0) || not (slice_index packet 33 == 0)

-- sizes are whole bytes; the content holds the header, the packet the content, and what is left the packet
abbrev pub is_missized : ℕ → ℕ → ℕ → Bool
is_missized content packet left = not (content % 8 == 0) || (not (packet % 8 == 0) || (nat_lt content (8 * HEADER) || (nat_lt packet content || nat_lt (8 * left) packet)))

-- the first check that what is left of a file fails as a packet of this byte order and uuid
abbrev pub cause_of : ByteOrderKind → List ℕ → List ℕ → Option MetaPacketCause
cause_of order uuid rest =
    if nat_lt (length rest) HEADER then Some ShortHeader
    else if not (number order rest == MAGIC) then Some BadMagic
    else if is_coded rest then Some Scheme
    else if is_missized (content_bits order rest) (packet_bits order rest) (length rest) then Some BadSize
    else if not (same_bytes (uuid_of rest) uuid) then Some MixedUuid
    else None

-- the text of the packet at the front, and what is left after it
abbrev pub content_of : ByteOrderKind → List ℕ → List ℕ
content_of order rest = take (content_bits order rest / 8 - HEADER) (drop HEADER rest)

abbrev pub behind : ByteOrderKind → List ℕ → List ℕ
behind order rest = drop (packet_bits order rest / 8) rest

-- a packet that passes all checks stands at the front, with this text
pub record IsPacket (order : ByteOrderKind) (uuid rest content : List ℕ) : Type 0 where
  pub some : 0 < length rest
  pub sound : cause_of order uuid rest ≡ None
  pub text : content ≡ content_of order rest

-- packets with these texts stand one after the other, and leave a rest
abbrev pub Leads : ByteOrderKind → List ℕ → List ℕ → List (List ℕ) → List ℕ → Type 0
Leads order uuid bytes [] rest = bytes ≡ rest
Leads order uuid bytes (content ∷ contents) rest = IsPacket order uuid bytes content × Leads order uuid (behind order bytes) contents rest

abbrev pub joined : List (List ℕ) → List ℕ
joined contents = flat_map (λ c. c) contents

-- a file is packets where it begins with the magic number in one of the byte orders
abbrev pub IsPackets : ByteOrderKind → List ℕ → Type 0
IsPackets Big bytes = (4 ≤ length bytes) × (number Big bytes ≡ MAGIC)
IsPackets Little bytes = (4 ≤ length bytes) × (number Big bytes ≢ MAGIC) × (number Little bytes ≡ MAGIC)

abbrev pub IsPlain : List ℕ → Type 0
IsPlain bytes = (order : ByteOrderKind) → ¬ (IsPackets order bytes)

-- the text of a file: its packets' texts, joined, or the file itself
pub record IsJoin (order : ByteOrderKind) (bytes text : List ℕ) : Type 0 where
  pub is_packets : IsPackets order bytes
  pub contents : List (List ℕ)
  pub packets : Leads order (uuid_of bytes) bytes contents []
  pub is_text : text ≡ joined contents

abbrev pub IsText : List ℕ → List ℕ → Type 0
IsText bytes text = (IsPlain bytes × (text ≡ bytes)) ⊎ ((order : ByteOrderKind) × IsJoin order bytes text)

-- after sound packets, at this offset in bytes, the first check that fails
pub record IsRefused (order : ByteOrderKind) (bytes : List ℕ) (offset : ℕ) (cause : MetaPacketCause) : Type 0 where
  pub is_packets : IsPackets order bytes
  pub contents : List (List ℕ)
  pub rest : List ℕ
  pub packets : Leads order (uuid_of bytes) bytes contents rest
  pub some : 0 < length rest
  pub fails : cause_of order (uuid_of bytes) rest ≡ Some cause
  pub place : offset + length rest ≡ length bytes

-- the words of the causes (this project's own)
abbrev pub cause_text : MetaPacketCause → List ℕ
cause_text ShortHeader = codes "ShortHeader"
cause_text BadMagic = codes "BadMagic"
cause_text Scheme = codes "Scheme"
cause_text BadSize = codes "BadSize"
cause_text MixedUuid = codes "MixedUuid"
