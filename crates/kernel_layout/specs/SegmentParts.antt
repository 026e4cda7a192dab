-- The fields that a segment is told by, and what was found of them so far. The first of a name counts (this project's own).
use Rattle.std.specs.Prelude.{◌≡◌, Option}
use Rattle.std.specs.Option.{option_copied}
use Rattle.type_table.specs.Types.{Text}
use Rattle.ctf_fields.specs.declared.field.Field.{Field}
use Rattle.ctf_fields.specs.Fields.{or_else}
use Rattle.kernel_layout.specs.declared.sought.Sought.{Sought}
use Rattle.kernel_layout.specs.declared.sought.Sought.TheVariants as sought
use Rattle.kernel_layout.specs.declared.segment_fields.SegmentFields.{SegmentFields}
use Rattle.kernel_layout.specs.Sought.{text_of}

-- a part of what tells a segment, which is a field of its own
pub data SegmentPart : Type 0 where
  saddr : SegmentPart
  daddr : SegmentPart
  source_port : SegmentPart
  dest_port : SegmentPart
  seq : SegmentPart
  ack_seq : SegmentPart
  flags : SegmentPart

-- the name of a part's field
abbrev pub sought_part : SegmentPart → Sought
sought_part SegmentPart.saddr = sought.Saddr
sought_part SegmentPart.daddr = sought.Daddr
sought_part SegmentPart.source_port = sought.SourcePort
sought_part SegmentPart.dest_port = sought.DestPort
sought_part SegmentPart.seq = sought.Seq
sought_part SegmentPart.ack_seq = sought.AckSeq
sought_part SegmentPart.flags = sought.Flags

-- the same as it is written
abbrev pub part_name : SegmentPart → Text
part_name p = text_of (sought_part p)

-- what was found of a part
abbrev pub found_of : SegmentPart → SegmentFields → Option Field
found_of SegmentPart.saddr found = option_copied found.saddr
found_of SegmentPart.daddr found = option_copied found.daddr
found_of SegmentPart.source_port found = option_copied found.source_port
found_of SegmentPart.dest_port found = option_copied found.dest_port
found_of SegmentPart.seq found = option_copied found.seq
found_of SegmentPart.ack_seq found = option_copied found.ack_seq
found_of SegmentPart.flags found = option_copied found.flags

-- of each part what was found before, or else what these find
abbrev pub Finds : (SegmentPart → Option Field) → SegmentFields → SegmentFields → Type 0
Finds find before after = (p : SegmentPart) → found_of p after ≡ or_else (found_of p before) (find p)
