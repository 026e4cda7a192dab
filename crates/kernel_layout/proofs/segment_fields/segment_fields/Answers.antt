use Rattle.kernel_layout.specs.SegmentParts.{SegmentPart}
use Rattle.kernel_layout.proofs.segment_fields.segment_fields.Goals as goal

pub returns-clause-saddr : goal.returns-clause-saddr
returns-clause-saddr c = c.find_in.ensures SegmentPart.saddr

pub returns-clause-daddr : goal.returns-clause-daddr
returns-clause-daddr c = c.find_in.ensures SegmentPart.daddr

pub returns-clause-source_port : goal.returns-clause-source_port
returns-clause-source_port c = c.find_in.ensures SegmentPart.source_port

pub returns-clause-dest_port : goal.returns-clause-dest_port
returns-clause-dest_port c = c.find_in.ensures SegmentPart.dest_port

pub returns-clause-seq : goal.returns-clause-seq
returns-clause-seq c = c.find_in.ensures SegmentPart.seq

pub returns-clause-ack_seq : goal.returns-clause-ack_seq
returns-clause-ack_seq c = c.find_in.ensures SegmentPart.ack_seq

pub returns-clause-flags : goal.returns-clause-flags
returns-clause-flags c = c.find_in.ensures SegmentPart.flags
