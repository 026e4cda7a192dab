use Rattle.std.proofs.Common.{append_assoc, codes}
use Rattle.std.specs.Fmt.{decimal}
use Rattle.trace_metadata.specs.Causes.{cause_text}
use Rattle.hosttrace.proofs.status_line.RefusalDisplay.fmt.Goals as goal

pub returns-in-BadMetadata-clause-writes : goal.returns-in-BadMetadata-clause-writes
returns-in-BadMetadata-clause-writes g c =
    rw (c.in-BadMetadata.is, append_assoc (decimal c.in-BadMetadata.host) (codes ": metadata ") (cause_text c.in-BadMetadata.cause)) c.write-in-BadMetadata.ensures.writes

pub returns-in-NoThread-clause-writes : goal.returns-in-NoThread-clause-writes
returns-in-NoThread-clause-writes g c = rw (c.in-NoThread.is, append_assoc (decimal c.in-NoThread.host) (codes ": no thread ") (decimal c.in-NoThread.tid)) c.write-in-NoThread.ensures.writes
