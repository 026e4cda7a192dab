use Rattle.std.proofs.Common.{rules}
use Rattle.hosttrace.proofs.declared.declared_host.Goals as goal

pub returns-in_err-meta-clause-fails : goal.returns-in_err-meta-clause-fails
returns-in_err-meta-clause-fails c = let fails = c.in_err-meta.ensures.fails c.args.read.folder.metadata c.requires.refused in search rules
