use Rattle.hosttrace.proofs.hosts.read_host.Goals as goal

pub returns-clause-fails : goal.returns-clause-fails
returns-clause-fails c = c.host_meta.ensures.fails c.args.bytes.now c.read_metadata.ensures.refused
