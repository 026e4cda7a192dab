use Rattle.indexmap.specs.IndexMap.{keys}
use Rattle.message_match.proofs.Tables.{found_at}
use Rattle.message_match.proofs.segments.index_of.Goals as goal

pub returns-in_default-clause-found : goal.returns-in_default-clause-found
returns-in_default-clause-found c = found_at c.args.key c.get_index_of.result (keys c.args.segments.now) c.get_index_of.ensures.index
