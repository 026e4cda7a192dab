use Rattle.decode_pool.proofs.AlikeHosts.{tell_same}
use Rattle.decode_pool.proofs.laws.one_list.Goals as goal

pub returns : goal.returns
returns c host m n files others sm sn same both = tell_same host m n sm sn same files others both
