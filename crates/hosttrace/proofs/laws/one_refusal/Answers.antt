use Rattle.hosttrace.proofs.OneRefusal as refusal
use Rattle.hosttrace.proofs.laws.one_refusal.Goals as goal

pub returns : goal.returns
returns c = refusal.one_refusal
