use Rattle.meta_packets.proofs.OneText.{no_refusal, one_refusal, one_text}
use Rattle.meta_packets.proofs.laws.one_text.Goals as goal

pub returns-clause-text : goal.returns-clause-text
returns-clause-text c = one_text

pub returns-clause-refused : goal.returns-clause-refused
returns-clause-refused c = no_refusal

pub returns-clause-one_refusal : goal.returns-clause-one_refusal
returns-clause-one_refusal c = one_refusal
