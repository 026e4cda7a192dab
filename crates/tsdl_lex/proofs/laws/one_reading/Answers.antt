use Rattle.tsdl_lex.proofs.Pieces.{no_refusal, one_list, one_refusal}
use Rattle.tsdl_lex.proofs.laws.one_reading.Goals as goal

pub returns-clause-tokens : goal.returns-clause-tokens
returns-clause-tokens c = one_list

pub returns-clause-refused : goal.returns-clause-refused
returns-clause-refused c = no_refusal

pub returns-clause-one_refusal : goal.returns-clause-one_refusal
returns-clause-one_refusal c = one_refusal
