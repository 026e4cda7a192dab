use Rattle.tsdl_parser.proofs.Reading.{not_refused, not_too_deep, one_depth, one_list, one_refusal, shallow_or_deep}
use Rattle.tsdl_parser.proofs.laws.one_reading.Goals as goal

pub returns-clause-decls : goal.returns-clause-decls
returns-clause-decls c = one_list

pub returns-clause-too_deep : goal.returns-clause-too_deep
returns-clause-too_deep c = not_too_deep

pub returns-clause-syntax : goal.returns-clause-syntax
returns-clause-syntax c = not_refused

pub returns-clause-one_depth : goal.returns-clause-one_depth
returns-clause-one_depth c = one_depth

pub returns-clause-one_item : goal.returns-clause-one_item
returns-clause-one_item c = one_refusal

pub returns-clause-one_cause : goal.returns-clause-one_cause
returns-clause-one_cause c = shallow_or_deep
