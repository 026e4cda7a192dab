use Rattle.hosttrace.proofs.OneText as text
use Rattle.hosttrace.proofs.laws.one_text.Goals as goal

pub returns-clause-text : goal.returns-clause-text
returns-clause-text c = text.one_text

pub returns-clause-good : goal.returns-clause-good
returns-clause-good c = text.good_files

pub returns-clause-refused : goal.returns-clause-refused
returns-clause-refused c = text.never_refused
