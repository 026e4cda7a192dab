use Rattle.trace_metadata.proofs.OneRefusal.{one_refusal}
use Rattle.trace_metadata.proofs.OneTrace.{not_refused, one_trace}
use Rattle.trace_metadata.proofs.laws.one_trace.Goals as goal

pub returns-clause-trace : goal.returns-clause-trace
returns-clause-trace c = one_trace

pub returns-clause-refused : goal.returns-clause-refused
returns-clause-refused c = not_refused

pub returns-clause-one_refusal : goal.returns-clause-one_refusal
returns-clause-one_refusal c = one_refusal
