use Rattle.std.proofs.Common.{subst}
use Rattle.std.proofs.lemmas.Result.{IfOk-weaker}
use Rattle.hosttrace.specs.Read.{AreDeclared}
use Rattle.hosttrace.proofs.DeclaredFolders.{small_declared}
use Rattle.hosttrace.proofs.declared.declared_hosts.Goals as goal

pub returns-clause-small : goal.returns-clause-small
returns-clause-small g c = IfOk-weaker c.numbered_hosts.result _ _ (λ hosts h. small_declared 0 c.args.read.items hosts.items (subst (λ l. AreDeclared 0 l hosts.items) c.in_ok-folders.ensures.same h) c.requires.small) c.numbered_hosts.ensures.hosts
