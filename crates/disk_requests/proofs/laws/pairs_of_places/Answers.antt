use Rattle.disk_requests.proofs.Places.{completions_pair, issues_pair}
use Rattle.disk_requests.proofs.laws.pairs_of_places.Goals as goal

pub returns-clause-completions : goal.returns-clause-completions
returns-clause-completions c = completions_pair

pub returns-clause-issues : goal.returns-clause-issues
returns-clause-issues c = issues_pair
