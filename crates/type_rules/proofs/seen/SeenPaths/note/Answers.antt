use Rattle.type_scope.specs.Said.{same_words}
use Rattle.type_rules.proofs.Noted.{kept, stood}
use Rattle.type_rules.proofs.seen.SeenPaths.note.Goals as goal

pub returns-clause-stood : goal.returns-clause-stood
returns-clause-stood c = stood (λ p. p.now) same_words c.args.path c.self.inside.paths.keys c.in_ok-insert.field-0 c.args.self.now c.self.view_is c.in_ok-insert.ensures.added

pub returns-clause-noted : goal.returns-clause-noted
returns-clause-noted c = kept (λ p. p.now) same_words c.args.path c.self.inside.paths.keys c.insert.new.self.keys c.args.self.now c.self.view_is c.in_ok-insert.ensures.keys
