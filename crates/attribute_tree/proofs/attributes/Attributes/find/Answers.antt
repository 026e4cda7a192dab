use Rattle.std.proofs.Common.{◌≡◌, ℕ, List, Option, Some, None, IfSome, slice_get, sym, ap, ◌∙◌}
use Rattle.trace_types.specs.declared.path.Path.{Path as AttributePath}
use Rattle.attribute_tree.specs.Numbered.{Numbered, number_among}
use Rattle.attribute_tree.proofs.Numbers.{number_stands}
use Rattle.attribute_tree.proofs.attributes.Attributes.find.Goals as goal

stands : (paths : List AttributePath) (path : AttributePath) (o : Option ℕ) → o ≡ number_among paths path → IfSome o (λ n. slice_get paths n ≡ Some path)
stands paths path None e = tt
stands paths path (Some n) e = number_stands paths path n (sym e)

pub returns-clause-number : goal.returns-clause-number
returns-clause-number c = c.number_of.ensures ∙ (c.self.invariant.kept.numbers c.args.path ∙ ap (λ (n : Numbered). number_among n.paths c.args.path) c.self.view_is)

pub returns-clause-found : goal.returns-clause-found
returns-clause-found c = stands c.args.self.now.paths c.args.path c.number_of.result (returns-clause-number c)
