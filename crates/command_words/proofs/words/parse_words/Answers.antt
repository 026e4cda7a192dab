use Rattle.std.proofs.Common.{rules, ◌≡◌, map, string_bytes, sym, ap, ◌∙◌, subst}
use Rattle.command_words.specs.OrderedWords.{ordered_words}
use Rattle.command_words.specs.Shapes.{Gives}
use Rattle.command_words.proofs.OneCommand.{asks_nothing, gives_nothing}
use Rattle.command_words.proofs.words.parse_words.Goals as goal

pub returns-in_err-given-clause-usage : goal.returns-in_err-given-clause-usage
returns-in_err-given-clause-usage c = λ e. gives_nothing (map string_bytes c.args.words.now) (c.in_err-given.ensures.usage (search rules))

pub returns-in_err-shape-clause-usage : goal.returns-in_err-shape-clause-usage
returns-in_err-shape-clause-usage c =
    let ordered : map string_bytes c.deref.result.now ≡ ordered_words c.in_ok-given.given = ap (map string_bytes) c.deref.ensures.value ∙ c.in_ok-ordered.ensures in
    λ e. absurd (c.in_err-shape.ensures.usage c.in_ok-given.given ordered (search rules))

pub returns-in_err-read_command-clause-usage : goal.returns-in_err-read_command-clause-usage
returns-in_err-read_command-clause-usage c =
    let ordered : map string_bytes c.deref.result.now ≡ ordered_words c.in_ok-given.given = ap (map string_bytes) c.deref.ensures.value ∙ c.in_ok-ordered.ensures in
    let same = c.in_ok-shape.ensures.found c.in_ok-given.given ordered in
    λ e. asks_nothing (map string_bytes c.args.words.now) c.in_ok-shape.shape (subst (Gives (map string_bytes c.args.words.now)) (sym same) c.in_ok-given.ensures.found) (c.in_err-read_command.ensures.usage (search rules))

pub returns-clause-found : goal.returns-clause-found
returns-clause-found c =
    let ordered : map string_bytes c.deref.result.now ≡ ordered_words c.in_ok-given.given = ap (map string_bytes) c.deref.ensures.value ∙ c.in_ok-ordered.ensures in
    let same = c.in_ok-shape.ensures.found c.in_ok-given.given ordered in
    record { shape = c.in_ok-shape.shape; gives = subst (Gives (map string_bytes c.args.words.now)) (sym same) c.in_ok-given.ensures.found; is_asked = c.in_ok-read_command.ensures.found }
