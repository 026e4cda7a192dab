use Rattle.std.proofs.Common.{◌≡◌, ◌≤◌, Err, length, arith, map, string_bytes, sym, ap, ap₂, ◌∙◌}
use Rattle.std.proofs.lemmas.List.{length-map}
use Rattle.clap.specs.Lexer.{usize_max}
use Rattle.clap.specs.Words.{app_of, is_simple, matches_of, takes}
use Rattle.command_words.specs.Matching.{app}
use Rattle.command_words.specs.declared.words.WordsError.TheVariants as failure
use Rattle.command_words.proofs.Found.{found_is}
use Rattle.command_words.proofs.Taken.{are_taken}
use Rattle.command_words.proofs.matched.read_words.Goals as goal

pub returns-in-Ok-clause-found : goal.returns-in-Ok-clause-found
returns-in-Ok-clause-found c s e =
    let same : app_of c.in_ok-command.command ≡ app = c.in_ok-command.ensures in
    found_is _ s ((c.in-Ok.ensures.matches (ap is_simple same)).0 ∙ ap₂ matches_of same e)

pub returns-in-Err-clause-usage : goal.returns-in-Err-clause-usage
returns-in-Err-clause-usage c s e f =
    let same : app_of c.in_ok-command.command ≡ app = c.in_ok-command.ensures in
    let few : length (map string_bytes c.args.words.now) ≤ usize_max = omega (arith, length-map c.args.words.now (string_bytes {Z = _}), c.count_of-count.ensures) in
    let memory = c.words_error.ensures (c.in-Err.ensures.passes (ap (λ a. takes a (map string_bytes c.args.words.now)) same ∙ are_taken (map string_bytes c.args.words.now) s few e)) in
    let no : Err failure.OutOfMemory ≡ Err failure.Usage = ap Err (sym memory) ∙ f in
    absurd (cc)
