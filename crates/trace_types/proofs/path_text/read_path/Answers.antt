use Rattle.std.proofs.Common.{rules, ◌∷◌, ◌++◌, ◌∙◌, ap}
use Rattle.trace_types.proofs.PathWords.{first_is, no_second, no_third, none_spelled}
use Rattle.trace_types.proofs.path_text.read_path.Goals as goal

pub returns-in_err-kind-clause-none : goal.returns-in_err-kind-clause-none
returns-in_err-kind-clause-none c =
    let begun = first_is c.args.text.now 104 (search rules) (search rules) in
    let host = c.in_ok-host.ensures.found in
    rw c.from_residual-in_err-kind.ensures (λ p. no_second c.args.text.now c.in_ok-host.host.now c.in_ok-host.rest.now p (begun ∙ ap (λ l. 104 ∷ l) host.0) host.1 c.in_err-kind.ensures.none)

pub returns-in_err-key-clause-none : goal.returns-in_err-key-clause-none
returns-in_err-key-clause-none c =
    let begun = first_is c.args.text.now 104 (search rules) (search rules) in
    let host = c.in_ok-host.ensures.found in
    let kind = c.in_ok-kind.ensures.found in
    rw c.from_residual-in_err-key.ensures (λ p. no_third c.args.text.now c.in_ok-host.host.now c.in_ok-kind.kind.now c.in_ok-kind.rest.now p
    (begun ∙ ap (λ l. 104 ∷ l) (host.0 ∙ ap (λ l. c.in_ok-host.host.now ++ 47 ∷ l) kind.0)) host.1 kind.1 c.in_err-key.ensures.none)

pub returns-clause-none : goal.returns-clause-none
returns-clause-none c =
    let begun = first_is c.args.text.now 104 (search rules) (search rules) in
    let host = c.in_ok-host.ensures.found in
    let kind = c.in_ok-kind.ensures.found in
    let key = c.in_ok-key.ensures.found in
    none_spelled c.in_ok-host.host.now c.in_ok-kind.kind.now c.in_ok-key.key.now c.in_ok-key.leaf.now c.read_words.result c.args.text.now
    (begun ∙ ap (λ l. 104 ∷ l) (host.0 ∙ ap (λ l. c.in_ok-host.host.now ++ 47 ∷ l) (kind.0 ∙ ap (λ l. c.in_ok-kind.kind.now ++ 47 ∷ l) key.0))) host.1 kind.1 key.1 c.read_words.ensures.none
