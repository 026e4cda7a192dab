use Rattle.std.proofs.Common.{◌≡◌, ◌+◌, ℕ, [], ◌++◌, Result, sym, ap, subst, ◌∙◌, refl, drop, Err, arith, append-nil}
use Rattle.std.proofs.lemmas.List.{take_rest, length-drop, drop_all}
use Rattle.tsdl_lex.specs.declared.scan.LexError.{LexError}
use Rattle.tsdl_lex.specs.declared.scan.LexError.TheVariants as error
use Rattle.tsdl_lex.specs.Lexemes.{IsFirst, IsNone}
use Rattle.tsdl_lex.specs.Tokens.{Leads, with_token, AreSlices}
use Rattle.tsdl_lex.proofs.Fronts.{at_none, at_some}
use Rattle.tsdl_lex.proofs.Pieces.{HasRead, read_more, slices_of}
use Rattle.tsdl_lex.proofs.scan.tokens.Goals as goal

place_of : {A : Type 0} {a b : ℕ} (x y : Result A LexError) → x ≡ Err (error.At a) → y ≡ Err (error.At b) → x ≡ y → a ≡ b
place_of x y p q e = cc

pub returns-in_default-clause-refused : goal.returns-in_default-clause-refused
returns-in_default-clause-refused c at same =
    let text = c.args.text.now in
    let start = c.loop-start.start in
    let read = c.loop-start.invariant in
    let here : start ≡ at = place_of _ _ refl refl same in
    let none = at_none _ _ c.in_ok-lexeme.field-0 c.in_default.is c.in_ok-lexeme.ensures in
    let size = length-drop start text in
    record {
      pieces = read.pieces;
      rest = drop start text;
      leads = read.leads;
      some = omega (arith, size, c.loop-start-test.true);
      none = subst IsNone (take_rest text start) none;
      place = omega (arith, size, here, read.inside);
    }

pub loop-start-preserved-in_ok-push : goal.loop-start-preserved-in_ok-push
loop-start-preserved-in_ok-push c =
    let text = c.args.text.now in
    let start = c.loop-start.start in
    let n = c.in-Some.len in
    let l = c.in-Some.lexeme in
    let first = at_some _ _ c.in_ok-lexeme.field-0 (l, n) c.in-Some.is c.in_ok-lexeme.ensures in
    let more = read_more text start n l c.loop-start.tokens.items c.loop-start.invariant (subst (λ t. IsFirst t n l) (take_rest text start) first) in
    let pushed = c.in_ok-push.ensures.items in
    let same : c.push.new.self.items ≡ c.loop-start.tokens.items ++ with_token l start n [] = pushed ∙ ap (λ x. c.loop-start.tokens.items ++ with_token x start n []) (sym c.in-Token.is) in
    subst (HasRead text (start + n)) (sym same) more

pub loop-start-preserved : goal.loop-start-preserved
loop-start-preserved c =
    let text = c.args.text.now in
    let start = c.loop-start.start in
    let n = c.in-Some.len in
    let l = c.in-Some.lexeme in
    let first = at_some _ _ c.in_ok-lexeme.field-0 (l, n) c.in-Some.is c.in_ok-lexeme.ensures in
    let more = read_more text start n l c.loop-start.tokens.items c.loop-start.invariant (subst (λ t. IsFirst t n l) (take_rest text start) first) in
    let same : c.loop-start.tokens.items ++ with_token l start n [] ≡ c.loop-start.tokens.items = ap (λ x. c.loop-start.tokens.items ++ with_token x start n []) c.in_default-lexeme.is ∙ append-nil c.loop-start.tokens.items in
    subst (HasRead text (start + n)) same more

pub returns-clause-slices : goal.returns-clause-slices
returns-clause-slices c =
    let text = c.args.text.now in
    let read = c.loop-start.invariant in
    subst (AreSlices text 0) (sym read.tokens_are) (slices_of text 0 read.pieces (drop c.loop-start.start text) (omega arith) read.leads)

pub returns-clause-tokens : goal.returns-clause-tokens
returns-clause-tokens c =
    let text = c.args.text.now in
    let read = c.loop-start.invariant in
    let none : drop c.loop-start.start text ≡ [] = drop_all c.loop-start.start text c.loop-start-test.false in
    record { pieces = read.pieces; leads = subst (Leads text read.pieces) none read.leads; tokens_are = read.tokens_are }
