use Rattle.std.proofs.Common.{◌≡◌, ◌+◌, ◌-◌, ℕ, ◌∷◌, [], ◌++◌, Result, Err, None, length, sym, ap, subst, ◌∙◌, refl, arith}
use Rattle.tsdl_parser.specs.declared.text.ParseError.{ParseError}
use Rattle.tsdl_parser.specs.declared.text.ParseError.TheVariants.{Syntax}
use Rattle.tsdl_parser.specs.declared.fault.Fault.{Fault}
use Rattle.tsdl_parser.specs.declared.fault.Fault.TheVariants.{Refused}
use Rattle.tsdl_parser.specs.Parsers.{Outcome, Reads}
use Rattle.tsdl_parser.specs.Grammar.{Tokens}
use Rattle.tsdl_parser.proofs.Reading.{HasRead, read_none, read_more, read_less, no_item}
use Rattle.tsdl_parser.proofs.text.parse_items.Goals as goal

pub loop-rest-init : goal.loop-rest-init
loop-rest-init c = rw (c.new-rest.ensures, c.new-decls.ensures.items) (read_none c.args.tokens.now c.requires)

pub loop-rest-smaller : goal.loop-rest-smaller
loop-rest-smaller c = let r = c.in-Ok.ensures in read_less c.loop-rest.rest c.item.new.tokens c.in-Ok.item r

pub loop-rest-preserved : goal.loop-rest-preserved
loop-rest-preserved c =
    let tokens = c.args.tokens.now in
    let first = length tokens - length c.loop-rest.rest in
    let less = c.loop-rest.invariant.less in
    let place : first + length c.loop-rest.rest ≡ length tokens = omega (arith, less) in
    let more = read_more tokens c.loop-rest.rest c.item.new.tokens c.loop-rest.decls.items (record { first = first; item = c.in-Ok.item }) c.loop-rest.invariant c.in-Ok.ensures place in
    let pushed = c.in_ok-push-in-Ok.ensures.items in
    let same : c.push.new.self.items ≡ c.loop-rest.decls.items ++ record { first = first; item = c.in-Ok.item } ∷ [] = pushed ∙ ap (λ n. c.loop-rest.decls.items ++ record { first = length tokens - n; item = c.in-Ok.item } ∷ []) c.left-in-loop-rest.ensures in
    subst (HasRead tokens c.item.new.tokens) (sym same) more

syntax_is : {A : Type 0} {a b : ℕ} (x y : Result A ParseError) → x ≡ Err (Syntax a) → y ≡ Err (Syntax b) → x ≡ y → a ≡ b
syntax_is x y p q e = cc

refused_none : {A : Type 0} (o : Outcome A) (e : Fault) (new : Tokens) → e ≡ Refused → Reads {A = A} o (Err e) new → o ≡ None
refused_none o e new is h = subst (λ x. Reads o (Err x) new) is h

pub returns-in-Err-Refused-clause-syntax : goal.returns-in-Err-Refused-clause-syntax
returns-in-Err-Refused-clause-syntax c number same =
    let read = c.loop-rest.invariant in
    let here : c.len.result + 1 ≡ number = syntax_is _ _ refl refl same in
    record {
      shallow = c.requires;
      decls = c.loop-rest.decls.items;
      rest = c.loop-rest.rest;
      leads = read.leads;
      some = omega (arith, c.loop-rest-test.true, c.left.ensures);
      none = no_item c.loop-rest.rest read.fits (refused_none _ _ _ c.in-Err-Refused.field-0-is c.in-Err-Refused.ensures);
      number = omega (arith, here, c.len.ensures);
    }
