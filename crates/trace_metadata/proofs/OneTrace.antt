-- A file declares at most one trace, and where it declares one it is refused nowhere.
use Rattle.std.proofs.Common.{◌≡◌, ◌∙◌, ℕ, List, sym, ap, subst}
use Rattle.type_scope.specs.Traces.{Trace}
use Rattle.meta_packets.proofs.OneText as packets
use Rattle.tsdl_lex.proofs.Pieces as lex
use Rattle.tsdl_lex.specs.Tokens.{IsTokens}
use Rattle.tsdl_lex.specs.declared.token.Token as lexed
use Rattle.tsdl_parser.proofs.Reading as parser
use Rattle.tsdl_parser.specs.Declarations.{IsParsed}
use Rattle.tsdl_parser.specs.declared.tree.Decl.{Decl}
use Rattle.tsdl_types.specs.Items.{Declared, Whole, Breaks, resolved}
use Rattle.type_table.specs.declared.cause.MetaItemCause.{MetaItemCause}
use Rattle.trace_metadata.specs.Files.{HasTokens, HasDecls, IsTrace, IsRefused}
use Rattle.trace_metadata.specs.declared.cause.MetaCause.{MetaCause}
use Rattle.trace_metadata.specs.declared.cause.MetaCause.TheVariants.{Packet, Byte, Token, Syntax, Item}

pub one_tokens : (bytes : List ℕ) (xs ys : List lexed.Token) → HasTokens bytes xs → HasTokens bytes ys → xs ≡ ys
one_tokens bytes xs ys h g = lex.one_list h.text xs ys h.are_tokens (subst (λ text. IsTokens text ys) (packets.one_text bytes g.text h.text g.is_text h.is_text) g.are_tokens)

pub one_decls : (bytes : List ℕ) (xs ys : List Decl) → HasDecls bytes xs → HasDecls bytes ys → xs ≡ ys
one_decls bytes xs ys h g = parser.one_list h.tokens xs ys h.are_decls (subst (λ tokens. IsParsed tokens ys) (one_tokens bytes g.tokens h.tokens g.has_tokens h.has_tokens) g.are_decls)

whole : Trace → Declared Trace → Trace
whole t (Whole u) = u
whole t (Breaks n cause) = t

whole_or_not : (t : Trace) (n : ℕ) (cause : MetaItemCause) (d : Declared Trace) → d ≡ Whole t → d ≡ Breaks n cause → ⊥
whole_or_not t n cause d a b = absurd (cc)

pub one_trace : (bytes : List ℕ) (a b : Trace) → IsTrace bytes a → IsTrace bytes b → a ≡ b
unfolding whole
one_trace bytes a b h g = ap (whole a) (sym h.declares ∙ (ap resolved (one_decls bytes h.decls g.decls h.has_decls g.has_decls) ∙ g.declares))

pub not_refused : (bytes : List ℕ) (t : Trace) (cause : MetaCause) → IsTrace bytes t → IsRefused bytes cause → ⊥
not_refused bytes t (Packet offset cause) h r = let has = h.has_decls.has_tokens in packets.no_refusal bytes has.text r.0 offset cause has.is_text r.1
not_refused bytes t (Byte at) h r =
    let has = h.has_decls.has_tokens in
    lex.no_refusal r.0 h.has_decls.tokens at (subst (λ text. IsTokens text h.has_decls.tokens) (packets.one_text bytes has.text r.0 has.is_text r.1) has.are_tokens) r.2
not_refused bytes t (Token token) h r =
    let has = h.has_decls in
    parser.not_too_deep r.0 h.decls token (subst (λ tokens. IsParsed tokens h.decls) (one_tokens bytes has.tokens r.0 has.has_tokens r.1) has.are_decls) r.2
not_refused bytes t (Syntax item) h r =
    let has = h.has_decls in
    parser.not_refused r.0 h.decls item (subst (λ tokens. IsParsed tokens h.decls) (one_tokens bytes has.tokens r.0 has.has_tokens r.1) has.are_decls) r.2
not_refused bytes t (Item item cause) h r = whole_or_not t item cause (resolved h.decls) h.declares (ap resolved (one_decls bytes h.decls r.0 h.has_decls r.1) ∙ r.2)
