-- A file is refused for one cause at most.
use Rattle.std.proofs.Common.{◌≡◌, ◌∙◌, ℕ, List, sym, ap, subst}
use Rattle.meta_packets.proofs.OneText as packets
use Rattle.meta_packets.specs.Packets.{IsText, IsRefused as IsPacketRefused}
use Rattle.meta_packets.specs.declared.header.MetaPacketCause.{MetaPacketCause}
use Rattle.trace_types.specs.declared.byte_order.ByteOrderKind.{ByteOrderKind}
use Rattle.tsdl_lex.proofs.Pieces as lex
use Rattle.tsdl_lex.specs.Tokens.{IsTokens, IsRefused as IsByteRefused}
use Rattle.tsdl_lex.specs.declared.token.Token as lexed
use Rattle.tsdl_parser.proofs.Reading as parser
use Rattle.tsdl_parser.specs.Declarations.{IsParsed, IsRefused as IsItemRefused}
use Rattle.tsdl_parser.specs.Depth.{IsTooDeep}
use Rattle.tsdl_parser.specs.declared.tree.Decl.{Decl}
use Rattle.type_scope.specs.Traces.{Trace}
use Rattle.tsdl_types.specs.Items.{Declared, Breaks, resolved}
use Rattle.trace_metadata.specs.Files.{HasTokens, HasDecls, IsRefused}
use Rattle.trace_metadata.specs.declared.cause.MetaCause.{MetaCause}
use Rattle.trace_metadata.specs.declared.cause.MetaCause.TheVariants.{Packet, Byte, Token, Syntax, Item}
use Rattle.trace_metadata.proofs.OneTrace.{one_decls, one_tokens}

no_text : (bytes text : List ℕ) (order : ByteOrderKind) (at : ℕ) (cause : MetaPacketCause) → IsPacketRefused order bytes at cause → IsText bytes text → ⊥
no_text bytes text order at cause h is = packets.no_refusal bytes text order at cause is h

no_tokens : (bytes text : List ℕ) (at : ℕ) (tokens : List lexed.Token) → IsText bytes text → IsByteRefused text at → HasTokens bytes tokens → ⊥
no_tokens bytes text at tokens is h has = lex.no_refusal text tokens at (subst (λ t. IsTokens t tokens) (packets.one_text bytes has.text text has.is_text is) has.are_tokens) h

parsed : (bytes : List ℕ) (tokens : List lexed.Token) (decls : List Decl) → HasTokens bytes tokens → HasDecls bytes decls → IsParsed tokens decls
parsed bytes tokens decls is has = subst (λ ts. IsParsed ts decls) (one_tokens bytes has.tokens tokens has.has_tokens is) has.are_decls

not_deep : (bytes : List ℕ) (tokens : List lexed.Token) (token : ℕ) (decls : List Decl) → HasTokens bytes tokens → IsTooDeep tokens token → HasDecls bytes decls → ⊥
not_deep bytes tokens token decls is h has = parser.not_too_deep tokens decls token (parsed bytes tokens decls is has) h

not_items : (bytes : List ℕ) (tokens : List lexed.Token) (item : ℕ) (decls : List Decl) → HasTokens bytes tokens → IsItemRefused tokens item → HasDecls bytes decls → ⊥
not_items bytes tokens item decls is h has = parser.not_refused tokens decls item (parsed bytes tokens decls is has) h

deep_or_items : (bytes : List ℕ) (xs ys : List lexed.Token) (token item : ℕ) → HasTokens bytes xs → HasTokens bytes ys → IsTooDeep xs token → IsItemRefused ys item → ⊥
deep_or_items bytes xs ys token item is has h g = parser.shallow_or_deep ys token item (subst (λ ts. IsTooDeep ts token) (one_tokens bytes xs ys is has) h) g

cause_in : MetaCause → Declared Trace → MetaCause
cause_in c (Breaks n cause) = Item n cause
cause_in c _ = c

-- of two refusals of one file at most one holds
pub one_refusal : (bytes : List ℕ) (a b : MetaCause) → IsRefused bytes a → IsRefused bytes b → a ≡ b
unfolding cause_in
one_refusal bytes (Packet i a) (Packet j b) h g = let same = packets.one_refusal bytes h.0 g.0 i j a b h.1 g.1 in (λ k. Packet (same.0 k) (same.1 k))
one_refusal bytes (Packet i a) (Byte at) h g = absurd (no_text bytes g.0 h.0 i a h.1 g.1)
one_refusal bytes (Packet i a) (Token token) h g = absurd (no_text bytes g.1.text h.0 i a h.1 g.1.is_text)
one_refusal bytes (Packet i a) (Syntax item) h g = absurd (no_text bytes g.1.text h.0 i a h.1 g.1.is_text)
one_refusal bytes (Packet i a) (Item item cause) h g = absurd (no_text bytes g.1.has_tokens.text h.0 i a h.1 g.1.has_tokens.is_text)
one_refusal bytes (Byte at) (Packet j b) h g = absurd (no_text bytes h.0 g.0 j b g.1 h.1)
one_refusal bytes (Token token) (Packet j b) h g = absurd (no_text bytes h.1.text g.0 j b g.1 h.1.is_text)
one_refusal bytes (Syntax item) (Packet j b) h g = absurd (no_text bytes h.1.text g.0 j b g.1 h.1.is_text)
one_refusal bytes (Item item cause) (Packet j b) h g = absurd (no_text bytes h.1.has_tokens.text g.0 j b g.1 h.1.has_tokens.is_text)
one_refusal bytes (Byte at) (Byte place) h g = ap Byte (lex.one_refusal h.0 at place h.2 (subst (λ t. IsByteRefused t place) (packets.one_text bytes g.0 h.0 g.1 h.1) g.2))
one_refusal bytes (Byte at) (Token token) h g = absurd (no_tokens bytes h.0 at g.0 h.1 h.2 g.1)
one_refusal bytes (Byte at) (Syntax item) h g = absurd (no_tokens bytes h.0 at g.0 h.1 h.2 g.1)
one_refusal bytes (Byte at) (Item item cause) h g = absurd (no_tokens bytes h.0 at g.1.tokens h.1 h.2 g.1.has_tokens)
one_refusal bytes (Token token) (Byte at) h g = absurd (no_tokens bytes g.0 at h.0 g.1 g.2 h.1)
one_refusal bytes (Syntax item) (Byte at) h g = absurd (no_tokens bytes g.0 at h.0 g.1 g.2 h.1)
one_refusal bytes (Item item cause) (Byte at) h g = absurd (no_tokens bytes g.0 at h.1.tokens g.1 g.2 h.1.has_tokens)
one_refusal bytes (Token token) (Token other) h g = ap Token (parser.one_depth h.0 token other h.2 (subst (λ ts. IsTooDeep ts other) (one_tokens bytes g.0 h.0 g.1 h.1) g.2))
one_refusal bytes (Token token) (Syntax item) h g = absurd (deep_or_items bytes h.0 g.0 token item h.1 g.1 h.2 g.2)
one_refusal bytes (Token token) (Item item cause) h g = absurd (not_deep bytes h.0 token g.0 h.1 h.2 g.1)
one_refusal bytes (Syntax item) (Token token) h g = absurd (deep_or_items bytes g.0 h.0 token item g.1 h.1 g.2 h.2)
one_refusal bytes (Item item cause) (Token token) h g = absurd (not_deep bytes g.0 token h.0 g.1 g.2 h.1)
one_refusal bytes (Syntax item) (Syntax other) h g = ap Syntax (parser.one_refusal h.0 item other h.2 (subst (λ ts. IsItemRefused ts other) (one_tokens bytes g.0 h.0 g.1 h.1) g.2))
one_refusal bytes (Syntax number) (Item item cause) h g = absurd (not_items bytes h.0 number g.0 h.1 h.2 g.1)
one_refusal bytes (Item item cause) (Syntax number) h g = absurd (not_items bytes g.0 number h.0 g.1 g.2 h.1)
one_refusal bytes (Item i a) (Item j b) h g = ap (cause_in (Item i a)) (sym h.2 ∙ (ap resolved (one_decls bytes h.0 g.0 h.1 g.1) ∙ g.2))
