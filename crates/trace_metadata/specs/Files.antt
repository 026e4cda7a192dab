-- What a metadata file declares, or the first place where it is refused (CTF 1.8, section 7): its packets' text, the text's tokens, their declarations, and what those say.
use Rattle.std.specs.Prelude.{◌≡◌, ℕ, List, Result, Ok, Err}
use Rattle.type_scope.specs.Traces.{Trace}
use Rattle.meta_packets.specs.Packets as packets
use Rattle.trace_types.specs.declared.byte_order.ByteOrderKind.{ByteOrderKind}
use Rattle.tsdl_lex.specs.Tokens as lex
use Rattle.tsdl_lex.specs.declared.token.Token as lexed
use Rattle.tsdl_parser.specs.Declarations as parser
use Rattle.tsdl_parser.specs.Depth.{IsTooDeep}
use Rattle.tsdl_parser.specs.declared.tree.Decl.{Decl}
use Rattle.tsdl_types.specs.Items.{Whole, Breaks, resolved}
use Rattle.trace_metadata.specs.declared.cause.MetaCause.{MetaCause}
use Rattle.trace_metadata.specs.declared.cause.MetaCause.TheVariants.{Packet, Byte, Token, Syntax, Item}
use Rattle.trace_metadata.specs.declared.reading.MetadataError.{MetadataError}
use Rattle.trace_metadata.specs.declared.reading.MetadataError.TheVariants.{Refused, OutOfMemory}

-- the tokens of a file
pub record HasTokens (bytes : List ℕ) (tokens : List lexed.Token) : Type 0 where
  pub text : List ℕ
  pub is_text : packets.IsText bytes text
  pub are_tokens : lex.IsTokens text tokens

-- the declarations of a file
pub record HasDecls (bytes : List ℕ) (decls : List Decl) : Type 0 where
  pub tokens : List lexed.Token
  pub has_tokens : HasTokens bytes tokens
  pub are_decls : parser.IsParsed tokens decls

-- a file declares this trace
pub record IsTrace (bytes : List ℕ) (t : Trace) : Type 0 where
  pub decls : List Decl
  pub has_decls : HasDecls bytes decls
  pub declares : resolved decls ≡ Whole t

-- a file is refused for this cause: each step is made only of what the one before gave whole
abbrev pub IsRefused : List ℕ → MetaCause → Type 0
IsRefused bytes (Packet offset cause) = (order : ByteOrderKind) × packets.IsRefused order bytes offset cause
IsRefused bytes (Byte at) = (text : List ℕ) × packets.IsText bytes text × lex.IsRefused text at
IsRefused bytes (Token token) = (tokens : List lexed.Token) × HasTokens bytes tokens × IsTooDeep tokens token
IsRefused bytes (Syntax item) = (tokens : List lexed.Token) × HasTokens bytes tokens × parser.IsRefused tokens item
IsRefused bytes (Item item cause) = (decls : List Decl) × HasDecls bytes decls × (resolved decls ≡ Breaks item cause)

-- where a file is refused, this holds of the cause
abbrev pub OnRefusal : {A : Type 0} → (MetaCause → Type 0) → Result A MetadataError → Type 0
OnRefusal P (Ok a) = Unit {0}
OnRefusal P (Err (Refused cause)) = P cause
OnRefusal P (Err OutOfMemory) = Unit {0}
