-- The words that tell why a metadata file is refused (this project's own).
use Rattle.std.specs.Prelude.{ℕ, List, ◌++◌, codes}
use Rattle.std.specs.Fmt.{decimal}
use Rattle.meta_packets.specs.Packets as packets
use Rattle.type_table.specs.Causes as items
use Rattle.trace_metadata.specs.declared.cause.MetaCause.{MetaCause}
use Rattle.trace_metadata.specs.declared.cause.MetaCause.TheVariants.{Packet, Byte, Token, Syntax, Item}

abbrev pub cause_text : MetaCause → List ℕ
cause_text (Packet offset cause) = codes "packet at " ++ decimal offset ++ codes ": " ++ packets.cause_text cause
cause_text (Byte at) = codes "byte " ++ decimal at ++ codes ": no token"
cause_text (Token token) = codes "token " ++ decimal token ++ codes ": TooDeep"
cause_text (Syntax item) = codes "item " ++ decimal item ++ codes ": Syntax"
cause_text (Item item cause) = codes "item " ++ decimal item ++ codes ": " ++ items.cause_text cause
