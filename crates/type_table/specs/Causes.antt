-- The words of the causes (this project's own).
use Rattle.std.specs.Prelude.{ℕ, List, codes}
use Rattle.type_table.specs.declared.cause.MetaItemCause.{MetaItemCause}
use Rattle.type_table.specs.declared.cause.MetaItemCause.TheVariants.{FloatType, UnknownType, DuplicateId, BadAttribute, BadReference, NoTrace}

abbrev pub cause_text : MetaItemCause → List ℕ
cause_text FloatType = codes "FloatType"
cause_text UnknownType = codes "UnknownType"
cause_text DuplicateId = codes "DuplicateId"
cause_text BadAttribute = codes "BadAttribute"
cause_text BadReference = codes "BadReference"
cause_text NoTrace = codes "NoTrace"
