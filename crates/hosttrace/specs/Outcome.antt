-- What a status says of the input and of what was written.
use Rattle.std.specs.Prelude.{◌≡◌, ◌⊎◌, ℕ, List, Option, Some, IfSome}
use Rattle.std.specs.Io.KnownBytes.{Appends}
use Rattle.ht_outside.specs.Faults.{HasRisen}
use Rattle.ht_outside.specs.Files.{Files}
use Rattle.hosttrace.specs.Seen.{FailsBy, FailsOf, Seen, StoreSeen}
use Rattle.hosttrace.specs.Making.{made_files}
use Rattle.hosttrace.specs.Means.{IsOutput, IsGood}
use Rattle.hosttrace.specs.Refusals.{MakeRefuses, Refuses}
use Rattle.hosttrace.specs.Writing.{AppendsFront}
use Rattle.command_words.specs.Words.{IsCommand}
use Rattle.command_words.specs.declared.command.Command.{Command}
use Rattle.command_words.specs.declared.command.Command.TheVariants.{Plain}
use Rattle.command_words.specs.declared.command.PlainCommand.{PlainCommand}
use Rattle.command_words.specs.declared.command.PlainCommand.TheVariants.{Make}
use Rattle.hosttrace.specs.declared.status.Status.{Status}
use Rattle.hosttrace.specs.declared.status.Status.TheVariants.{Done, Usage, Refused, ReadFault, WriteFault, NoMemory}

-- the files that a command reads, where they are known: those that the store tells, but for `make` those that it makes itself, whatever the store tells
abbrev pub files_read : PlainCommand → Option Files → Option Files
files_read (Make number hosts rounds) told = Some (made_files number hosts rounds)
files_read _ told = told

-- why a command has no text: a refusal of its files, where they are known, a fault of the store, or lack of memory; `make` doesn't call the store, and no fault of it is a cause
abbrev pub PlainFails : PlainCommand → StoreSeen → Status → Type 0
PlainFails (Make number hosts rounds) = λ seen status. FailsOf (MakeRefuses number hosts rounds) status
PlainFails command = λ seen status. FailsBy (Refuses command) seen status

-- the sink for the text gained the text of the command over all bytes of its files
abbrev pub IsDone : PlainCommand → Seen → Type 0
IsDone command seen = IfSome (files_read command seen.store.files) (λ files. (text : List ℕ) × IsOutput command files text × Appends seen.out.bytes seen.out.bytes_after text)

-- with Done the sink gained the text; a refusal has its cause in the files; a fault was counted
abbrev pub PlainMeans : PlainCommand → Seen → Status → Type 0
PlainMeans command seen Done = IsDone command seen
PlainMeans command seen Usage = ⊥
PlainMeans command seen (Refused refusal) = PlainFails command seen.store (Refused refusal)
PlainMeans command seen ReadFault = PlainFails command seen.store ReadFault
PlainMeans command seen WriteFault = HasRisen seen.out.faults seen.out.faults_after ⊎ HasRisen seen.err.faults seen.err.faults_after
PlainMeans command seen NoMemory = Unit {0}

abbrev pub CommandMeans : Command → Seen → Status → Type 0
CommandMeans (Plain command) seen status = PlainMeans command seen status

-- Usage comes where the words are no command, and every other status where they are one and it means what it says; a line on the sink for errors may fail after Usage, too
abbrev pub Means : List (List ℕ) → Seen → Status → Type 0
Means words seen Usage = (c : Command) → ¬ (IsCommand words c)
Means words seen WriteFault = HasRisen seen.out.faults seen.out.faults_after ⊎ HasRisen seen.err.faults seen.err.faults_after
Means words seen NoMemory = Unit {0}
Means words seen Done = (c : Command) × IsCommand words c × CommandMeans c seen Done
Means words seen ReadFault = (c : Command) × IsCommand words c × CommandMeans c seen ReadFault
Means words seen (Refused refusal) = (c : Command) × IsCommand words c × CommandMeans c seen (Refused refusal)

-- the status that is answered is the one that was reported, or tells why its line couldn't be written
abbrev pub IsReported : Status → Status → ℕ → ℕ → Type 0
IsReported status answered faults faults_after = (answered ≡ status) ⊎ (((answered ≡ WriteFault) × HasRisen faults faults_after) ⊎ (answered ≡ NoMemory))

-- the sink for the text holds what it held before, or that and a front of the command's text over all bytes of its files
abbrev pub IsPartly : PlainCommand → Seen → Type 0
IsPartly command seen = (seen.out.bytes_after ≡ seen.out.bytes) ⊎ IfSome (files_read command seen.store.files) (λ files. (text : List ℕ) × IsOutput command files text × AppendsFront seen.out.bytes seen.out.bytes_after text)

-- what a status leaves in the sink for the text: nothing new where the words or the input are refused and after a fault of the store, else at most a front of the text
abbrev pub PlainLeaves : PlainCommand → Seen → Status → Type 0
PlainLeaves command seen Done = IsPartly command seen
PlainLeaves command seen Usage = seen.out.bytes_after ≡ seen.out.bytes
PlainLeaves command seen (Refused refusal) = seen.out.bytes_after ≡ seen.out.bytes
PlainLeaves command seen ReadFault = seen.out.bytes_after ≡ seen.out.bytes
PlainLeaves command seen WriteFault = IsPartly command seen
PlainLeaves command seen NoMemory = IsPartly command seen

abbrev pub CommandLeaves : Command → Seen → Status → Type 0
CommandLeaves (Plain command) seen status = PlainLeaves command seen status

-- where the words are no command, nothing new is left
abbrev pub Leaves : List (List ℕ) → Seen → Status → Type 0
Leaves words seen status = (seen.out.bytes_after ≡ seen.out.bytes) ⊎ ((c : Command) × IsCommand words c × CommandLeaves c seen status)

-- the files of a command are known and good, and no call of the sinks has failed, nor one of the store that the command reads
pub record IsValid (command : PlainCommand) (seen : Seen) : Type 0 where
  pub files : Files
  pub known : files_read command seen.store.files ≡ Some files
  pub is_good : IsGood command files
  pub read : ¬ (PlainFails command seen.store ReadFault)
  pub out : ¬ (HasRisen seen.out.faults seen.out.faults_after)
  pub err : ¬ (HasRisen seen.err.faults seen.err.faults_after)

-- a status of a command that was read means what it says, and where its files are good and no call has failed it is Done, or memory ran out
pub record IsPlainOutcome (command : PlainCommand) (seen : Seen) (status : Status) : Type 0 where
  pub means : PlainMeans command seen status
  pub complete : IsValid command seen → (status ≡ Done) ⊎ (status ≡ NoMemory)

-- a status means what it says, and valid input without a fault comes to Done, or memory ran out
pub record IsOutcome (words : List (List ℕ)) (seen : Seen) (status : Status) : Type 0 where
  pub means : Means words seen status
  pub complete : (command : PlainCommand) → IsCommand words (Plain command) → IsValid command seen → (status ≡ Done) ⊎ (status ≡ NoMemory)
