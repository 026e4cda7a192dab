-- The exit statuses, and the lines that tell them (this project's own).
use Rattle.std.specs.Prelude.{◌≡◌, ◌⊎◌, ℕ, List, [], ◌∷◌, ◌++◌, codes, Option}
use Rattle.std.specs.Fmt.{decimal}
use Rattle.std.specs.Io.KnownBytes.{Appends}
use Rattle.ht_outside.specs.Faults.{HasRisen}
use Rattle.hosttrace.specs.Writing.{AppendsFront}
use Rattle.trace_metadata.specs.Causes.{cause_text}
use Rattle.ht_outside.specs.declared.sink.SinkError.{SinkError}
use Rattle.ht_outside.specs.declared.sink.SinkError.TheVariants as sink
use Rattle.ht_outside.specs.declared.store.StoreError.{StoreError}
use Rattle.ht_outside.specs.declared.store.StoreError.TheVariants as store
use Rattle.command_words.specs.declared.words.WordsError.{WordsError}
use Rattle.command_words.specs.declared.words.WordsError.TheVariants as words
use Rattle.trace_metadata.specs.declared.reading.MetadataError.{MetadataError}
use Rattle.trace_metadata.specs.declared.reading.MetadataError.TheVariants as metadata
use Rattle.decode_pool.specs.declared.all.DecodeError.{DecodeError}
use Rattle.decode_pool.specs.declared.all.DecodeError.TheVariants as decode
use Rattle.critical_path.specs.declared.path.PathError.{PathError}
use Rattle.critical_path.specs.declared.path.PathError.TheVariants as path
use Rattle.event_list.specs.declared.list.ListError.{ListError}
use Rattle.event_list.specs.declared.list.ListError.TheVariants as list
use Rattle.hosttrace.specs.declared.reading.ReadError.{ReadError}
use Rattle.hosttrace.specs.declared.reading.ReadError.TheVariants as read
use Rattle.hosttrace.specs.declared.questions.QuestionsError.{QuestionsError}
use Rattle.hosttrace.specs.declared.questions.QuestionsError.TheVariants as questions
use Rattle.hosttrace.specs.declared.status.Refusal.{Refusal}
use Rattle.hosttrace.specs.declared.status.Refusal.TheVariants.{NoMetadata, BadMetadata, BadList, TooLarge, TooManyEvents, NoThread}
use Rattle.hosttrace.specs.declared.status.ListFile.TheVariants.{Events, Questions}
use Rattle.hosttrace.specs.declared.status.Limit.{Limit}
use Rattle.hosttrace.specs.declared.status.Limit.TheVariants as limit
use Rattle.hosttrace.specs.declared.status.Status.{Status}
use Rattle.hosttrace.specs.declared.status.Status.TheVariants.{Done, Usage, Refused, ReadFault, WriteFault, NoMemory}

abbrev pub code_of : Status → ℕ
code_of Done = 0
code_of Usage = 1
code_of (Refused refusal) = 2
code_of ReadFault = 3
code_of WriteFault = 4
code_of NoMemory = 5

abbrev pub limit_text : Limit → List ℕ
limit_text limit.Hosts = codes "hosts"
limit_text limit.Names = codes "names"
limit_text limit.Metadata = codes "metadata"
limit_text limit.File = codes "file"
limit_text limit.Files = codes "files"
limit_text limit.Packets = codes "packets"
limit_text limit.Questions = codes "questions"

abbrev pub refusal_text : Refusal → List ℕ
refusal_text (NoMetadata host) = codes "host " ++ decimal host ++ codes ": no metadata"
refusal_text (BadMetadata host cause) = codes "host " ++ decimal host ++ codes ": metadata " ++ cause_text cause
refusal_text (BadList Events line) = codes "list line " ++ decimal line
refusal_text (BadList Questions line) = codes "questions line " ++ decimal line
refusal_text (TooLarge what) = codes "too large: " ++ limit_text what
refusal_text TooManyEvents = codes "too many events"
refusal_text (NoThread host tid) = codes "host " ++ decimal host ++ codes ": no thread " ++ decimal tid

-- the line that tells a status; Done has none
abbrev pub status_line : Status → List ℕ
status_line Done = []
status_line Usage = codes "usage\n"
status_line (Refused refusal) = refusal_text refusal ++ 10 ∷ []
status_line ReadFault = codes "read fault\n"
status_line WriteFault = codes "write fault\n"
status_line NoMemory = codes "out of memory\n"

-- a sink of these bytes and faults, before and after, was told a status: it gained the line; where the sink failed or memory ran out, a front of a status's line
abbrev pub IsTold : Status → Option (List ℕ) → Option (List ℕ) → ℕ → ℕ → Type 0
IsTold Done old new faults faults_after = Appends old new (status_line Done)
IsTold Usage old new faults faults_after = Appends old new (status_line Usage)
IsTold (Refused refusal) old new faults faults_after = Appends old new (status_line (Refused refusal))
IsTold ReadFault old new faults faults_after = Appends old new (status_line ReadFault)
IsTold WriteFault old new faults faults_after = Appends old new (status_line WriteFault) ⊎ (HasRisen faults faults_after × (status : Status) × AppendsFront old new (status_line status))
IsTold NoMemory old new faults faults_after = (status : Status) × AppendsFront old new (status_line status)

-- the line that tells of a status: its own, or where memory for that ran out the one that says so
abbrev pub IsLineOf : Status → List ℕ → Type 0
IsLineOf reported line = (line ≡ status_line reported) ⊎ (line ≡ status_line NoMemory)

-- a sink of these bytes and faults, before and after, was told a status: it gained that line, and the status is answered; or memory for the line ran out, and it gained the one that says so; or one of these two couldn't be written, and it gained a front of it
abbrev pub IsToldOf : Status → Status → Option (List ℕ) → Option (List ℕ) → ℕ → ℕ → Type 0
IsToldOf reported answered old new faults faults_after =
    ((answered ≡ reported) × Appends old new (status_line reported))
    ⊎ (((answered ≡ NoMemory) × Appends old new (status_line NoMemory))
    ⊎ ((((answered ≡ WriteFault) × HasRisen faults faults_after) ⊎ (answered ≡ NoMemory)) × ((line : List ℕ) × IsLineOf reported line × AppendsFront old new line)))

-- the statuses that tell why a file is no list
abbrev pub list_status : ListError → Status
list_status (list.BadLine line) = Refused (BadList Events line)
list_status list.TooManyEvents = Refused TooManyEvents
list_status list.OutOfMemory = NoMemory

abbrev pub questions_status : QuestionsError → Status
questions_status (questions.BadLine line) = Refused (BadList Questions line)
questions_status questions.OutOfMemory = NoMemory

-- the status that tells why words are no command
abbrev pub words_status : WordsError → Status
words_status words.Usage = Usage
words_status words.OutOfMemory = NoMemory

-- the status that tells why a store gave no answer
abbrev pub store_status : StoreError → Status
store_status store.Failed = ReadFault
store_status store.OutOfMemory = NoMemory

-- the status that tells why a file that has this limit wasn't read
abbrev pub read_status : Limit → ReadError → Status
read_status what read.Fault = ReadFault
read_status what read.TooLarge = Refused (TooLarge what)
read_status what read.OutOfMemory = NoMemory

-- why a file whose part a store didn't give wasn't read
abbrev pub read_error : StoreError → ReadError
read_error store.Failed = read.Fault
read_error store.OutOfMemory = read.OutOfMemory

-- the status that tells why the metadata of this host declares no trace
abbrev pub metadata_status : ℕ → MetadataError → Status
metadata_status host (metadata.Refused cause) = Refused (BadMetadata host cause)
metadata_status host metadata.OutOfMemory = NoMemory

-- the status that tells why hosts' files can't be decoded
abbrev pub decode_status : DecodeError → Status
decode_status decode.TooManyPackets = Refused (TooLarge limit.Packets)
decode_status decode.TooManyEvents = Refused TooManyEvents
decode_status decode.OutOfMemory = NoMemory

-- the status that tells why this thread has no critical path
abbrev pub path_status : ℕ → ℕ → PathError → Status
path_status host tid path.NoThread = Refused (NoThread host tid)
path_status host tid path.OutOfMemory = NoMemory

-- the status that tells why a text wasn't written
abbrev pub sink_status : SinkError → Status
sink_status sink.Failed = WriteFault
sink_status sink.OutOfMemory = NoMemory
