-- Why input is refused, in the order in which it is looked at: each refusal comes only where no earlier one does (this project's own).
use Rattle.std.specs.Prelude.{◌≡◌, ◌⊎◌, ℕ, ◌+◌, ◌<◌, ◌≤◌, List, [], ◌∷◌, length, map, count_by, codes, None}
use Rattle.ht_outside.specs.Files.{Files, bytes_of}
use Rattle.trace_types.specs.declared.limits.TheConstants.{MAX_EVENTS}
use Rattle.trace_types.specs.declared.event.Merged.{Merged}
use Rattle.type_scope.specs.Traces.{Trace}
use Rattle.trace_metadata.specs.Files.{IsTrace, IsRefused}
use Rattle.decode_pool.specs.Limits.{MAX_PACKETS, event_count, packet_count}
use Rattle.decode_pool.specs.declared.hosts.HostFiles.{HostFiles}
use Rattle.event_list.specs.Lines.{IsCrowded, IsEventList, IsFirstBad}
use Rattle.event_list.specs.declared.parsed_line.ParsedLine.{ParsedLine}
use Rattle.history_core.specs.declared.question.Question.{Question}
use Rattle.event_list.specs.declared.trace.MergedTrace.{MergedTrace}
use Rattle.command_words.specs.declared.command.PlainCommand.{PlainCommand}
use Rattle.command_words.specs.declared.command.PlainCommand.TheVariants.{Check, Report, Events, State, Ask, Path, Make, Range, Disks}
use Rattle.command_words.specs.declared.command.Input.{Input}
use Rattle.command_words.specs.declared.command.Input.TheVariants as input
use Rattle.host_merge.specs.declared.placed.Placed.{Placed}
use Rattle.wait_graph.specs.Named.{IsNamed}
use Rattle.hosttrace.specs.Clusters.{IsInput}
use Rattle.hosttrace.specs.Folders.{FILES_LIMIT, MAX_HOSTS, METADATA_LIMIT, AreRead, HasFewNames, HasManyNames, HasMetadata, IsRead, metadata_of}
use Rattle.hosttrace.specs.Inputs.{LIST_LIMIT}
use Rattle.hosttrace.specs.Making.{made_files, made_folders}
use Rattle.hosttrace.specs.Paths.{IsPlacedInput}
use Rattle.hosttrace.specs.Questions.{QUESTION_LIMIT, is_feed, AreQuestions, IsFirstBadQuestion}
use Rattle.hosttrace.specs.Streams.{AreFolders, AreHostsOf, AreStreamNames, IsFolder, StreamFits, folder_size, metadata_size, size_of}
use Rattle.hosttrace.specs.declared.status.ListFile.TheVariants.{Events as EventsFile, Questions}
use Rattle.hosttrace.specs.declared.status.Limit.TheVariants as limit
use Rattle.hosttrace.specs.declared.status.Refusal.{Refusal}
use Rattle.hosttrace.specs.declared.status.Refusal.TheVariants.{BadList, BadMetadata, NoMetadata, NoThread, TooLarge, TooManyEvents}

-- ---- the folders' number

-- too many folders are named
abbrev pub IsCrowd : List (List ℕ) → Refusal → Type 0
IsCrowd dirs (TooLarge limit.Hosts) = MAX_HOSTS < length dirs
IsCrowd dirs _ = ⊥

-- ---- folder by folder, when so many bytes of those before it were read

-- its names are too many, or none of them is that of the metadata
abbrev pub NamesRefuse : Files → ℕ → List ℕ → Refusal → Type 0
NamesRefuse files host dir (TooLarge limit.Names) = HasManyNames files dir
NamesRefuse files host dir (NoMetadata h) = (h ≡ host) × HasFewNames files dir × (files dir (codes "metadata") ≡ None)
NamesRefuse files host dir _ = ⊥

-- metadata of so many bytes is too large, or all files are with it
abbrev pub SizeRefuses : ℕ → ℕ → Refusal → Type 0
SizeRefuses before size (TooLarge limit.Metadata) = METADATA_LIMIT < size
SizeRefuses before size (TooLarge limit.Files) = (size ≤ METADATA_LIMIT) × (FILES_LIMIT < before + size)
SizeRefuses before size _ = ⊥

-- the names, or after good names the size of the metadata
abbrev pub FolderRefuses : Files → ℕ → ℕ → List ℕ → Refusal → Type 0
FolderRefuses files host before dir refusal =
    NamesRefuse files host dir refusal ⊎ ((HasFewNames files dir × HasMetadata files dir) × SizeRefuses before (length (metadata_of files dir)) refusal)

-- a stream file of so many bytes is too large, or all files are with it
abbrev pub StreamRefuses : ℕ → ℕ → Refusal → Type 0
StreamRefuses before size (TooLarge limit.File) = LIST_LIMIT < size
StreamRefuses before size (TooLarge limit.Files) = (size ≤ LIST_LIMIT) × (FILES_LIMIT < before + size)
StreamRefuses before size _ = ⊥

-- the first stream file that is refused
abbrev pub StreamsRefuse : Files → List ℕ → ℕ → List (List ℕ) → Refusal → Type 0
StreamsRefuse files dir before [] refusal = ⊥
StreamsRefuse files dir before (name ∷ names) refusal = StreamRefuses before (size_of files dir name) refusal ⊎ (StreamFits before (size_of files dir name) × StreamsRefuse files dir (before + size_of files dir name) names refusal)

-- the names or the metadata, or after these the stream files, in the order of their names' bytes
abbrev pub TraceRefuses : Files → ℕ → ℕ → List ℕ → Refusal → Type 0
TraceRefuses files host before dir refusal =
    FolderRefuses files host before dir refusal ⊎ (IsRead files before dir × ((names : List (List ℕ)) × AreStreamNames files dir names × StreamsRefuse files dir (before + metadata_size files dir) names refusal))

-- the first folder that is refused, where the first of them is that of this host
abbrev pub TracesRefuse : Files → ℕ → ℕ → List (List ℕ) → Refusal → Type 0
TracesRefuse files host before [] refusal = ⊥
TracesRefuse files host before (dir ∷ dirs) refusal =
    TraceRefuses files host before dir refusal ⊎ ((names : List (List ℕ)) × IsFolder files before dir names × TracesRefuse files (host + 1) (before + folder_size files dir names) dirs refusal)

-- the same where the metadata alone is read
abbrev pub FoldersRefuse : Files → ℕ → ℕ → List (List ℕ) → Refusal → Type 0
FoldersRefuse files host before [] refusal = ⊥
FoldersRefuse files host before (dir ∷ dirs) refusal =
    FolderRefuses files host before dir refusal ⊎ (IsRead files before dir × FoldersRefuse files (host + 1) (before + length (metadata_of files dir)) dirs refusal)

-- ---- host by host

-- the bytes of its metadata declare no trace
abbrev pub MetadataRefuses : ℕ → List ℕ → Refusal → Type 0
MetadataRefuses host bytes (BadMetadata h cause) = (h ≡ host) × IsRefused bytes cause
MetadataRefuses host bytes _ = ⊥

-- the first metadata that is refused, where the first of these is that of this host
abbrev pub HostsRefuse : ℕ → List (List ℕ) → Refusal → Type 0
HostsRefuse host [] refusal = ⊥
HostsRefuse host (bytes ∷ files) refusal = MetadataRefuses host bytes refusal ⊎ (((t : Trace) × IsTrace bytes t) × HostsRefuse (host + 1) files refusal)

-- ---- all hosts together

-- they have too many packets, or too many events
abbrev pub LimitsRefuse : List HostFiles → Refusal → Type 0
LimitsRefuse hosts (TooLarge limit.Packets) = MAX_PACKETS < packet_count hosts
LimitsRefuse hosts TooManyEvents = (packet_count hosts ≤ MAX_PACKETS) × (MAX_EVENTS < event_count hosts)
LimitsRefuse hosts _ = ⊥

-- ---- a list of events or of questions

-- a file is too large
abbrev pub FileRefuses : List ℕ → Refusal → Type 0
FileRefuses bytes (TooLarge limit.File) = LIST_LIMIT < length bytes
FileRefuses bytes _ = ⊥

-- an event list is too large, a line is bad, or the lines are too many
abbrev pub ListRefuses : List ℕ → Refusal → Type 0
ListRefuses bytes (BadList EventsFile line) = (length bytes ≤ LIST_LIMIT) × ((parsed_lines : List ParsedLine) → ¬ (IsEventList bytes parsed_lines)) × IsFirstBad bytes line
ListRefuses bytes TooManyEvents = (length bytes ≤ LIST_LIMIT) × IsCrowded bytes × ((parsed_lines : List ParsedLine) → IsEventList bytes parsed_lines → MAX_EVENTS < length parsed_lines)
ListRefuses bytes (TooLarge limit.File) = LIST_LIMIT < length bytes
ListRefuses bytes _ = ⊥

-- a question file is too large, or has too many line feeds, or a line is bad
abbrev pub QuestionsRefuse : List ℕ → Refusal → Type 0
QuestionsRefuse bytes (BadList Questions line) =
    (length bytes ≤ LIST_LIMIT) × (count_by is_feed bytes ≤ QUESTION_LIMIT) × ((questions : List Question) → ¬ (AreQuestions bytes questions)) × IsFirstBadQuestion bytes line
QuestionsRefuse bytes (TooLarge limit.File) = LIST_LIMIT < length bytes
QuestionsRefuse bytes (TooLarge limit.Questions) = (length bytes ≤ LIST_LIMIT) × (QUESTION_LIMIT < count_by is_feed bytes)
QuestionsRefuse bytes _ = ⊥

-- ---- a thread

-- no event of the merge names the thread
abbrev pub ThreadRefuses : List Merged → ℕ → ℕ → Refusal → Type 0
ThreadRefuses merged host tid (NoThread h t) = (h ≡ host) × (t ≡ tid) × ¬ IsNamed merged host tid
ThreadRefuses merged host tid _ = ⊥

-- ---- what commands read

-- `check`: the folders are too many, or one is refused as its metadata is read, or, with all read, what one declares is
abbrev pub CheckRefuses : Files → List (List ℕ) → Refusal → Type 0
CheckRefuses files dirs refusal =
    IsCrowd dirs refusal ⊎ ((length dirs ≤ MAX_HOSTS) × (FoldersRefuse files 0 0 dirs refusal ⊎ (AreRead files 0 dirs × HostsRefuse 0 (map (metadata_of files) dirs) refusal)))

-- folders that are not too many: one is refused as it is read, or, with all read, what one declares is
abbrev pub ReadingRefuses : Files → List (List ℕ) → Refusal → Type 0
ReadingRefuses files dirs refusal = TracesRefuse files 0 0 dirs refusal ⊎ (AreFolders files 0 dirs × HostsRefuse 0 (map (metadata_of files) dirs) refusal)

-- `report` and `events`, and the other commands but `check` over folders: the folders are too many, or their reading is refused, or, with all read, their hosts hold too much
abbrev pub ClusterRefuses : Files → List (List ℕ) → Refusal → Type 0
ClusterRefuses files dirs refusal =
    IsCrowd dirs refusal
    ⊎ ((length dirs ≤ MAX_HOSTS)
    × (ReadingRefuses files dirs refusal
    ⊎ ((hosts : List HostFiles) × AreHostsOf files dirs hosts × LimitsRefuse hosts refusal)))

-- `state`, `range` and `disks`, and `ask` and `path` first: the list, or the folders
abbrev pub InputRefuses : Input → Files → Refusal → Type 0
InputRefuses (input.List file) files refusal = ListRefuses (bytes_of files [] file) refusal
InputRefuses (input.Folders dirs drift) files refusal = ClusterRefuses files dirs refusal

-- `ask`: the input, or after a good one the questions
abbrev pub AskRefuses : Files → Input → List ℕ → Refusal → Type 0
AskRefuses files source questions refusal = InputRefuses source files refusal ⊎ (((trace : MergedTrace) × IsInput source files trace) × QuestionsRefuse (bytes_of files [] questions) refusal)

-- `path`: the input, or after a good one the thread
abbrev pub PathRefuses : Files → Input → ℕ → ℕ → Refusal → Type 0
PathRefuses files source host tid refusal = InputRefuses source files refusal ⊎ ((merged : List Merged) × (placed : List Placed) × IsPlacedInput source files merged placed × ThreadRefuses merged host tid refusal)

-- `make`: the folders of made traces
abbrev pub MakeRefuses : ℕ → ℕ → ℕ → Refusal → Type 0
MakeRefuses number hosts rounds refusal = ClusterRefuses (made_files number hosts rounds) (made_folders hosts) refusal

-- each command
abbrev pub Refuses : PlainCommand → Files → Refusal → Type 0
Refuses (Check folders) = λ files refusal. CheckRefuses files folders refusal
Refuses (Report folders drift) = λ files refusal. ClusterRefuses files folders refusal
Refuses (Events folders drift) = λ files refusal. ClusterRefuses files folders refusal
Refuses (State source at) = λ files refusal. InputRefuses source files refusal
Refuses (Ask source questions once) = λ files refusal. AskRefuses files source questions refusal
Refuses (Path source host tid from to) = λ files refusal. PathRefuses files source host tid refusal
Refuses (Make number hosts rounds) = λ files refusal. MakeRefuses number hosts rounds refusal
Refuses (Range source from to path) = λ files refusal. InputRefuses source files refusal
Refuses (Disks source) = λ files refusal. InputRefuses source files refusal
