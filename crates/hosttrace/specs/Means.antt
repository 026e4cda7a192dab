-- What each command makes of its files.
use Rattle.std.specs.Prelude.{◌≡◌, ℕ, ◌≤◌, List, [], flat_map, length, map}
use Rattle.event_list.specs.Lines.{IsEventList}
use Rattle.event_list.specs.Names.{lines_of, names_at}
use Rattle.event_list.specs.Written.{parsed_lines_of}
use Rattle.event_list.specs.declared.parsed_line.ParsedLine.{ParsedLine}
use Rattle.event_list.specs.declared.trace.MergedTrace.{MergedTrace}
use Rattle.ht_outside.specs.Files.{Files, bytes_of}
use Rattle.kernel_provider.specs.Replay.{state_at}
use Rattle.type_scope.specs.Traces.{Trace}
use Rattle.trace_types.specs.declared.event.Merged.{Merged}
use Rattle.trace_types.specs.declared.path.Path.{Path as AttributePath}
use Rattle.trace_types.specs.declared.host.HostEvents.{HostEvents}
use Rattle.host_merge.specs.Kept.{KeepsOrder}
use Rattle.host_merge.specs.declared.placed.Placed.{Placed}
use Rattle.host_sync.specs.Laws.{names_of_hosts}
use Rattle.host_sync.specs.Synced.{Synced}
use Rattle.history_core.specs.declared.question.Question.{Question}
use Rattle.disk_requests.specs.Devices.{AreDevices}
use Rattle.disk_requests.specs.declared.device.Device.{Device}
use Rattle.report_views.specs.AnswersText.{asked_text}
use Rattle.report_views.specs.DisksText.{disks_text}
use Rattle.report_views.specs.Report.{report_text}
use Rattle.report_views.specs.StateText.{IsStateText}
use Rattle.report_views.specs.StretchesText.{IsRangeText}
use Rattle.wait_graph.specs.Named.{IsNamed}
use Rattle.command_words.specs.declared.command.PlainCommand.{PlainCommand}
use Rattle.command_words.specs.declared.command.PlainCommand.TheVariants.{Check, Report, Events, State, Ask, Path, Make, Range, Disks}
use Rattle.command_words.specs.declared.command.Input.{Input}
use Rattle.command_words.specs.declared.command.Input.TheVariants as input
use Rattle.hosttrace.specs.Clusters.{AreSyncedTraces, IsGoodCluster, IsInput, NoneInvertedInTrees, SendsFirst}
use Rattle.hosttrace.specs.Folders.{MAX_HOSTS, AreRead, metadata_of}
use Rattle.hosttrace.specs.Hosts.{AreTraces, host_lines}
use Rattle.hosttrace.specs.Inputs.{IsList, AreAsked}
use Rattle.hosttrace.specs.Making.{IsMakeOutput, made_files, made_folders}
use Rattle.hosttrace.specs.Paths.{IsPathOutput, IsPlacedInput}

-- a line for each folder, with what all bytes of its metadata declare
pub record IsCheckOutput (files : Files) (folders : List (List ℕ)) (text : List ℕ) : Type 0 where
  pub few : length folders ≤ MAX_HOSTS
  pub are_read : AreRead files 0 folders
  pub traces : List Trace
  pub are_traces : AreTraces (map (metadata_of files) folders) traces
  pub is_text : text ≡ host_lines 0 traces

-- the folders can be read, and their metadata declares traces
pub record AreChecked (files : Files) (folders : List (List ℕ)) : Type 0 where
  pub few : length folders ≤ MAX_HOSTS
  pub are_read : AreRead files 0 folders
  pub traces : List Trace
  pub are_traces : AreTraces (map (metadata_of files) folders) traces

-- an input has a trace
abbrev pub IsGoodInput : Input → Files → Type 0
IsGoodInput (input.List file) files = (parsed_lines : List ParsedLine) × IsList (bytes_of files [] file) parsed_lines
IsGoodInput (input.Folders dirs drift) files = IsGoodCluster files dirs

-- the list of all events of the folders' hosts on one clock: each host's events in its own order and no others, sends before receives between a host and its parent, and a list that is read again, each line as an event of the same line
pub record IsEventsOutput (files : Files) (dirs : List (List ℕ)) (drift : ℕ) (text : List ℕ) : Type 0 where
  pub found : List HostEvents
  pub synced : Synced
  pub traces : AreSyncedTraces files dirs drift found synced
  pub keeps_order : KeepsOrder found synced.merged
  pub sends_first : SendsFirst synced
  pub is_text : text ≡ lines_of (names_of_hosts found) synced.merged
  pub is_list : IsEventList text (parsed_lines_of (names_of_hosts found) synced.merged)

-- the report on the folders' hosts: what was read of each, with each refused packet's file, place and cause, how their clocks fit, and which messages are inverted, none of them between a host and its parent; over the merge that the events are listed in
pub record IsReportOutput (files : Files) (dirs : List (List ℕ)) (drift : ℕ) (text : List ℕ) : Type 0 where
  pub found : List HostEvents
  pub synced : Synced
  pub traces : AreSyncedTraces files dirs drift found synced
  pub keeps_order : KeepsOrder found synced.merged
  pub sends_first : SendsFirst synced
  pub inverted : NoneInvertedInTrees synced
  pub is_text : text ≡ report_text found synced.matched synced.ambiguous synced.fits synced.parents synced.merged synced.placed drift

-- the text of the state at an instant, of an input
pub record IsStateOutput (files : Files) (source : Input) (at : ℕ) (text : List ℕ) : Type 0 where
  pub trace : MergedTrace
  pub is_input : IsInput source files trace
  pub is_text : IsStateText (names_at trace.names.items) (state_at trace.events.items at) text

-- the text of the answers, of an input and of all bytes of a question file: each is the state on replaying the trace to the question's instant
pub record IsAskOutput (files : Files) (source : Input) (questions text : List ℕ) : Type 0 where
  pub trace : MergedTrace
  pub is_input : IsInput source files trace
  pub asked : List Question
  pub are_asked : AreAsked (bytes_of files [] questions) asked
  pub is_text : text ≡ flat_map (asked_text (names_at trace.names.items) (state_at trace.events.items)) asked

-- the text of how an attribute's value changed over a range, of an input: a line for each stretch of one value on replaying the trace to its instants
pub record IsRangeOutput (files : Files) (source : Input) (from to : ℕ) (path : AttributePath) (text : List ℕ) : Type 0 where
  pub trace : MergedTrace
  pub is_input : IsInput source files trace
  pub is_text : IsRangeText (names_at trace.names.items) (state_at trace.events.items) from to path text

-- the text of the requests of disks, of an input: each device that its events name, in order, with what they tell of it
pub record IsDisksOutput (files : Files) (source : Input) (text : List ℕ) : Type 0 where
  pub trace : MergedTrace
  pub is_input : IsInput source files trace
  pub devices : List Device
  pub are_devices : AreDevices trace.events.items devices
  pub is_text : text ≡ disks_text devices

-- the text of a command over these files; made traces are not among them
abbrev pub IsOutput : PlainCommand → Files → List ℕ → Type 0
IsOutput (Check folders) files text = IsCheckOutput files folders text
IsOutput (Report folders drift) files text = IsReportOutput files folders drift text
IsOutput (Events folders drift) files text = IsEventsOutput files folders drift text
IsOutput (State source at) files text = IsStateOutput files source at text
IsOutput (Ask source questions once) files text = IsAskOutput files source questions text
IsOutput (Path source host tid from to) files text = IsPathOutput files source host tid from to text
IsOutput (Make number hosts rounds) files text = IsMakeOutput number hosts rounds text
IsOutput (Range source from to path) files text = IsRangeOutput files source from to path text
IsOutput (Disks source) files text = IsDisksOutput files source text

-- the files are good: the command has a text over them
abbrev pub IsGood : PlainCommand → Files → Type 0
IsGood (Check folders) files = AreChecked files folders
IsGood (Report folders drift) files = IsGoodCluster files folders
IsGood (Events folders drift) files = IsGoodCluster files folders
IsGood (State source at) files = IsGoodInput source files
IsGood (Ask source questions once) files = IsGoodInput source files × ((asked : List Question) × AreAsked (bytes_of files [] questions) asked)
IsGood (Path source host tid from to) files = IsGoodInput source files × ((merged : List Merged) (placed : List Placed) → IsPlacedInput source files merged placed → IsNamed merged host tid)
IsGood (Make number hosts rounds) files = IsGoodCluster (made_files number hosts rounds) (made_folders hosts)
IsGood (Range source from to path) files = IsGoodInput source files
IsGood (Disks source) files = IsGoodInput source files
