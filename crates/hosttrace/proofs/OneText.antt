-- A command has one text at most over given files. Where it has one they are good, and nothing refuses them.
use Rattle.std.proofs.Common.{◌≡◌, ◌∙◌, ℕ, List, [], ◌∷◌, refl, sym, ap, ap₂, subst, subst₂}
use Rattle.std.specs.Prelude.{flat_map}
use Rattle.ht_outside.specs.Files.{Files, bytes_of}
use Rattle.type_scope.specs.Traces.{Trace}
use Rattle.trace_metadata.proofs.OneTrace.{one_trace}
use Rattle.disk_requests.specs.Devices.{AreDevices}
use Rattle.disk_requests.proofs.OneAnswer.{one_answer as one_table}
use Rattle.event_list.proofs.OneList as list
use Rattle.event_list.specs.Names.{lines_of, names_at}
use Rattle.event_list.specs.declared.trace.MergedTrace.{MergedTrace}
use Rattle.kernel_provider.specs.Replay.{state_at}
use Rattle.report_views.specs.AnswersText.{asked_text}
use Rattle.report_views.specs.DisksText.{disks_text}
use Rattle.report_views.specs.StateText.{IsStateText, row_text}
use Rattle.report_views.specs.StretchesText.{IsRangeText}
use Rattle.report_views.proofs.StretchLines.{one_range_text}
use Rattle.trace_types.specs.declared.path.Path.{Path as AttributePath}
use Rattle.command_words.specs.declared.command.Input.{Input}
use Rattle.command_words.specs.declared.command.Input.TheVariants as input
use Rattle.command_words.specs.declared.command.PlainCommand.{PlainCommand}
use Rattle.command_words.specs.declared.command.PlainCommand.TheVariants.{Ask, Check, Disks, Events, Make, Path, Range, Report, State}
use Rattle.trace_types.specs.declared.event.Merged.{Merged}
use Rattle.trace_types.specs.declared.host.HostEvents.{HostEvents}
use Rattle.host_merge.specs.declared.placed.Placed.{Placed}
use Rattle.wait_graph.specs.Named.{IsNamed}
use Rattle.host_sync.specs.Laws.{IsOneAnswer}
use Rattle.host_sync.specs.Synced.{Synced}
use Rattle.hosttrace.specs.Clusters.{AreSyncedTraces, IsCluster, IsInput}
use Rattle.hosttrace.specs.Hosts.{AreTraces, host_lines}
use Rattle.hosttrace.specs.Making.{IsMakeOutput, made_files, made_folders}
use Rattle.hosttrace.specs.Means.{IsAskOutput, IsCheckOutput, IsDisksOutput, IsEventsOutput, IsRangeOutput, IsReportOutput, IsGood, IsGoodInput, IsOutput, IsStateOutput}
use Rattle.hosttrace.specs.Paths.{IsPathOutput, IsPathText, IsPlacedInput}
use Rattle.hosttrace.specs.Refusals.{Refuses}
use Rattle.hosttrace.specs.declared.status.Refusal.{Refusal}
use Rattle.hosttrace.proofs.Complete.{good}
use Rattle.hosttrace.proofs.OneAsking.{one_asking}
use Rattle.hosttrace.proofs.Clustered.{can_sync}
use Rattle.hosttrace.proofs.OneCluster.{good_traces, one_found, one_listing}
use Rattle.hosttrace.proofs.OnePath.{one_places, same_path_text}
use Rattle.hosttrace.proofs.OneReport.{one_report, one_summary}
use Rattle.hosttrace.proofs.OneSync.{one_synced, same_names}

-- ---- one answer of folders

pub one_answer : (files : Files) (dirs : List (List ℕ)) (drift : ℕ) (found others : List HostEvents) (s z : Synced) → AreSyncedTraces files dirs drift found s → AreSyncedTraces files dirs drift others z → IsOneAnswer found s z
one_answer files dirs drift found others s z h g =
    one_synced found others drift s z (can_sync files dirs drift found s h) (one_found files dirs drift drift found others s z h g) h.synced g.synced

one_merge : (files : Files) (dirs : List (List ℕ)) (drift : ℕ) (t u : MergedTrace) → IsCluster files dirs drift t → IsCluster files dirs drift u → (t.events.items ≡ u.events.items) × (t.names.items ≡ u.names.items)
one_merge files dirs drift t u h g =
    let same = one_answer files dirs drift h.found g.found h.synced g.synced h.traces g.traces in
    let names = same_names h.found g.found (one_found files dirs drift drift h.found g.found h.synced g.synced h.traces g.traces) in
    (h.events ∙ (same.merged ∙ sym g.events), h.names ∙ (names ∙ sym g.names))

one_events_text : (files : Files) (dirs : List (List ℕ)) (drift : ℕ) (a b : List ℕ) → IsEventsOutput files dirs drift a → IsEventsOutput files dirs drift b → a ≡ b
one_events_text files dirs drift a b h g =
    let same = one_answer files dirs drift h.found g.found h.synced g.synced h.traces g.traces in
    let names = same_names h.found g.found (one_found files dirs drift drift h.found g.found h.synced g.synced h.traces g.traces) in
    h.is_text ∙ (ap₂ (λ ns es. lines_of (names_at ns) es) names same.merged ∙ sym g.is_text)

one_report_text : (files : Files) (dirs : List (List ℕ)) (drift : ℕ) (a b : List ℕ) → IsReportOutput files dirs drift a → IsReportOutput files dirs drift b → a ≡ b
one_report_text files dirs drift a b h g =
    let same = one_answer files dirs drift h.found g.found h.synced g.synced h.traces g.traces in
    let found = one_found files dirs drift drift h.found g.found h.synced g.synced h.traces g.traces in
    h.is_text ∙ (one_report drift h.found g.found h.synced g.synced found same ∙ sym g.is_text)

one_make_text : (number hosts rounds : ℕ) (a b : List ℕ) → IsMakeOutput number hosts rounds a → IsMakeOutput number hosts rounds b → a ≡ b
one_make_text number hosts rounds a b h g =
    let same = one_answer (made_files number hosts rounds) (made_folders hosts) 1000 h.found g.found h.synced g.synced h.traces g.traces in
    h.is_text ∙ (one_summary hosts rounds h.found h.synced g.synced same ∙ sym g.is_text)

-- ---- one trace of an input

one_input : (files : Files) (source : Input) (t u : MergedTrace) → IsInput source files t → IsInput source files u → (t.events.items ≡ u.events.items) × (t.names.items ≡ u.names.items)
one_input files (input.List file) t u h g = list.one_trace (bytes_of files [] file) h.parsed_lines g.parsed_lines t u h.is_list.is_list h.is_trace g.is_list.is_list g.is_trace
one_input files (input.Folders dirs drift) t u h g = one_merge files dirs drift t u h g

pub one_state_text : (files : Files) (source : Input) (at : ℕ) (a b : List ℕ) → IsStateOutput files source at a → IsStateOutput files source at b → a ≡ b
one_state_text files source at a b h g =
    let same = one_input files source h.trace g.trace h.is_input g.is_input in
    let text : IsStateText (names_at g.trace.names.items) (state_at g.trace.events.items at) a = subst₂ (λ names es. IsStateText (names_at names) (state_at es at) a) same.1 same.0 h.is_text in
    let rows = one_listing (state_at g.trace.events.items at) text.0 g.is_text.0 text.1 g.is_text.1 in
    text.2 ∙ (ap (flat_map (row_text (names_at g.trace.names.items))) rows ∙ sym g.is_text.2)

pub one_answers_text : (files : Files) (source : Input) (questions a b : List ℕ) → IsAskOutput files source questions a → IsAskOutput files source questions b → a ≡ b
one_answers_text files source questions a b h g =
    let same = one_input files source h.trace g.trace h.is_input g.is_input in
    let asked = one_asking (bytes_of files [] questions) h.asked g.asked h.are_asked.are_questions g.are_asked.are_questions in
    h.is_text
    ∙ (ap (λ names. flat_map (asked_text (names_at names) (state_at h.trace.events.items)) h.asked) same.1
    ∙ (ap (λ es. flat_map (asked_text (names_at g.trace.names.items) (state_at es)) h.asked) same.0
    ∙ (ap (λ qs. flat_map (asked_text (names_at g.trace.names.items) (state_at g.trace.events.items)) qs) asked
    ∙ sym g.is_text)))

one_stretches_text : (files : Files) (source : Input) (from to : ℕ) (path : AttributePath) (a b : List ℕ) → IsRangeOutput files source from to path a → IsRangeOutput files source from to path b → a ≡ b
one_stretches_text files source from to path a b h g =
    let same = one_input files source h.trace g.trace h.is_input g.is_input in
    let text : IsRangeText (names_at g.trace.names.items) (state_at g.trace.events.items) from to path a = subst₂ (λ names es. IsRangeText (names_at names) (state_at es) from to path a) same.1 same.0 h.is_text in
    one_range_text (names_at g.trace.names.items) (state_at g.trace.events.items) from to path a b text g.is_text

one_disks_text : (files : Files) (source : Input) (a b : List ℕ) → IsDisksOutput files source a → IsDisksOutput files source b → a ≡ b
one_disks_text files source a b h g =
    let same = one_input files source h.trace g.trace h.is_input g.is_input in
    let devices = one_table g.trace.events.items h.devices g.devices (subst (λ es. AreDevices es h.devices) same.0 h.are_devices) g.are_devices in
    h.is_text ∙ (ap disks_text devices ∙ sym g.is_text)

-- ---- one merge of an input with its messages

pub one_placed_input : (files : Files) (source : Input) (merged others : List Merged) (placed again : List Placed) → IsPlacedInput source files merged placed → IsPlacedInput source files others again → (merged ≡ others) × (placed ≡ again)
one_placed_input files (input.List file) merged others placed again h g =
    let same = one_input files (input.List file) h.trace g.trace h.is_trace g.is_trace in
    (h.merged_is ∙ (same.0 ∙ sym g.merged_is), one_places h.trace g.trace same.0 same.1 placed again h.places g.places)
one_placed_input files (input.Folders dirs drift) merged others placed again h g =
    let same = one_answer files dirs drift h.found g.found h.synced g.synced h.traces g.traces in
    (h.merged_is ∙ (same.merged ∙ sym g.merged_is), h.placed_are ∙ (same.placed ∙ sym g.placed_are))

one_path_text : (files : Files) (source : Input) (host tid from to : ℕ) (a b : List ℕ) → IsPathOutput files source host tid from to a → IsPathOutput files source host tid from to b → a ≡ b
one_path_text files source host tid from to a b h g =
    let same = one_placed_input files source h.merged g.merged h.placed g.placed h.is_input g.is_input in
    same_path_text g.merged g.placed host tid from to g.is_merge a b (subst₂ (λ ms ps. IsPathText ms ps host tid from to a) same.0 same.1 h.path) g.path

-- ---- one text of a check

same_traces : (files : List (List ℕ)) (ts us : List Trace) → AreTraces files ts → AreTraces files us → ts ≡ us
same_traces [] [] [] h g = refl
same_traces [] [] (u ∷ us) h g = absurd g
same_traces [] (t ∷ ts) us h g = absurd h
same_traces (f ∷ fs) [] us h g = absurd h
same_traces (f ∷ fs) (t ∷ ts) [] h g = absurd g
same_traces (f ∷ fs) (t ∷ ts) (u ∷ us) h g = ap₂ (λ x xs. x ∷ xs) (one_trace f t u h.0 g.0) (same_traces fs ts us h.1 g.1)

one_check_text : (files : Files) (folders : List (List ℕ)) (a b : List ℕ) → IsCheckOutput files folders a → IsCheckOutput files folders b → a ≡ b
one_check_text files folders a b h g = h.is_text ∙ (ap (host_lines 0) (same_traces _ h.traces g.traces h.are_traces g.are_traces) ∙ sym g.is_text)

pub one_text : (command : PlainCommand) (files : Files) (a b : List ℕ) → IsOutput command files a → IsOutput command files b → a ≡ b
one_text (Check folders) files a b h g = one_check_text files folders a b h g
one_text (Report folders drift) files a b h g = one_report_text files folders drift a b h g
one_text (Events folders drift) files a b h g = one_events_text files folders drift a b h g
one_text (State source at) files a b h g = one_state_text files source at a b h g
one_text (Ask source questions once) files a b h g = one_answers_text files source questions a b h g
one_text (Path source host tid from to) files a b h g = one_path_text files source host tid from to a b h g
one_text (Make number hosts rounds) files a b h g = one_make_text number hosts rounds a b h g
one_text (Range source from to path) files a b h g = one_stretches_text files source from to path a b h g
one_text (Disks source) files a b h g = one_disks_text files source a b h g

-- ---- files that have a text are good

pub input_is_good : (files : Files) (source : Input) (t : MergedTrace) → IsInput source files t → IsGoodInput source files
input_is_good files (input.List file) t h = (h.parsed_lines, h.is_list)
input_is_good files (input.Folders dirs drift) t h = good_traces files dirs drift h.found h.synced h.traces

pub good_placed : (files : Files) (source : Input) (merged : List Merged) (placed : List Placed) → IsPlacedInput source files merged placed → IsGoodInput source files
good_placed files (input.List file) merged placed h = (h.is_trace.parsed_lines, h.is_trace.is_list)
good_placed files (input.Folders dirs drift) merged placed h = good_traces files dirs drift h.found h.synced h.traces

good_path : (files : Files) (source : Input) (host tid from to : ℕ) (text : List ℕ) → IsPathOutput files source host tid from to text → IsGood (Path source host tid from to) files
good_path files source host tid from to text h = (
  good_placed files source h.merged h.placed h.is_input,
  (λ merged placed is. subst (λ ms. IsNamed ms host tid) (one_placed_input files source h.merged merged h.placed placed h.is_input is).0 h.path.named),
)

pub good_files : (command : PlainCommand) (files : Files) (text : List ℕ) → IsOutput command files text → IsGood command files
good_files (Check folders) files text h = record { few = h.few; are_read = h.are_read; traces = h.traces; are_traces = h.are_traces }
good_files (Report folders drift) files text h = good_traces files folders drift h.found h.synced h.traces
good_files (Events folders drift) files text h = good_traces files folders drift h.found h.synced h.traces
good_files (State source at) files text h = input_is_good files source h.trace h.is_input
good_files (Ask source questions once) files text h = (input_is_good files source h.trace h.is_input, (h.asked, h.are_asked))
good_files (Path source host tid from to) files text h = good_path files source host tid from to text h
good_files (Make number hosts rounds) files text h = good_traces (made_files number hosts rounds) (made_folders hosts) 1000 h.found h.synced h.traces
good_files (Range source from to path) files text h = input_is_good files source h.trace h.is_input
good_files (Disks source) files text h = input_is_good files source h.trace h.is_input

pub never_refused : (command : PlainCommand) (files : Files) (text : List ℕ) (refusal : Refusal) → IsOutput command files text → Refuses command files refusal → ⊥
never_refused command files text refusal h refused = good command files refusal refused (good_files command files text h)
