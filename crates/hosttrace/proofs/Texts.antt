-- The texts of inputs.
use Rattle.std.proofs.Common.{Bool, inr, inl, ◌≡◌, ℕ, List, [], Option, Some, None, subst, sym}
use Rattle.std.specs.Prelude.{IfSome, flat_map}
use Rattle.ht_outside.specs.Files.{Files, bytes_of}
use Rattle.event_list.specs.declared.trace.MergedTrace.{MergedTrace}
use Rattle.event_list.specs.Names.{names_at}
use Rattle.history_core.specs.declared.question.Question.{Question}
use Rattle.kernel_provider.specs.Replay.{state_at}
use Rattle.disk_requests.specs.Devices.{AreDevices}
use Rattle.disk_requests.specs.declared.device.Device.{Device}
use Rattle.report_views.specs.AnswersText.{asked_text}
use Rattle.report_views.specs.DisksText.{disks_text}
use Rattle.report_views.specs.StateText.{IsStateText}
use Rattle.report_views.specs.StretchesText.{IsRangeText}
use Rattle.trace_types.specs.declared.path.Path.{Path as AttributePath}
use Rattle.hosttrace.specs.Inputs.{AreAsked}
use Rattle.hosttrace.specs.Means.{IsAskOutput, IsDisksOutput, IsRangeOutput, IsStateOutput}
use Rattle.hosttrace.specs.Clusters.{IsInput}
use Rattle.hosttrace.specs.Refusals.{AskRefuses, InputRefuses, QuestionsRefuse, Refuses}
use Rattle.hosttrace.specs.Seen.{FailsBy, StoreSeen}
use Rattle.hosttrace.specs.declared.status.Status.{Status}
use Rattle.command_words.specs.declared.command.PlainCommand.{PlainCommand}
use Rattle.command_words.specs.declared.command.PlainCommand.TheVariants.{Ask}
use Rattle.hosttrace.specs.declared.status.Refusal.{Refusal}
use Rattle.command_words.specs.declared.command.Input.{Input}

pub state_output : (o : Option Files) (source : Input) (at : ℕ) (trace : MergedTrace) (text : List ℕ) → IfSome o (λ files. IsInput source files trace) → IsStateText (names_at trace.names.items) (state_at trace.events.items at) text → IfSome o (λ files. IsStateOutput files source at text)
state_output None source at trace text h is = tt
state_output (Some files) source at trace text h is = record { trace = trace; is_input = h; is_text = is }

pub ask_output : (o : Option Files) (source : Input) (questions : List ℕ) (trace : MergedTrace) (asked : List Question) (text : List ℕ) → IfSome o (λ files. IsInput source files trace) → IfSome o (λ files. AreAsked (bytes_of files [] questions) asked)
    → text ≡ flat_map (asked_text (names_at trace.names.items) (state_at trace.events.items)) asked → IfSome o (λ files. IsAskOutput files source questions text)
ask_output None source questions trace asked text h g is = tt
ask_output (Some files) source questions trace asked text h g is = record { trace = trace; is_input = h; asked = asked; are_asked = g; is_text = is }

pub range_output : (o : Option Files) (source : Input) (from to : ℕ) (path : AttributePath) (trace : MergedTrace) (text : List ℕ) → IfSome o (λ files. IsInput source files trace) → IsRangeText (names_at trace.names.items) (state_at trace.events.items) from to path text → IfSome o (λ files. IsRangeOutput files source from to path text)
range_output None source from to path trace text h is = tt
range_output (Some files) source from to path trace text h is = record { trace = trace; is_input = h; is_text = is }

pub disks_output : (o : Option Files) (source : Input) (trace : MergedTrace) (devices : List Device) (text : List ℕ) → IfSome o (λ files. IsInput source files trace) → AreDevices trace.events.items devices → text ≡ disks_text devices → IfSome o (λ files. IsDisksOutput files source text)
disks_output None source trace devices text h are is = tt
disks_output (Some files) source trace devices text h are is = record { trace = trace; is_input = h; devices = devices; are_devices = are; is_text = is }

-- after a good input the questions are refused
pub asked_refused : (o : Option Files) (source : Input) (questions : List ℕ) (trace : MergedTrace) → IfSome o (λ files. IsInput source files trace) → IfSome o (λ files. (r : Refusal) → QuestionsRefuse (bytes_of files [] questions) r → AskRefuses files source questions r)
asked_refused None source questions trace h = tt
asked_refused (Some files) source questions trace h = λ r g. inr ((trace, h), g)

pub input_refused : (o : Option Files) (source : Input) (questions : List ℕ) → IfSome o (λ files. (r : Refusal) → InputRefuses source files r → AskRefuses files source questions r)
input_refused None source questions = tt
input_refused (Some files) source questions = λ r h. inl h

pub refuses_asked : (command : PlainCommand) (source : Input) (questions : List ℕ) (once : Bool) → command ≡ Ask source questions once → (seen : StoreSeen) (status : Status) → FailsBy (λ files r. AskRefuses files source questions r) seen status → FailsBy (Refuses command) seen status
refuses_asked command source questions once is seen status h = subst (λ k. FailsBy (Refuses k) seen status) (sym is) h
