-- The critical path of an input, and why there is none.
use Rattle.std.proofs.Common.{Contains, ◌≡◌, ◌≤◌, length, ℕ, inl, inr, List, [], Option, Some, None, refl, subst, sym}
use Rattle.std.specs.Prelude.{IfSome}
use Rattle.ht_outside.specs.Files.{Files, bytes_of}
use Rattle.trace_types.specs.declared.event.Merged.{Merged}
use Rattle.trace_types.specs.declared.host.HostEvents.{HostEvents}
use Rattle.event_list.specs.declared.trace.MergedTrace.{MergedTrace}
use Rattle.history_core.specs.Agreement.{IsMerge}
use Rattle.host_merge.specs.declared.placed.Placed.{Placed}
use Rattle.host_sync.proofs.Kept.{synced_keep_order}
use Rattle.host_sync.specs.Synced.{Synced}
use Rattle.list_messages.proofs.AtEvents.{at_events}
use Rattle.list_messages.specs.Places.{AreListPlaces}
use Rattle.wait_graph.specs.Graph.{IsGraphOf, IsMergeWithMessages, WaitGraph}
use Rattle.wait_graph.specs.Named.{IsNamed}
use Rattle.critical_path.specs.Pieces.{IsCriticalPath}
use Rattle.critical_path.specs.declared.path.PathError.{PathError}
use Rattle.critical_path.specs.declared.path.PathError.TheVariants as no
use Rattle.critical_path.specs.declared.piece.PathPiece.{PathPiece}
use Rattle.report_views.specs.Pieces.{pieces_text}
use Rattle.trace_types.specs.declared.limits.TheConstants.{MAX_EVENTS}
use Rattle.command_words.specs.declared.command.Input.{Input}
use Rattle.command_words.specs.declared.command.PlainCommand.{PlainCommand}
use Rattle.command_words.specs.declared.command.PlainCommand.TheVariants.{Path}
use Rattle.hosttrace.specs.Clusters.{AreSyncedTraces, IsSyncedCluster}
use Rattle.hosttrace.specs.Inputs.{IsListTrace}
use Rattle.hosttrace.specs.Paths.{ArePlacedFolders, IsPathOutput, IsPathText, IsPlacedInput, IsPlacedList}
use Rattle.hosttrace.specs.Refusals.{InputRefuses, PathRefuses, Refuses, ThreadRefuses}
use Rattle.hosttrace.specs.Seen.{FailsBy, FailsOf, StoreSeen}
use Rattle.hosttrace.specs.Statuses.{path_status}
use Rattle.hosttrace.specs.declared.status.Refusal.{Refusal}
use Rattle.hosttrace.specs.declared.status.Status.{Status}

pub list_placed : (o : Option Files) (file : List ℕ) (trace : MergedTrace) (merged : List Merged) (placed : List Placed) → IfSome o (λ files. IsListTrace (bytes_of files [] file) trace) → merged ≡ trace.events.items → AreListPlaces trace placed
    → IfSome o (λ files. IsPlacedList (bytes_of files [] file) merged placed)
list_placed None file trace merged placed h is places = tt
list_placed (Some files) file trace merged placed h is places = record { trace = trace; is_trace = h; merged_is = is; places = places }

pub folders_placed : (o : Option Files) (dirs : List (List ℕ)) (drift : ℕ) (found : List HostEvents) (s : Synced) (merged : List Merged) (placed : List Placed) → IfSome o (λ files. AreSyncedTraces files dirs drift found s) → merged ≡ s.merged → placed ≡ s.placed
    → IfSome o (λ files. ArePlacedFolders files dirs drift merged placed)
folders_placed None dirs drift found s merged placed h is are = tt
folders_placed (Some files) dirs drift found s merged placed h is are = record { found = found; synced = s; traces = h; merged_is = is; placed_are = are }

-- what synchronization gives is a merge with its messages
pub merge_of_synced : (found : List HostEvents) (drift : ℕ) (s : Synced) → IsSyncedCluster found drift s → IsMerge s.merged → length s.merged ≤ MAX_EVENTS → IsMergeWithMessages s.merged s.placed
merge_of_synced found drift s h merge few = record {
  rises = merge.rises;
  below = merge.below;
  few = few;
  messages = at_events found s.matched s.ambiguous s.merged s.placed h.synced.messages (synced_keep_order found drift s h.can h.synced) h.synced.places;
}

pub path_output : (o : Option Files) (source : Input) (host tid from to : ℕ) (merged : List Merged) (placed : List Placed) (text : List ℕ) → IfSome o (λ files. IsPlacedInput source files merged placed) → IsMergeWithMessages merged placed → IsPathText merged placed host tid from to text
    → IfSome o (λ files. IsPathOutput files source host tid from to text)
path_output None source host tid from to merged placed text h merge path = tt
path_output (Some files) source host tid from to merged placed text h merge path = record { merged = merged; placed = placed; is_input = h; is_merge = merge; path = path }

pub placed_refused : (o : Option Files) (source : Input) (host tid : ℕ) → IfSome o (λ files. (r : Refusal) → InputRefuses source files r → PathRefuses files source host tid r)
placed_refused None source host tid = tt
placed_refused (Some files) source host tid = λ r h. inl h

-- after a good input the thread is refused
pub thread_refused : (o : Option Files) (source : Input) (host tid : ℕ) (merged : List Merged) (placed : List Placed) → IfSome o (λ files. IsPlacedInput source files merged placed) → IfSome o (λ files. (r : Refusal) → ThreadRefuses merged host tid r → PathRefuses files source host tid r)
thread_refused None source host tid merged placed h = tt
thread_refused (Some files) source host tid merged placed h = λ r g. inr (merged, placed, h, g)

pub refuses_path : (command : PlainCommand) (source : Input) (host tid from to : ℕ) → command ≡ Path source host tid from to → (seen : StoreSeen) (status : Status) → FailsBy (λ files r. PathRefuses files source host tid r) seen status → FailsBy (Refuses command) seen status
refuses_path command source host tid from to is seen status h = subst (λ k. FailsBy (Refuses k) seen status) (sym is) h

-- why a thread has no path, and the status that tells it
pub path_fails : (merged : List Merged) (host tid : ℕ) (error : PathError) (status : Status) → status ≡ path_status host tid error → (error ≡ no.NoThread → ¬ IsNamed merged host tid) → FailsOf (ThreadRefuses merged host tid) status
path_fails merged host tid no.NoThread status e none = subst (FailsOf (ThreadRefuses merged host tid)) (sym e) (refl, refl, none refl)
path_fails merged host tid no.OutOfMemory status e none = subst (FailsOf (ThreadRefuses merged host tid)) (sym e) tt

-- ---- the pieces over a merge

module _ (merged : List Merged) (placed : List Placed) (graph : WaitGraph) (host tid from to : ℕ) (is : IsGraphOf merged placed graph) where
  pub path_text_of : IsMergeWithMessages merged placed → Contains graph.named (record { host = host; tid = tid }) → (pieces : List PathPiece)
      → ((ms : List Merged) (ps : List Placed) → IsMergeWithMessages ms ps → IsGraphOf ms ps graph → IsCriticalPath ms ps host tid from to pieces) → (text : List ℕ) → text ≡ pieces_text pieces → IsPathText merged placed host tid from to text
  path_text_of merge named pieces path text same = record { named = (is.named host tid).0 named; pieces = pieces; is_path = path merged placed merge is; is_text = same }

  pub not_named : ¬ Contains graph.named (record { host = host; tid = tid }) → ¬ IsNamed merged host tid
  not_named none named = none ((is.named host tid).1 named)
