-- The merge of an input with its messages, and the critical path of a thread in it (this project's own).
use Rattle.std.specs.Prelude.{◌≡◌, ℕ, List, []}
use Rattle.ht_outside.specs.Files.{Files, bytes_of}
use Rattle.trace_types.specs.declared.event.Merged.{Merged}
use Rattle.trace_types.specs.declared.host.HostEvents.{HostEvents}
use Rattle.event_list.specs.declared.trace.MergedTrace.{MergedTrace}
use Rattle.host_merge.specs.declared.placed.Placed.{Placed}
use Rattle.host_sync.specs.Synced.{Synced}
use Rattle.list_messages.specs.Places.{AreListPlaces}
use Rattle.wait_graph.specs.Graph.{IsMergeWithMessages}
use Rattle.wait_graph.specs.Named.{IsNamed}
use Rattle.critical_path.specs.Pieces.{IsCriticalPath}
use Rattle.critical_path.specs.declared.piece.PathPiece.{PathPiece}
use Rattle.report_views.specs.Pieces.{pieces_text}
use Rattle.command_words.specs.declared.command.Input.{Input}
use Rattle.command_words.specs.declared.command.Input.TheVariants as input
use Rattle.hosttrace.specs.Clusters.{AreSyncedTraces}
use Rattle.hosttrace.specs.Inputs.{IsListTrace}

-- the merge of a list, and where the messages among its hosts stand in it
pub record IsPlacedList (bytes : List ℕ) (merged : List Merged) (placed : List Placed) : Type 0 where
  pub trace : MergedTrace
  pub is_trace : IsListTrace bytes trace
  pub merged_is : merged ≡ trace.events.items
  pub places : AreListPlaces trace placed

-- the merge of folders' traces, by this drift, and where the messages among their hosts stand in it
pub record ArePlacedFolders (files : Files) (dirs : List (List ℕ)) (drift : ℕ) (merged : List Merged) (placed : List Placed) : Type 0 where
  pub found : List HostEvents
  pub synced : Synced
  pub traces : AreSyncedTraces files dirs drift found synced
  pub merged_is : merged ≡ synced.merged
  pub placed_are : placed ≡ synced.placed

-- the merge of an input, and where the messages among its hosts stand in it
abbrev pub IsPlacedInput : Input → Files → List Merged → List Placed → Type 0
IsPlacedInput (input.List file) files merged placed = IsPlacedList (bytes_of files [] file) merged placed
IsPlacedInput (input.Folders dirs drift) files merged placed = ArePlacedFolders files dirs drift merged placed

-- an event of the merge names the thread, and the lines are the pieces of its critical path over a window
pub record IsPathText (merged : List Merged) (placed : List Placed) (host tid from to : ℕ) (text : List ℕ) : Type 0 where
  pub named : IsNamed merged host tid
  pub pieces : List PathPiece
  pub is_path : IsCriticalPath merged placed host tid from to pieces
  pub is_text : text ≡ pieces_text pieces

-- the critical path of a thread over a window, of an input: who holds the thread up at each instant of the window, by all events on one clock and all messages among their hosts
pub record IsPathOutput (files : Files) (source : Input) (host tid from to : ℕ) (text : List ℕ) : Type 0 where
  pub merged : List Merged
  pub placed : List Placed
  pub is_input : IsPlacedInput source files merged placed
  pub is_merge : IsMergeWithMessages merged placed
  pub path : IsPathText merged placed host tid from to text
