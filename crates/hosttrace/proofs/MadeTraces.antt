-- What is read of made traces.
use Rattle.std.proofs.Common.{◌≡◌, inl, inr, ℕ, ◌+◌, suc, List, [], ◌∷◌, ◌++◌, Option, Some, ap, subst₂, arith}
use Rattle.std.specs.Fmt.{decimal}
use Rattle.ht_outside.specs.Faults.{HasRisen}
use Rattle.ht_outside.specs.Files.{Files}
use Rattle.trace_types.specs.declared.host.HostEvents.{HostEvents}
use Rattle.trace_gen.specs.Folders.{AreSame}
use Rattle.host_sync.specs.Synced.{Synced}
use Rattle.report_views.specs.Made.{made_text}
use Rattle.hosttrace.specs.Clusters.{AreSyncedTraces}
use Rattle.hosttrace.specs.Making.{IsMakeOutput, made_files, made_folders}
use Rattle.hosttrace.specs.Refusals.{ClusterRefuses, MakeRefuses}
use Rattle.hosttrace.specs.Seen.{FailsBy, FailsOf}
use Rattle.hosttrace.specs.declared.status.Status.{Status}
use Rattle.hosttrace.specs.declared.status.Status.TheVariants.{Done, Usage, Refused, ReadFault, WriteFault, NoMemory}
use Rattle.hosttrace.proofs.Clustered.{in_order, sends_first}

-- one folder more
pub folders_next : (host : ℕ) → made_folders (host + 1) ≡ made_folders host ++ decimal host ∷ []
folders_next host = let next : host + 1 ≡ suc host = omega arith in ap made_folders next

-- files that are the same at each place are the same
same_files : (files others : Files) → AreSame files others → files ≡ others
same_files files others same = λ i dir name. same dir name i

pub made_traces : (number hosts rounds : ℕ) (files : Files) (dirs : List (List ℕ)) (found : List HostEvents) (s : Synced) → AreSame files (made_files number hosts rounds) → dirs ≡ made_folders hosts → AreSyncedTraces files dirs 1000 found s
    → AreSyncedTraces (made_files number hosts rounds) (made_folders hosts) 1000 found s
made_traces number hosts rounds files dirs found s same named traces = subst₂ (λ fs ds. AreSyncedTraces fs ds 1000 found s) (same_files files (made_files number hosts rounds) same) named traces

-- a store in memory has no faults
never_risen : HasRisen 0 0 → ⊥
never_risen (inl h) = absurd (omega (arith, h))
never_risen (inr h) = absurd (omega (arith, h))

pub made_fails : (number hosts rounds : ℕ) (files : Files) (after : Option Files) (dirs : List (List ℕ)) (status : Status) → AreSame files (made_files number hosts rounds) → dirs ≡ made_folders hosts
    → FailsBy (λ fs refusal. ClusterRefuses fs dirs refusal) (record { files = Some files; files_after = after; faults = 0; faults_after = 0 }) status → FailsOf (MakeRefuses number hosts rounds) status
made_fails number hosts rounds files after dirs Done same named h = h
made_fails number hosts rounds files after dirs Usage same named h = h
made_fails number hosts rounds files after dirs (Refused refusal) same named h = subst₂ (λ fs ds. ClusterRefuses fs ds refusal) (same_files files (made_files number hosts rounds) same) named h
made_fails number hosts rounds files after dirs ReadFault same named h = absurd (never_risen h)
made_fails number hosts rounds files after dirs WriteFault same named h = h
made_fails number hosts rounds files after dirs NoMemory same named h = h

-- ---- the summary

pub make_output : (number hosts rounds : ℕ) (found : List HostEvents) (s : Synced) (text : List ℕ) → AreSyncedTraces (made_files number hosts rounds) (made_folders hosts) 1000 found s
    → text ≡ made_text hosts rounds s.matched s.ambiguous s.parents s.merged s.placed → IsMakeOutput number hosts rounds text
make_output number hosts rounds found s text traces is = record {
  found = found;
  synced = s;
  traces = traces;
  keeps_order = in_order (made_files number hosts rounds) (made_folders hosts) 1000 found s traces;
  sends_first = sends_first (made_files number hosts rounds) (made_folders hosts) 1000 found s traces;
  is_text = is;
}
