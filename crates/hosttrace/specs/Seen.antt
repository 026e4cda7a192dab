-- What a call sees of the outside (this project's own).
use Rattle.std.specs.Prelude.{◌≡◌, ℕ, ◌≤◌, List, Option, None, IfSome}
use Rattle.ht_outside.specs.Faults.{HasRisen}
use Rattle.ht_outside.specs.Files.{Files}
use Rattle.hosttrace.specs.declared.status.Refusal.{Refusal}
use Rattle.hosttrace.specs.declared.status.Status.{Status}
use Rattle.hosttrace.specs.declared.status.Status.TheVariants.{Done, Usage, Refused, ReadFault, WriteFault, NoMemory}

-- of the store: the files, where it tells them, and the count of its faults, before and after
pub record StoreSeen : Type 0 where
  pub files : Option Files
  pub files_after : Option Files
  pub faults : ℕ
  pub faults_after : ℕ

-- of a store that tells its files and faults so
abbrev pub store_seen : {S : Type 0} → (S → Option Files) → (S → ℕ) → S → S → StoreSeen
store_seen holds faults old new = record { files = holds old; files_after = holds new; faults = faults old; faults_after = faults new }

-- the store was only read: it tells the same files, and no fault was forgotten
pub record OnlyReads (seen : StoreSeen) : Type 0 where
  pub keeps : seen.files_after ≡ seen.files
  pub grows : seen.faults ≤ seen.faults_after

-- why a call has no answer: a refusal of the files, where the store tells them, a fault of the store, or lack of memory
abbrev pub FailsBy : (Files → Refusal → Type 0) → StoreSeen → Status → Type 0
FailsBy Refuses seen Done = ⊥
FailsBy Refuses seen Usage = ⊥
FailsBy Refuses seen (Refused refusal) = IfSome seen.files (λ files. Refuses files refusal)
FailsBy Refuses seen ReadFault = HasRisen seen.faults seen.faults_after
FailsBy Refuses seen WriteFault = ⊥
FailsBy Refuses seen NoMemory = Unit {0}

-- why a call that sees no files has no answer: a refusal of what it was given, or lack of memory
abbrev pub FailsOf : (Refusal → Type 0) → Status → Type 0
FailsOf Refuses (Refused refusal) = Refuses refusal
FailsOf Refuses NoMemory = Unit {0}
FailsOf Refuses _ = ⊥

-- of a sink: its bytes, where it tells them, and the count of its faults, before and after
pub record SinkSeen : Type 0 where
  pub bytes : Option (List ℕ)
  pub bytes_after : Option (List ℕ)
  pub faults : ℕ
  pub faults_after : ℕ

-- of a sink that tells its bytes and faults so
abbrev pub sink_seen : {K : Type 0} → (K → Option (List ℕ)) → (K → ℕ) → K → K → SinkSeen
sink_seen contents faults old new = record { bytes = contents old; bytes_after = contents new; faults = faults old; faults_after = faults new }

-- of a sink that wasn't called
abbrev pub not_seen : SinkSeen
not_seen = record { bytes = None; bytes_after = None; faults = 0; faults_after = 0 }

-- of the store, the sink for the text and the sink for errors
pub record Seen : Type 0 where
  pub store : StoreSeen
  pub out : SinkSeen
  pub err : SinkSeen
