-- Why a call of several steps has no answer: one of its steps has none.
use Rattle.std.proofs.Common.{◌∙◌, ℕ, Option, Some, None, refl, subst, arith}
use Rattle.std.specs.Prelude.{IfSome}
use Rattle.ht_outside.specs.Files.{Files}
use Rattle.hosttrace.specs.Seen.{FailsBy, FailsOf, OnlyReads, StoreSeen, store_seen}
use Rattle.hosttrace.specs.declared.status.Refusal.{Refusal}
use Rattle.hosttrace.specs.declared.status.Status.{Status}
use Rattle.hosttrace.specs.declared.status.Status.TheVariants.{Done, Usage, Refused, ReadFault, WriteFault, NoMemory}
use Rattle.hosttrace.proofs.Parts.{risen_later}

-- one refusal is another, at files that are known so
abbrev pub IsRefusalOf : (Files → Refusal → Type 0) → (Files → Refusal → Type 0) → Files → Type 0
IsRefusalOf P Q files = (r : Refusal) → Q files r → P files r

module _ {S : Type 0} (holds : S → Option Files) (faults : S → ℕ) where
  pub reads_on : (old mid new : S) → OnlyReads (store_seen holds faults old mid) → OnlyReads (store_seen holds faults mid new) → OnlyReads (store_seen holds faults old new)
  reads_on old mid new h g =
      let first = h.grows in
      let then = g.grows in
      record { keeps = g.keeps ∙ h.keeps; grows = omega (arith, first, then) }

  -- what a later step refuses is refused, and a fault that rose later rose
  pub fails_by : (P Q : Files → Refusal → Type 0) (old mid new : S) (status : Status) → OnlyReads (store_seen holds faults old mid) → IfSome (holds old) (IsRefusalOf P Q) → FailsBy Q (store_seen holds faults mid new) status → FailsBy P (store_seen holds faults old new) status
  fails_by P Q old mid new Done reads f h = h
  fails_by P Q old mid new Usage reads f h = h
  fails_by P Q old mid new (Refused r) reads f h = by (holds old) f (subst (λ o. IfSome o (λ files. Q files r)) reads.keeps h)
    where
      by : (o : Option Files) → IfSome o (IsRefusalOf P Q) → IfSome o (λ files. Q files r) → IfSome o (λ files. P files r)
      by None f h = tt
      by (Some files) f h = f r h
  fails_by P Q old mid new ReadFault reads f h = risen_later (faults old) (faults mid) (faults new) reads.grows h
  fails_by P Q old mid new WriteFault reads f h = h
  fails_by P Q old mid new NoMemory reads f h = h

  -- what the first step refuses is refused
  pub fails_at : (P Q : Files → Refusal → Type 0) (old new : S) (status : Status) → IfSome (holds old) (IsRefusalOf P Q) → FailsBy Q (store_seen holds faults old new) status → FailsBy P (store_seen holds faults old new) status
  fails_at P Q old new status f h = fails_by P Q old old new status (record { keeps = refl; grows = omega arith }) f h

-- what is refused without a look at files is refused
pub fails_of : (P : Files → Refusal → Type 0) (Q : Refusal → Type 0) (seen : StoreSeen) (status : Status) → IfSome seen.files (IsRefusalOf P (λ files. Q)) → FailsOf Q status → FailsBy P seen status
fails_of P Q seen Done f h = h
fails_of P Q seen Usage f h = h
fails_of P Q seen (Refused r) f h = by seen.files f
  where
    by : (o : Option Files) → IfSome o (IsRefusalOf P (λ files. Q)) → IfSome o (λ files. P files r)
    by None f = tt
    by (Some files) f = f r h
fails_of P Q seen ReadFault f h = absurd h
fails_of P Q seen WriteFault f h = h
fails_of P Q seen NoMemory f h = h

-- what is known at files that a store tells still is after it was read
pub known_before : {S : Type 0} (holds : S → Option Files) (faults : S → ℕ) (P : Files → Type 0) (old mid : S) → OnlyReads (store_seen holds faults old mid) → IfSome (holds mid) P → IfSome (holds old) P
known_before holds faults P old mid reads h = subst (λ o. IfSome o P) reads.keeps h

pub both_known : (o : Option Files) (P Q R : Files → Type 0) → ((files : Files) → P files → Q files → R files) → IfSome o P → IfSome o Q → IfSome o R
both_known None P Q R f h g = tt
both_known (Some files) P Q R f h g = f files h g

pub known : (o : Option Files) (P Q : Files → Type 0) → ((files : Files) → P files → Q files) → IfSome o P → IfSome o Q
known None P Q f h = tt
known (Some files) P Q f h = f files h
