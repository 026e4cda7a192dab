-- What a sink gained where it was told a status.
use Rattle.std.proofs.Common.{◌≡◌, ◌⊎◌, inl, inr, ℕ, List, [], Option, refl, sym, subst, append-nil}
use Rattle.std.specs.Io.KnownBytes.{Appends}
use Rattle.ht_outside.specs.Faults.{HasRisen}
use Rattle.hosttrace.specs.Statuses.{IsLineOf, IsTold, IsToldOf, status_line}
use Rattle.hosttrace.specs.Writing.{AppendsFront}
use Rattle.hosttrace.specs.declared.status.Status.{Status}
use Rattle.hosttrace.specs.declared.status.Status.TheVariants.{Done, Usage, Refused, ReadFault, WriteFault, NoMemory}

whole : (old new : Option (List ℕ)) (line : List ℕ) → Appends old new line → AppendsFront old new line
whole old new line h = record { front = line; rest = []; parts = sym (append-nil line); appends = h }

told_whole : (status : Status) (old new : Option (List ℕ)) (a b : ℕ) → Appends old new (status_line status) → IsTold status old new a b
told_whole Done old new a b h = h
told_whole Usage old new a b h = h
told_whole (Refused refusal) old new a b h = h
told_whole ReadFault old new a b h = h
told_whole WriteFault old new a b h = inl h
told_whole NoMemory old new a b h = (NoMemory, whole old new (status_line NoMemory) h)

a_front : (reported : Status) (line : List ℕ) (old new : Option (List ℕ)) → IsLineOf reported line → AppendsFront old new line → (status : Status) × AppendsFront old new (status_line status)
a_front reported line old new (inl is) h = (reported, subst (AppendsFront old new) is h)
a_front reported line old new (inr is) h = (NoMemory, subst (AppendsFront old new) is h)

-- what is known of the reported status tells what the answered one says
pub told_of : (reported answered : Status) (old new : Option (List ℕ)) (a b : ℕ) → IsToldOf reported answered old new a b → IsTold answered old new a b
told_of reported answered old new a b (inl (is, h)) = subst (λ s. IsTold s old new a b) (sym is) (told_whole reported old new a b h)
told_of reported answered old new a b (inr (inl (is, h))) = subst (λ s. IsTold s old new a b) (sym is) (told_whole NoMemory old new a b h)
told_of reported answered old new a b (inr (inr (inl (is, risen), (line, of, front)))) = let some = a_front reported line old new of front in subst (λ s. IsTold s old new a b) (sym is) (inr (risen, some.0, some.1))
told_of reported answered old new a b (inr (inr (inr is, (line, of, front)))) = subst (λ s. IsTold s old new a b) (sym is) (a_front reported line old new of front)

same_line : (reported : Status) (line : List ℕ) → IsLineOf NoMemory line → IsLineOf reported line
same_line reported line (inl is) = inr is
same_line reported line (inr is) = inr is

-- where memory for a status's line ran out
pub told_instead : (reported answered : Status) (old new : Option (List ℕ)) (a b : ℕ) → IsToldOf NoMemory answered old new a b → IsToldOf reported answered old new a b
told_instead reported answered old new a b (inl h) = inr (inl h)
told_instead reported answered old new a b (inr (inl h)) = inr (inl h)
told_instead reported answered old new a b (inr (inr (why, (line, of, front)))) = inr (inr (why, (line, same_line reported line of, front)))

pub told_line : (reported : Status) (line : List ℕ) (old new : Option (List ℕ)) (a b : ℕ) → line ≡ status_line reported → Appends old new line → IsToldOf reported reported old new a b
told_line reported line old new a b is h = inl (refl, subst (Appends old new) is h)

pub told_front : (reported answered : Status) (line : List ℕ) (old new : Option (List ℕ)) (a b : ℕ) → line ≡ status_line reported → ((answered ≡ WriteFault) × HasRisen a b) ⊎ (answered ≡ NoMemory) → AppendsFront old new line → IsToldOf reported answered old new a b
told_front reported answered line old new a b is why h = inr (inr (why, (line, inl is, h)))
