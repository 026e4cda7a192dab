-- What is left of the stream files of a folder, after those that were read.
use Rattle.std.proofs.Common.{◌≡◌, inl, inr, ℕ, ◌+◌, List, [], ◌∷◌, ◌++◌, length, drop, Option, Some, None, refl, sym, ap, ◌∙◌, subst, append_assoc, append-nil, arith}
use Rattle.std.specs.Prelude.{IfSome}
use Rattle.std.specs.List.{AllByRecursion}
use Rattle.ht_outside.specs.Files.{Files, bytes_of}
use Rattle.decode_pool.specs.declared.files.FileBytes.{FileBytes}
use Rattle.decode_pool.specs.Hosts.{IsSmall}
use Rattle.hosttrace.specs.Refusals.{StreamRefuses, StreamsRefuse}
use Rattle.hosttrace.specs.Streams.{AreFiles, AreStreamsRead, StreamFits, size_of, streams_size}
use Rattle.hosttrace.specs.declared.status.Refusal.{Refusal}

pub record StreamsLeft (files : Files) (dir : List ℕ) (names : List (List ℕ)) (before at total : ℕ) (fs : List FileBytes) : Type 0 where
  pub reads : AreStreamsRead files dir total (drop at names) → AreStreamsRead files dir before names
  pub only : (r : Refusal) → StreamsRefuse files dir total (drop at names) r → StreamsRefuse files dir before names r
  pub are : (more : List FileBytes) → AreFiles files dir (drop at names) more → AreFiles files dir names (fs ++ more)
  pub size : total + streams_size files dir (drop at names) ≡ before + streams_size files dir names

pub all_streams : (o : Option Files) (dir : List ℕ) (names : List (List ℕ)) (before : ℕ) → IfSome o (λ files. StreamsLeft files dir names before 0 before [])
all_streams None dir names before = tt
all_streams (Some files) dir names before = record { reads = λ h. h; only = λ r h. h; are = λ more h. h; size = refl }

next : (files : Files) (dir : List ℕ) (names : List (List ℕ)) (before at total : ℕ) (fs : List FileBytes) (name : List ℕ) (f : FileBytes) → StreamsLeft files dir names before at total fs → drop at names ≡ name ∷ drop (at + 1) names → f.name ≡ name → f.bytes.items ≡ bytes_of files dir name → StreamFits total (length f.bytes.items)
    → StreamsLeft files dir names before (at + 1) (total + length f.bytes.items) (fs ++ f ∷ [])
next files dir names before at total fs name f left here named same fits =
    let size : length f.bytes.items ≡ size_of files dir name = ap length same in
    let fit : StreamFits total (size_of files dir name) = subst (StreamFits total) size fits in
    record {
      reads = λ h. left.reads (subst (AreStreamsRead files dir total) (sym here) (fit, subst (λ n. AreStreamsRead files dir (total + n) (drop (at + 1) names)) size h));
      only = λ r h. left.only r (subst (λ l. StreamsRefuse files dir total l r) (sym here) (inr (fit, subst (λ n. StreamsRefuse files dir (total + n) (drop (at + 1) names) r) size h)));
      are = λ more h. subst (AreFiles files dir names) (sym (append_assoc fs (f ∷ []) more)) (left.are (f ∷ more) (subst (λ l. AreFiles files dir l (f ∷ more)) (sym here) ((named, same), h)));
      size =
          let all : total + (size_of files dir name + streams_size files dir (drop (at + 1) names)) ≡ before + streams_size files dir names = ap (λ l. total + streams_size files dir l) (sym here) ∙ left.size in
          omega (arith, all, size);
    }

pub next_stream : (o q : Option Files) (dir : List ℕ) (names : List (List ℕ)) (before at total : ℕ) (fs : List FileBytes) (name : List ℕ) (f : FileBytes) → q ≡ o → IfSome o (λ files. StreamsLeft files dir names before at total fs) → drop at names ≡ name ∷ drop (at + 1) names → f.name ≡ name
    → IfSome q (λ files. f.bytes.items ≡ bytes_of files dir name) → StreamFits total (length f.bytes.items) → IfSome o (λ files. StreamsLeft files dir names before (at + 1) (total + length f.bytes.items) (fs ++ f ∷ []))
next_stream None q dir names before at total fs name f e left here named same fits = tt
next_stream (Some files) q dir names before at total fs name f e left here named same fits = next files dir names before at total fs name f left here named (subst (λ o. IfSome o (λ files. f.bytes.items ≡ bytes_of files dir name)) e same) fits

pub no_stream : (o : Option Files) (dir : List ℕ) (names : List (List ℕ)) (before at total : ℕ) (fs : List FileBytes) → IfSome o (λ files. StreamsLeft files dir names before at total fs) → drop at names ≡ [] → IfSome o (λ files. AreStreamsRead files dir before names)
no_stream None dir names before at total fs left none = tt
no_stream (Some files) dir names before at total fs left none = left.reads (subst (AreStreamsRead files dir total) (sym none) tt)

pub all_size : (o : Option Files) (dir : List ℕ) (names : List (List ℕ)) (before at total : ℕ) (fs : List FileBytes) → IfSome o (λ files. StreamsLeft files dir names before at total fs) → drop at names ≡ [] → IfSome o (λ files. total ≡ before + streams_size files dir names)
all_size None dir names before at total fs left none = tt
all_size (Some files) dir names before at total fs left none =
    let all : total + 0 ≡ before + streams_size files dir names = ap (λ l. total + streams_size files dir l) (sym none) ∙ left.size in
    omega (arith, all)

pub all_files : (o : Option Files) (dir : List ℕ) (names : List (List ℕ)) (before at total : ℕ) (fs : List FileBytes) → IfSome o (λ files. StreamsLeft files dir names before at total fs) → drop at names ≡ [] → IfSome o (λ files. AreFiles files dir names fs)
all_files None dir names before at total fs left none = tt
all_files (Some files) dir names before at total fs left none = subst (AreFiles files dir names) (append-nil fs) (left.are [] (subst (λ l. AreFiles files dir l []) (sym none) tt))

pub only_stream : (o : Option Files) (dir : List ℕ) (names : List (List ℕ)) (before at total : ℕ) (fs : List FileBytes) (name : List ℕ) → IfSome o (λ files. StreamsLeft files dir names before at total fs) → drop at names ≡ name ∷ drop (at + 1) names
    → IfSome o (λ files. (r : Refusal) → StreamRefuses total (size_of files dir name) r → StreamsRefuse files dir before names r)
only_stream None dir names before at total fs name left here = tt
only_stream (Some files) dir names before at total fs name left here = λ r h. left.only r (subst (λ l. StreamsRefuse files dir total l r) (sym here) (inl h))

pub all_small : (fs : List FileBytes) (f : FileBytes) → AllByRecursion IsSmall fs → IsSmall f → AllByRecursion IsSmall (fs ++ f ∷ [])
all_small [] f h g = (g, tt)
all_small (x ∷ xs) f h g = (h.0, all_small xs f h.1 g)
