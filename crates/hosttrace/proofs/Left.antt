-- What is left of folders and of hosts, after those that were read.
use Rattle.std.proofs.Common.{◌≡◌, inl, inr, ◌∙◌, ℕ, suc, ◌+◌, List, [], ◌∷◌, ◌++◌, length, map, drop, Option, Some, None, refl, sym, ap, subst, append_assoc, append-nil}
use Rattle.std.specs.Prelude.{IfSome}
use Rattle.ht_outside.specs.Files.{Files}
use Rattle.type_scope.specs.Traces.{Trace, trace}
use Rattle.type_table.specs.TraceMetas.{TraceMetaModel}
use Rattle.trace_metadata.specs.Files.{IsTrace}
use Rattle.hosttrace.specs.Folders.{AreRead, IsRead, metadata_of}
use Rattle.hosttrace.specs.Hosts.{AreTraces}
use Rattle.hosttrace.specs.Read.{AreFolderFiles, IsFolderFiles}
use Rattle.hosttrace.specs.Refusals.{FolderRefuses, FoldersRefuse, HostsRefuse, MetadataRefuses, TraceRefuses, TracesRefuse}
use Rattle.hosttrace.specs.declared.status.Refusal.{Refusal}
use Rattle.hosttrace.specs.declared.trace_files.FolderFiles.{FolderFiles}

-- ---- hosts

pub record HostsLeft (files : List (List ℕ)) (at : ℕ) (ts : List Trace) : Type 0 where
  pub goes_on : (more : List Trace) → AreTraces (drop at files) more → AreTraces files (ts ++ more)
  pub only : (r : Refusal) → HostsRefuse at (drop at files) r → HostsRefuse 0 files r

pub all_hosts : (files : List (List ℕ)) → HostsLeft files 0 []
all_hosts files = record { goes_on = λ more h. h; only = λ r h. h }

pub next_host : (files : List (List ℕ)) (at : ℕ) (ts : List Trace) (bytes : List ℕ) (t : Trace) → HostsLeft files at ts → drop at files ≡ bytes ∷ drop (at + 1) files → IsTrace bytes t → HostsLeft files (at + 1) (ts ++ t ∷ [])
next_host files at ts bytes t left here is = record {
  goes_on = λ more h. subst (AreTraces files) (sym (append_assoc ts (t ∷ []) more)) (left.goes_on (t ∷ more) (subst (λ l. AreTraces l (t ∷ more)) (sym here) (is, h)));
  only = λ r h. left.only r (subst (λ l. HostsRefuse at l r) (sym here) (inr ((t, is), h)));
}

pub no_host : (files : List (List ℕ)) (at : ℕ) (ts : List Trace) → HostsLeft files at ts → drop at files ≡ [] → AreTraces files ts
no_host files at ts left none = subst (AreTraces files) (append-nil ts) (left.goes_on [] (subst (λ l. AreTraces l []) (sym none) tt))

pub bad_host : (files : List (List ℕ)) (at : ℕ) (ts : List Trace) (bytes : List ℕ) (r : Refusal) → HostsLeft files at ts → drop at files ≡ bytes ∷ drop (at + 1) files → MetadataRefuses at bytes r → HostsRefuse 0 files r
bad_host files at ts bytes r left here bad = left.only r (subst (λ l. HostsRefuse at l r) (sym here) (inl bad))

-- as many as there are files
pub as_many_metas : (files : List (List ℕ)) (metas : List TraceMetaModel) → AreTraces files (map trace metas) → length metas ≡ length files
as_many_metas [] [] are = refl
as_many_metas [] (m ∷ metas) are = absurd are
as_many_metas (bytes ∷ files) [] are = absurd are
as_many_metas (bytes ∷ files) (m ∷ metas) are = ap suc (as_many_metas files metas are.1)

-- ---- the metadata of folders

pub record FoldersLeft (files : Files) (dirs : List (List ℕ)) (at total : ℕ) (texts : List (List ℕ)) : Type 0 where
  pub reads : AreRead files total (drop at dirs) → AreRead files 0 dirs
  pub only : (r : Refusal) → FoldersRefuse files at total (drop at dirs) r → FoldersRefuse files 0 0 dirs r
  pub texts_are : map (metadata_of files) dirs ≡ texts ++ map (metadata_of files) (drop at dirs)

pub all_folders : (o : Option Files) (dirs : List (List ℕ)) → IfSome o (λ files. FoldersLeft files dirs 0 0 [])
all_folders None dirs = tt
all_folders (Some files) dirs = record { reads = λ h. h; only = λ r h. h; texts_are = refl }

next : (files : Files) (dirs : List (List ℕ)) (at total : ℕ) (texts : List (List ℕ)) (dir bytes : List ℕ) → FoldersLeft files dirs at total texts → drop at dirs ≡ dir ∷ drop (at + 1) dirs → IsRead files total dir → bytes ≡ metadata_of files dir
    → FoldersLeft files dirs (at + 1) (total + length bytes) (texts ++ bytes ∷ [])
next files dirs at total texts dir bytes left here is same =
    let size : total + length (metadata_of files dir) ≡ total + length bytes = ap (λ b. total + length b) (sym same) in
    record {
      reads = λ h. left.reads (subst (AreRead files total) (sym here) (is, subst (λ n. AreRead files n (drop (at + 1) dirs)) (sym size) h));
      only = λ r h. left.only r (subst (λ l. FoldersRefuse files at total l r) (sym here) (inr (is, subst (λ n. FoldersRefuse files (at + 1) n (drop (at + 1) dirs) r) (sym size) h)));
      texts_are =
          left.texts_are ∙ (ap (λ l. texts ++ map (metadata_of files) l) here ∙ (ap (λ b. texts ++ b ∷ map (metadata_of files) (drop (at + 1) dirs)) (sym same) ∙ sym (append_assoc texts (bytes ∷ []) (map (metadata_of files) (drop (at + 1) dirs)))));
    }

pub next_folder : (o q : Option Files) (dirs : List (List ℕ)) (at total : ℕ) (texts : List (List ℕ)) (dir bytes : List ℕ) → q ≡ o → IfSome o (λ files. FoldersLeft files dirs at total texts) → drop at dirs ≡ dir ∷ drop (at + 1) dirs
    → IfSome q (λ files. IsRead files total dir) → IfSome q (λ files. bytes ≡ metadata_of files dir) → IfSome o (λ files. FoldersLeft files dirs (at + 1) (total + length bytes) (texts ++ bytes ∷ []))
next_folder None q dirs at total texts dir bytes e left here is same = tt
next_folder (Some files) q dirs at total texts dir bytes e left here is same =
    next files dirs at total texts dir bytes left here (subst (λ o. IfSome o (λ files. IsRead files total dir)) e is) (subst (λ o. IfSome o (λ files. bytes ≡ metadata_of files dir)) e same)

pub no_folder : (o : Option Files) (dirs : List (List ℕ)) (at total : ℕ) (texts : List (List ℕ)) → IfSome o (λ files. FoldersLeft files dirs at total texts) → drop at dirs ≡ [] → IfSome o (λ files. AreRead files 0 dirs)
no_folder None dirs at total texts left none = tt
no_folder (Some files) dirs at total texts left none = left.reads (subst (AreRead files total) (sym none) tt)

pub all_texts : (o : Option Files) (dirs : List (List ℕ)) (at total : ℕ) (texts : List (List ℕ)) → IfSome o (λ files. FoldersLeft files dirs at total texts) → drop at dirs ≡ [] → IfSome o (λ files. texts ≡ map (metadata_of files) dirs)
all_texts None dirs at total texts left none = tt
all_texts (Some files) dirs at total texts left none = sym (left.texts_are ∙ (ap (λ l. texts ++ map (metadata_of files) l) none ∙ append-nil texts))

pub only_folder : (o : Option Files) (dirs : List (List ℕ)) (at total : ℕ) (texts : List (List ℕ)) (dir : List ℕ) → IfSome o (λ files. FoldersLeft files dirs at total texts) → drop at dirs ≡ dir ∷ drop (at + 1) dirs
    → IfSome o (λ files. (r : Refusal) → FolderRefuses files at total dir r → FoldersRefuse files 0 0 dirs r)
only_folder None dirs at total texts dir left here = tt
only_folder (Some files) dirs at total texts dir left here = λ r h. left.only r (subst (λ l. FoldersRefuse files at total l r) (sym here) (inl h))

-- ---- folders that are read whole

pub record TracesLeft (files : Files) (dirs : List (List ℕ)) (at total : ℕ) (read : List FolderFiles) : Type 0 where
  pub goes_on : (more : List FolderFiles) → AreFolderFiles files total (drop at dirs) more → AreFolderFiles files 0 dirs (read ++ more)
  pub only : (r : Refusal) → TracesRefuse files at total (drop at dirs) r → TracesRefuse files 0 0 dirs r

pub all_traces : (o : Option Files) (dirs : List (List ℕ)) → IfSome o (λ files. TracesLeft files dirs 0 0 [])
all_traces None dirs = tt
all_traces (Some files) dirs = record { goes_on = λ more h. h; only = λ r h. h }

next_read : (files : Files) (dirs : List (List ℕ)) (at total after : ℕ) (read : List FolderFiles) (dir : List ℕ) (one : FolderFiles) → TracesLeft files dirs at total read → drop at dirs ≡ dir ∷ drop (at + 1) dirs → IsFolderFiles files total after dir one
    → TracesLeft files dirs (at + 1) after (read ++ one ∷ [])
next_read files dirs at total after read dir one left here is = record {
  goes_on = λ more h. subst (AreFolderFiles files 0 dirs) (sym (append_assoc read (one ∷ []) more)) (left.goes_on (one ∷ more) (subst (λ l. AreFolderFiles files total l (one ∷ more)) (sym here) (after, is, h)));
  only = λ r h. left.only r (subst (λ l. TracesRefuse files at total l r) (sym here) (inr (is.names, is.is_folder, subst (λ n. TracesRefuse files (at + 1) n (drop (at + 1) dirs) r) is.after_is h)));
}

pub next_trace : (o q : Option Files) (dirs : List (List ℕ)) (at total after : ℕ) (read : List FolderFiles) (dir : List ℕ) (one : FolderFiles) → q ≡ o → IfSome o (λ files. TracesLeft files dirs at total read) → drop at dirs ≡ dir ∷ drop (at + 1) dirs → IfSome q (λ files. IsFolderFiles files total after dir one)
    → IfSome o (λ files. TracesLeft files dirs (at + 1) after (read ++ one ∷ []))
next_trace None q dirs at total after read dir one e left here is = tt
next_trace (Some files) q dirs at total after read dir one e left here is = next_read files dirs at total after read dir one left here (subst (λ o. IfSome o (λ files. IsFolderFiles files total after dir one)) e is)

pub no_trace : (o : Option Files) (dirs : List (List ℕ)) (at total : ℕ) (read : List FolderFiles) → IfSome o (λ files. TracesLeft files dirs at total read) → drop at dirs ≡ [] → IfSome o (λ files. AreFolderFiles files 0 dirs read)
no_trace None dirs at total read left none = tt
no_trace (Some files) dirs at total read left none = subst (AreFolderFiles files 0 dirs) (append-nil read) (left.goes_on [] (subst (λ l. AreFolderFiles files total l []) (sym none) tt))

pub only_trace : (o : Option Files) (dirs : List (List ℕ)) (at total : ℕ) (read : List FolderFiles) (dir : List ℕ) → IfSome o (λ files. TracesLeft files dirs at total read) → drop at dirs ≡ dir ∷ drop (at + 1) dirs
    → IfSome o (λ files. (r : Refusal) → TraceRefuses files at total dir r → TracesRefuse files 0 0 dirs r)
only_trace None dirs at total read dir left here = tt
only_trace (Some files) dirs at total read dir left here = λ r h. left.only r (subst (λ l. TracesRefuse files at total l r) (sym here) (inl h))
