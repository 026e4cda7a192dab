-- Folders whose metadata was read side by side, and the hosts that they declare.
use Rattle.std.proofs.Common.{◌≡◌, ◌∙◌, ℕ, ◌+◌, List, [], ◌∷◌, ◌++◌, length, map, refl, sym, ap, ap₂, subst, arith}
use Rattle.std.proofs.lemmas.List.{length-map, map-append}
use Rattle.std.specs.List.{AllByRecursion, AllZip}
use Rattle.decode_pool.specs.Limits.{HasSmallFiles}
use Rattle.decode_pool.specs.declared.hosts.HostFiles.{HostFiles}
use Rattle.hosttrace.specs.Read.{AreDeclared, HasSmallStreams, IsDeclared}
use Rattle.hosttrace.specs.DeclaredFolders.{HasReadMetadata}
use Rattle.hosttrace.specs.Refusals.{HostsRefuse, MetadataRefuses}
use Rattle.hosttrace.specs.Seen.{FailsOf}
use Rattle.hosttrace.specs.declared.declared.DeclaredFolder.{DeclaredFolder}
use Rattle.hosttrace.specs.declared.status.Status.{Status}
use Rattle.hosttrace.specs.declared.trace_files.FolderFiles.{FolderFiles}
use Rattle.hosttrace.proofs.TraceFiles.{declared_more, metadata_fails}

abbrev pub folder_of : DeclaredFolder → FolderFiles
folder_of f = f.folder

-- each call gave its folder back
pub same_folders : (read : List FolderFiles) (folders : List DeclaredFolder) → AllZip (λ folder f. (f.folder ≡ folder) × HasReadMetadata f) read folders → map folder_of folders ≡ read
same_folders [] [] h = refl
same_folders [] (f ∷ fs) h = absurd h
same_folders (r ∷ rs) [] h = absurd h
same_folders (r ∷ rs) (f ∷ fs) h = ap₂ (λ x xs. x ∷ xs) h.0.0 (same_folders rs fs h.1)

pub all_read : (read : List FolderFiles) (folders : List DeclaredFolder) → AllZip (λ folder f. (f.folder ≡ folder) × HasReadMetadata f) read folders → AllByRecursion HasReadMetadata folders
all_read [] [] h = tt
all_read [] (f ∷ fs) h = absurd h
all_read (r ∷ rs) [] h = absurd h
all_read (r ∷ rs) (f ∷ fs) h = (h.0.1, all_read rs fs h.1)

pub small_declared : (place : ℕ) (read : List FolderFiles) (hosts : List HostFiles) → AreDeclared place read hosts → AllByRecursion HasSmallStreams read → AllByRecursion HasSmallFiles hosts
small_declared place [] [] are small = tt
small_declared place [] (h ∷ hosts) are small = absurd are
small_declared place (r ∷ read) [] are small = absurd are
small_declared place (r ∷ read) (h ∷ hosts) are small = (subst (AllByRecursion _) (sym are.0.files_are) small.0, small_declared (place + 1) read hosts are.1 small.1)

-- one host more is declared
pub next_declared : (folders : List DeclaredFolder) (hosts : List HostFiles) (one : DeclaredFolder) (host : HostFiles) (place : ℕ) → place ≡ length folders → AreDeclared 0 (map folder_of folders) hosts → IsDeclared place one.folder host
    → AreDeclared 0 (map folder_of (folders ++ one ∷ [])) (hosts ++ host ∷ [])
next_declared folders hosts one host place here are is =
    let long = length-map folders folder_of in
    let at : place ≡ 0 + length (map folder_of folders) = omega (arith, here, long) in
    subst (λ l. AreDeclared 0 l (hosts ++ host ∷ [])) (sym (map-append folder_of folders (one ∷ []))) (declared_more 0 (map folder_of folders) hosts one.folder host are (subst (λ n. IsDeclared n one.folder host) at is))

-- why the next folder declares no host
pub folder_fails : (folders : List DeclaredFolder) (hosts : List HostFiles) (one : DeclaredFolder) (rest whole : List DeclaredFolder) (status : Status) (place : ℕ) → folders ++ one ∷ rest ≡ whole → place ≡ length folders → AreDeclared 0 (map folder_of folders) hosts
    → FailsOf (MetadataRefuses place one.folder.metadata) status → FailsOf (HostsRefuse 0 (map (λ (x : FolderFiles). x.metadata) (map folder_of whole))) status
folder_fails folders hosts one rest whole status place same here are h =
    let at : place ≡ length (map folder_of folders) = here ∙ sym (length-map folders folder_of) in
    metadata_fails (map folder_of folders) hosts one.folder (map folder_of rest) (map folder_of whole) status (sym (map-append folder_of folders (one ∷ rest)) ∙ ap (map folder_of) same) are (subst (λ n. FailsOf (MetadataRefuses n one.folder.metadata) status) at h)
