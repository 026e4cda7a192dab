-- The files of folders, and the hosts that they declare.
use Rattle.std.proofs.Common.{◌≡◌, inl, inr, ◌∙◌, ℕ, zero, suc, ◌+◌, ◌≤◌, List, [], ◌∷◌, ◌++◌, length, map, Option, Some, None, refl, sym, ap, ap₂, subst, slice_get, arith}
use Rattle.std.specs.List.{AllByRecursion}
use Rattle.std.specs.Prelude.{IfSome}
use Rattle.ht_outside.specs.Files.{Files, ListsNames}
use Rattle.decode_pool.specs.Limits.{HasSmallFiles}
use Rattle.decode_pool.specs.declared.hosts.HostFiles.{HostFiles}
use Rattle.host_sync.specs.Laws.{FilesAreNumbered}
use Rattle.type_scope.specs.Traces.{trace}
use Rattle.trace_metadata.specs.Files.{IsTrace}
use Rattle.hosttrace.specs.Folders.{FILES_LIMIT, METADATA_LIMIT, HasFewNames, HasMetadata, IsRead, metadata_of}
use Rattle.hosttrace.specs.Read.{AreDeclared, AreFolderFiles, HasSmallStreams, IsDeclared, IsFolderFiles}
use Rattle.hosttrace.specs.Refusals.{HostsRefuse, MetadataRefuses, NamesRefuse, SizeRefuses, StreamsRefuse, TraceRefuses}
use Rattle.hosttrace.specs.Streams.{AreChosen, AreFiles, AreFolders, AreHostsFrom, AreStreamNames, AreStreamsRead, metadata_size, streams_size}
use Rattle.hosttrace.specs.Seen.{FailsOf}
use Rattle.hosttrace.specs.declared.status.Refusal.{Refusal}
use Rattle.hosttrace.specs.declared.status.Status.{Status}
use Rattle.hosttrace.specs.declared.status.Status.TheVariants.{Done, Usage, Refused, ReadFault, WriteFault, NoMemory}
use Rattle.hosttrace.specs.declared.trace_files.FolderFiles.{FolderFiles}

-- ---- one folder

-- what is known of a folder whose names and metadata were read
pub record IsKnown (files : Files) (before : ℕ) (dir : List ℕ) (chosen : List (List ℕ)) (metadata : List ℕ) : Type 0 where
  pub is_read : IsRead files before dir
  pub are_names : AreStreamNames files dir chosen
  pub metadata_is : metadata ≡ metadata_of files dir

pub known : (o : Option Files) (before : ℕ) (dir : List ℕ) (names chosen : List (List ℕ)) (metadata : List ℕ) → IfSome o (λ files. HasFewNames files dir × HasMetadata files dir) → IfSome o (λ files. ListsNames files dir names) → AreChosen names chosen
    → IfSome o (λ files. metadata ≡ metadata_of files dir) → length metadata ≤ METADATA_LIMIT → before + length metadata ≤ FILES_LIMIT → IfSome o (λ files. IsKnown files before dir chosen metadata)
known None before dir names chosen metadata there all are is small fits = tt
known (Some files) before dir names chosen metadata there all are is small fits = record {
  is_read = record { few = there.0; there = there.1; small = subst (λ m. length m ≤ METADATA_LIMIT) is small; all = subst (λ m. before + length m ≤ FILES_LIMIT) is fits };
  are_names = record { names = names; all = all; are_chosen = are };
  metadata_is = is;
}

pub names_refused : (o : Option Files) (host before : ℕ) (dir : List ℕ) → IfSome o (λ files. (r : Refusal) → NamesRefuse files host dir r → TraceRefuses files host before dir r)
names_refused None host before dir = tt
names_refused (Some files) host before dir = λ r h. inl (inl h)

pub size_refused : (o : Option Files) (host before : ℕ) (dir : List ℕ) → IfSome o (λ files. HasFewNames files dir × HasMetadata files dir) → IfSome o (λ files. (r : Refusal) → SizeRefuses before (length (metadata_of files dir)) r → TraceRefuses files host before dir r)
size_refused None host before dir there = tt
size_refused (Some files) host before dir there = λ r h. inl (inr (there, h))

pub streams_refused : (o : Option Files) (host before : ℕ) (dir : List ℕ) (chosen : List (List ℕ)) (metadata : List ℕ) → IfSome o (λ files. IsKnown files before dir chosen metadata)
    → IfSome o (λ files. (r : Refusal) → StreamsRefuse files dir (before + length metadata) chosen r → TraceRefuses files host before dir r)
streams_refused None host before dir chosen metadata h = tt
streams_refused (Some files) host before dir chosen metadata h = λ r g. inr (h.is_read, (chosen, h.are_names, subst (λ m. StreamsRefuse files dir (before + length m) chosen r) h.metadata_is g))

pub folder_files : (o : Option Files) (before after : ℕ) (dir : List ℕ) (chosen : List (List ℕ)) (read : FolderFiles) → IfSome o (λ files. IsKnown files before dir chosen read.metadata) → IfSome o (λ files. AreStreamsRead files dir (before + length read.metadata) chosen)
    → IfSome o (λ files. AreFiles files dir chosen read.streams.items) → IfSome o (λ files. after ≡ before + length read.metadata + streams_size files dir chosen) → IfSome o (λ files. IsFolderFiles files before after dir read)
folder_files None before after dir chosen read h all are size = tt
folder_files (Some files) before after dir chosen read h all are size = record {
  names = chosen;
  is_folder = record { is_read = h.is_read; are_names = h.are_names; are_read = subst (λ m. AreStreamsRead files dir (before + length m) chosen) h.metadata_is all };
  metadata_is = h.metadata_is;
  streams_are = are;
  after_is =
      let m : length read.metadata ≡ metadata_size files dir = ap length h.metadata_is in
      omega (arith, size, m);
}

-- ---- hosts

pub declared_more : (place : ℕ) (read : List FolderFiles) (hosts : List HostFiles) (one : FolderFiles) (host : HostFiles) → AreDeclared place read hosts → IsDeclared (place + length read) one host → AreDeclared place (read ++ one ∷ []) (hosts ++ host ∷ [])
declared_more place [] [] one host are is = let here : place + 0 ≡ place = omega arith in (subst (λ n. IsDeclared n one host) here is, tt)
declared_more place [] (h ∷ hosts) one host are is = absurd are
declared_more place (r ∷ read) [] one host are is = absurd are
declared_more place (r ∷ read) (h ∷ hosts) one host are is =
    let next : place + suc (length read) ≡ place + 1 + length read = omega arith in
    (are.0, declared_more (place + 1) read hosts one host are.1 (subst (λ n. IsDeclared n one host) next is))

pub as_many : (place : ℕ) (read : List FolderFiles) (hosts : List HostFiles) → AreDeclared place read hosts → length hosts ≡ length read
as_many place [] [] are = refl
as_many place [] (h ∷ hosts) are = absurd are
as_many place (r ∷ read) [] are = absurd are
as_many place (r ∷ read) (h ∷ hosts) are = ap suc (as_many (place + 1) read hosts are.1)

-- the metadata of the next host is refused
pub next_refused : (place : ℕ) (read : List FolderFiles) (hosts : List HostFiles) (one : FolderFiles) (rest : List FolderFiles) (r : Refusal) → AreDeclared place read hosts → MetadataRefuses (place + length read) one.metadata r
    → HostsRefuse place (map (λ (x : FolderFiles). x.metadata) (read ++ one ∷ rest)) r
next_refused place [] [] one rest r are bad = let here : place + 0 ≡ place = omega arith in inl (subst (λ n. MetadataRefuses n one.metadata r) here bad)
next_refused place [] (h ∷ hosts) one rest r are bad = absurd are
next_refused place (x ∷ read) [] one rest r are bad = absurd are
next_refused place (x ∷ read) (h ∷ hosts) one rest r are bad =
    let next : place + suc (length read) ≡ place + 1 + length read = omega arith in
    inr ((trace h.meta, are.0.declares), next_refused (place + 1) read hosts one rest r are.1 (subst (λ n. MetadataRefuses n one.metadata r) next bad))

numbered_from : (place : ℕ) (read : List FolderFiles) (hosts : List HostFiles) → AreDeclared place read hosts → (k : ℕ) (host : HostFiles) → slice_get hosts k ≡ Some host → host.host ≡ place + k
numbered_from place [] [] are k host at = absurd (cc)
numbered_from place [] (h ∷ hosts) are k host at = absurd are
numbered_from place (r ∷ read) [] are k host at = absurd are
numbered_from place (r ∷ read) (h ∷ hosts) are zero host at = let same : h ≡ host = cc in let n = ap (λ (x : HostFiles). x.host) (sym same) ∙ are.0.number in omega (arith, n)
numbered_from place (r ∷ read) (h ∷ hosts) are (suc k) host at = let next = numbered_from (place + 1) read hosts are.1 k host at in omega (arith, next)

pub numbered : (read : List FolderFiles) (hosts : List HostFiles) → AreDeclared 0 read hosts → FilesAreNumbered hosts
numbered read hosts are k host at = let n = numbered_from 0 read hosts are k host at in omega (arith, n)

-- ---- the hosts of folders

hosts_from : (files : Files) (place before : ℕ) (dirs : List (List ℕ)) (read : List FolderFiles) (hosts : List HostFiles) → AreFolderFiles files before dirs read → AreDeclared place read hosts → AreHostsFrom files place before dirs hosts
hosts_from files place before [] [] [] fs ds = tt
hosts_from files place before [] [] (h ∷ hosts) fs ds = absurd ds
hosts_from files place before [] (r ∷ read) hosts fs ds = absurd fs
hosts_from files place before (dir ∷ dirs) [] hosts fs ds = absurd fs
hosts_from files place before (dir ∷ dirs) (r ∷ read) [] fs ds = absurd ds
hosts_from files place before (dir ∷ dirs) (r ∷ read) (h ∷ hosts) (after, f, fs) (d, ds) = (
  record {
    number = d.number;
    names = f.names;
    is_folder = f.is_folder;
    are_files = subst (AreFiles files dir f.names) (sym d.files_are) f.streams_are;
    declares = subst (λ m. IsTrace m (trace h.meta)) f.metadata_is d.declares;
    sound = d.sound;
  },
  subst (λ n. AreHostsFrom files (place + 1) n dirs hosts) f.after_is (hosts_from files (place + 1) after dirs read hosts fs ds),
)

pub hosts_of : (o : Option Files) (dirs : List (List ℕ)) (read : List FolderFiles) (hosts : List HostFiles) → IfSome o (λ files. AreFolderFiles files 0 dirs read) → AreDeclared 0 read hosts → IfSome o (λ files. AreHostsFrom files 0 0 dirs hosts)
hosts_of None dirs read hosts fs ds = tt
hosts_of (Some files) dirs read hosts fs ds = hosts_from files 0 0 dirs read hosts fs ds

pub are_folders : (files : Files) (before : ℕ) (dirs : List (List ℕ)) (read : List FolderFiles) → AreFolderFiles files before dirs read → AreFolders files before dirs
are_folders files before [] [] fs = tt
are_folders files before [] (r ∷ read) fs = absurd fs
are_folders files before (dir ∷ dirs) [] fs = absurd fs
are_folders files before (dir ∷ dirs) (r ∷ read) (after, f, fs) = (f.names, f.is_folder, subst (λ n. AreFolders files n dirs) f.after_is (are_folders files after dirs read fs))

pub metadata_are : (files : Files) (before : ℕ) (dirs : List (List ℕ)) (read : List FolderFiles) → AreFolderFiles files before dirs read → map (λ (x : FolderFiles). x.metadata) read ≡ map (metadata_of files) dirs
metadata_are files before [] [] fs = refl
metadata_are files before [] (r ∷ read) fs = absurd fs
metadata_are files before (dir ∷ dirs) [] fs = absurd fs
metadata_are files before (dir ∷ dirs) (r ∷ read) (after, f, fs) = ap₂ (λ x xs. x ∷ xs) f.metadata_is (metadata_are files after dirs read fs)

pub small_more : (hosts : List HostFiles) (host : HostFiles) → AllByRecursion HasSmallFiles hosts → HasSmallFiles host → AllByRecursion HasSmallFiles (hosts ++ host ∷ [])
small_more [] host all is = (is, tt)
small_more (h ∷ hosts) host all is = (all.0, small_more hosts host all.1 is)

pub small_streams_more : (read : List FolderFiles) (one : FolderFiles) → AllByRecursion HasSmallStreams read → HasSmallStreams one → AllByRecursion HasSmallStreams (read ++ one ∷ [])
small_streams_more [] one all is = (is, tt)
small_streams_more (r ∷ read) one all is = (all.0, small_streams_more read one all.1 is)

-- of the streams of what is left
pub small_next : (read : List FolderFiles) (one : FolderFiles) (rest : List FolderFiles) → AllByRecursion HasSmallStreams (read ++ one ∷ rest) → HasSmallStreams one
small_next [] one rest all = all.0
small_next (r ∷ read) one rest all = small_next read one rest all.1

-- why the next host has no trace
pub metadata_fails : (read : List FolderFiles) (hosts : List HostFiles) (one : FolderFiles) (rest whole : List FolderFiles) (status : Status) → read ++ one ∷ rest ≡ whole → AreDeclared 0 read hosts → FailsOf (MetadataRefuses (length read) one.metadata) status
    → FailsOf (HostsRefuse 0 (map (λ (x : FolderFiles). x.metadata) whole)) status
metadata_fails read hosts one rest whole (Refused r) same are h =
    let here : length read ≡ 0 + length read = omega arith in
    subst (λ l. HostsRefuse 0 (map (λ (x : FolderFiles). x.metadata) l) r) same (next_refused 0 read hosts one rest r are (subst (λ n. MetadataRefuses n one.metadata r) here h))
metadata_fails read hosts one rest whole NoMemory same are h = h
metadata_fails read hosts one rest whole Done same are h = h
metadata_fails read hosts one rest whole Usage same are h = h
metadata_fails read hosts one rest whole ReadFault same are h = h
metadata_fails read hosts one rest whole WriteFault same are h = h
