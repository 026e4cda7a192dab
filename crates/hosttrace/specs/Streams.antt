-- The stream files of traces' folders, and the hosts that folders have (this project's own limits).
use Rattle.std.specs.Prelude.{◌≡◌, ℕ, ◌+◌, ◌≤◌, ◌&&◌, Bool, false, not, List, [], ◌∷◌, length, filter, nat_eq, codes, IsPermutation}
use Rattle.std.specs.List.{AllPairs}
use Rattle.std.specs.Cmp.Lexicographic.{pointwise, slice_cmp}
use Rattle.std.specs.Ordering.{is_lt, nat_cmp}
use Rattle.type_scope.specs.Traces.{trace}
use Rattle.type_table.specs.TraceMetas.{IsSoundMeta}
use Rattle.trace_metadata.specs.Files.{IsTrace}
use Rattle.ht_outside.specs.Files.{Files, ListsNames, bytes_of}
use Rattle.decode_pool.specs.declared.files.FileBytes.{FileBytes}
use Rattle.decode_pool.specs.declared.hosts.HostFiles.{HostFiles}
use Rattle.hosttrace.specs.Folders.{FILES_LIMIT, IsRead, is_shown, metadata_of}
use Rattle.hosttrace.specs.Inputs.{LIST_LIMIT}

-- every file is a stream file whose name doesn't begin with a dot and isn't that of the metadata
abbrev pub is_stream_name : List ℕ → Bool
is_stream_name name = is_shown name && not (pointwise nat_eq name (codes "metadata"))

-- the second name isn't less than the first, by bytes
abbrev pub IsNameNotAfter : List ℕ → List ℕ → Type 0
IsNameNotAfter a b = is_lt (slice_cmp nat_cmp b a) ≡ false

-- those of these names that stream files have, in the order of their bytes
pub record AreChosen (names chosen : List (List ℕ)) : Type 0 where
  pub permutation : IsPermutation (filter is_stream_name names) chosen
  pub order : AllPairs IsNameNotAfter chosen

-- the names of a folder's stream files, each once, in the order of their bytes
pub record AreStreamNames (files : Files) (dir : List ℕ) (chosen : List (List ℕ)) : Type 0 where
  pub names : List (List ℕ)
  pub all : ListsNames files dir names
  pub are_chosen : AreChosen names chosen

-- the files of these names with their bytes
abbrev pub AreFiles : Files → List ℕ → List (List ℕ) → List FileBytes → Type 0
AreFiles files dir [] [] = Unit {0}
AreFiles files dir (name ∷ names) (f ∷ fs) = ((f.name ≡ name) × (f.bytes.items ≡ bytes_of files dir name)) × AreFiles files dir names fs
AreFiles files dir _ _ = ⊥

-- a file of so many bytes is within the limits, when so many of others were read before
abbrev pub StreamFits : ℕ → ℕ → Type 0
StreamFits before size = (size ≤ LIST_LIMIT) × (before + size ≤ FILES_LIMIT)

abbrev pub size_of : Files → List ℕ → List ℕ → ℕ
size_of files dir name = length (bytes_of files dir name)

-- files are read one after the other
abbrev pub AreStreamsRead : Files → List ℕ → ℕ → List (List ℕ) → Type 0
AreStreamsRead files dir before [] = Unit {0}
AreStreamsRead files dir before (name ∷ names) = StreamFits before (size_of files dir name) × AreStreamsRead files dir (before + size_of files dir name) names

abbrev pub metadata_size : Files → List ℕ → ℕ
metadata_size files dir = length (metadata_of files dir)

-- how many bytes the files of these names have together
abbrev pub streams_size : Files → List ℕ → List (List ℕ) → ℕ
streams_size files dir [] = 0
streams_size files dir (name ∷ names) = size_of files dir name + streams_size files dir names

-- the bytes of a folder's metadata and of its stream files
abbrev pub folder_size : Files → List ℕ → List (List ℕ) → ℕ
folder_size files dir names = metadata_size files dir + streams_size files dir names

-- a folder is read, its metadata and then its stream files, which have these names, when so many bytes of others were read before
pub record IsFolder (files : Files) (before : ℕ) (dir : List ℕ) (names : List (List ℕ)) : Type 0 where
  pub is_read : IsRead files before dir
  pub are_names : AreStreamNames files dir names
  pub are_read : AreStreamsRead files dir (before + metadata_size files dir) names

-- folders are read one after the other
abbrev pub AreFolders : Files → ℕ → List (List ℕ) → Type 0
AreFolders files before [] = Unit {0}
AreFolders files before (dir ∷ dirs) = (names : List (List ℕ)) × IsFolder files before dir names × AreFolders files (before + folder_size files dir names) dirs

-- the host of this number, of a folder: what its metadata declares, and all of its stream files
pub record IsHostOf (files : Files) (place before : ℕ) (dir : List ℕ) (host : HostFiles) : Type 0 where
  pub number : host.host ≡ place
  pub names : List (List ℕ)
  pub is_folder : IsFolder files before dir names
  pub are_files : AreFiles files dir names host.files.items
  pub declares : IsTrace (metadata_of files dir) (trace host.meta)
  pub sound : IsSoundMeta host.meta

-- for each folder its host, of which the first has this number
abbrev pub AreHostsFrom : Files → ℕ → ℕ → List (List ℕ) → List HostFiles → Type 0
AreHostsFrom files place before [] [] = Unit {0}
AreHostsFrom files place before (dir ∷ dirs) (host ∷ hosts) = (is : IsHostOf files place before dir host) × AreHostsFrom files (place + 1) (before + folder_size files dir is.names) dirs hosts
AreHostsFrom files place before _ _ = ⊥

-- the hosts of folders, numbered by their folders' places
abbrev pub AreHostsOf : Files → List (List ℕ) → List HostFiles → Type 0
AreHostsOf files dirs hosts = AreHostsFrom files 0 0 dirs hosts
