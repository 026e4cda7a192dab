-- What was read of folders, and the hosts that it declares (this project's own).
use Rattle.std.specs.Prelude.{◌≡◌, ℕ, ◌+◌, List, [], ◌∷◌}
use Rattle.std.specs.List.{AllByRecursion}
use Rattle.ht_outside.specs.Files.{Files}
use Rattle.type_scope.specs.Traces.{trace}
use Rattle.type_table.specs.TraceMetas.{IsSoundMeta}
use Rattle.trace_metadata.specs.Files.{IsTrace}
use Rattle.decode_pool.specs.Hosts.{IsSmall}
use Rattle.decode_pool.specs.declared.hosts.HostFiles.{HostFiles}
use Rattle.hosttrace.specs.Folders.{metadata_of}
use Rattle.hosttrace.specs.Streams.{AreFiles, IsFolder, folder_size}
use Rattle.hosttrace.specs.declared.trace_files.FolderFiles.{FolderFiles}

-- the files of a folder were read, and with them so many bytes where so many of others were read before
pub record IsFolderFiles (files : Files) (before after : ℕ) (dir : List ℕ) (read : FolderFiles) : Type 0 where
  pub names : List (List ℕ)
  pub is_folder : IsFolder files before dir names
  pub metadata_is : read.metadata ≡ metadata_of files dir
  pub streams_are : AreFiles files dir names read.streams.items
  pub after_is : after ≡ before + folder_size files dir names

-- the files of folders were read, one folder after the other
abbrev pub AreFolderFiles : Files → ℕ → List (List ℕ) → List FolderFiles → Type 0
AreFolderFiles files before [] [] = Unit {0}
AreFolderFiles files before (dir ∷ dirs) (read ∷ more) = (after : ℕ) × IsFolderFiles files before after dir read × AreFolderFiles files after dirs more
AreFolderFiles files before _ _ = ⊥

-- no stream file is larger than can be decoded
abbrev pub HasSmallStreams : FolderFiles → Type 0
HasSmallStreams read = AllByRecursion IsSmall read.streams.items

-- the host of this number, by the files of its folder
pub record IsDeclared (place : ℕ) (read : FolderFiles) (host : HostFiles) : Type 0 where
  pub number : host.host ≡ place
  pub files_are : host.files.items ≡ read.streams.items
  pub declares : IsTrace read.metadata (trace host.meta)
  pub sound : IsSoundMeta host.meta

-- the hosts of folders, of which the first has this number
abbrev pub AreDeclared : ℕ → List FolderFiles → List HostFiles → Type 0
AreDeclared place [] [] = Unit {0}
AreDeclared place (read ∷ more) (host ∷ hosts) = IsDeclared place read host × AreDeclared (place + 1) more hosts
AreDeclared place _ _ = ⊥
