-- The folders of traces, each of one host, and the reading of their metadata (this project's own limits).
use Rattle.std.specs.Prelude.{ℕ, ◌+◌, ◌<◌, ◌≤◌, ◌==◌, Bool, true, not, List, [], ◌∷◌, length, count_by, codes, IsSome}
pub use Rattle.trace_types.specs.declared.limits.TheConstants.{MAX_HOSTS}
use Rattle.ht_outside.specs.Files.{Files, ListsNames, bytes_of}

-- how many names may be in a folder, how many bytes the metadata of one may have, and how many all of them together

abbrev pub NAME_LIMIT : ℕ
NAME_LIMIT = 4096

abbrev pub METADATA_LIMIT : ℕ
METADATA_LIMIT = 16777216

abbrev pub FILES_LIMIT : ℕ
FILES_LIMIT = 536870912

-- the name doesn't begin with a dot
abbrev pub is_shown : List ℕ → Bool
is_shown [] = true
is_shown (b ∷ bs) = not (b == 46)

-- the bytes of a folder's metadata
abbrev pub metadata_of : Files → List ℕ → List ℕ
metadata_of files dir = bytes_of files dir (codes "metadata")

-- a folder has more names than it may, or not
abbrev pub HasManyNames : Files → List ℕ → Type 0
HasManyNames files dir = (names : List (List ℕ)) × ListsNames files dir names × (NAME_LIMIT < count_by is_shown names)

abbrev pub HasFewNames : Files → List ℕ → Type 0
HasFewNames files dir = (names : List (List ℕ)) × ListsNames files dir names × (count_by is_shown names ≤ NAME_LIMIT)

-- a folder has metadata
abbrev pub HasMetadata : Files → List ℕ → Type 0
HasMetadata files dir = IsSome (files dir (codes "metadata"))

-- the metadata of a folder is read, when so many bytes of others were read before
pub record IsRead (files : Files) (before : ℕ) (dir : List ℕ) : Type 0 where
  pub few : HasFewNames files dir
  pub there : HasMetadata files dir
  pub small : length (metadata_of files dir) ≤ METADATA_LIMIT
  pub all : before + length (metadata_of files dir) ≤ FILES_LIMIT

-- the metadata of folders is read, one after the other
abbrev pub AreRead : Files → ℕ → List (List ℕ) → Type 0
AreRead files before [] = Unit {0}
AreRead files before (dir ∷ dirs) = IsRead files before dir × AreRead files (before + length (metadata_of files dir)) dirs
