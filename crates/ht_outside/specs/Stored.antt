-- What a store in memory holds.
use Rattle.std.specs.Prelude.{◌≡◌, ℕ, Bool, ◌&&◌, List, [], ◌∷◌, Some, None, if◌then◌else◌}
use Rattle.trace_types.specs.Texts.{same_bytes}
use Rattle.ht_outside.specs.Files.{Files}
use Rattle.ht_outside.specs.declared.memory_store.StoredFile.{StoredFile}
use Rattle.ht_outside.specs.declared.memory_store.MemoryStore.{MemoryStore}

-- the file has this folder and name
abbrev pub is_at : List ℕ → List ℕ → StoredFile → Bool
is_at dir name file = same_bytes file.dir dir && same_bytes file.name name

-- the files of a store: of two at one place, the earlier
abbrev pub files_in : List StoredFile → Files
files_in [] dir name = None
files_in (f ∷ fs) dir name = if is_at dir name f then Some f.bytes else files_in fs dir name

abbrev pub files_of : MemoryStore → Files
files_of store = files_in store.files.items

-- one file has these bytes now, and every other stays
abbrev pub Puts : Files → List ℕ → List ℕ → List ℕ → Files → Type 0
Puts old dir name bytes new = (d n : List ℕ) → new d n ≡ (if same_bytes dir d && same_bytes name n then Some bytes else old d n)
