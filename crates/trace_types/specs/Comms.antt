-- The names of threads, and the words that spell one (this project's own format).
use Rattle.std.specs.Prelude.{◌≡◌, ℕ, ◌<◌, ◌≤◌, List, length, flat_map}
use Rattle.std.specs.List.{AllByRecursion}
use Rattle.trace_types.specs.ByteTexts.{spelled, byte_text}

-- at most 15 bytes, and none of them zero (TASK_COMM_LEN of the kernel)
pub record IsName (name : List ℕ) : Type 0 where
  pub short : length name ≤ 15
  pub bytes : AllByRecursion (λ b. b < 256) name
  pub no_zero : AllByRecursion (λ b. 0 < b) name

-- the text spells this name as a word
pub record IsComm (text name : List ℕ) : Type 0 where
  pub spelling : text ≡ byte_text name
  pub is_name : IsName name

-- the text is the spelling of each byte of the name, one after the other
pub record SpellsName (text name : List ℕ) : Type 0 where
  pub spelling : text ≡ flat_map spelled name
  pub is_name : IsName name
