-- What is held where something was to be appended and there was no memory for all of it (this project's own).
use Rattle.std.specs.Prelude.{◌≡◌, List, ◌++◌}

-- the old items are followed by a front of those that were to be appended
pub record HasFront {X : Type 0} (old items new : List X) : Type 0 where
  pub front : List X
  pub rest : List X
  pub parts : items ≡ front ++ rest
  pub held : new ≡ old ++ front
