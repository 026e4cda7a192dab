-- The text of a critical path: a line for each piece (this project's own format).
use Rattle.std.specs.Prelude.{ℕ, List, [], ◌∷◌, ◌++◌, codes, flat_map}
use Rattle.std.specs.Fmt.{decimal}
use Rattle.critical_path.specs.declared.piece.PathPiece.{PathPiece}
use Rattle.critical_path.specs.declared.piece.What.{What}
use Rattle.critical_path.specs.declared.piece.What.TheVariants as what

-- what holds a thread up, in one word (this project's own)
abbrev pub what_word : What → List ℕ
what_word what.Running = codes "running"
what_word what.Waiting = codes "waiting"
what_word what.Unknown = codes "unknown"
what_word what.Timer = codes "timer"
what_word what.Disk = codes "disk"
what_word what.Interrupt = codes "interrupt"
what_word what.Nobody = codes "nobody"
what_word what.Transit = codes "transit"

-- a line: from when, up to when, the host and the thread, and what holds it up (this project's own)
abbrev pub piece_line : PathPiece → List ℕ
piece_line piece =
    codes "piece " ++ decimal piece.from ++ 32 ∷ decimal piece.to ++ 32 ∷ decimal piece.host ++ 32 ∷ decimal piece.tid ++ 32 ∷ what_word piece.what ++ 10 ∷ []

-- a line for each piece, in their order (this project's own)
abbrev pub pieces_text : List PathPiece → List ℕ
pieces_text pieces = flat_map piece_line pieces
