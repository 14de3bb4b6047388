-- Slices that a plan is to be read into, by their lengths in bytes.
use Rattle.std.specs.Prelude.{List, ℕ}
use Rattle.model.specs.Refusal.{Answer, Cramped, given, need, ◌>>=◌, ◌>>◌}
use Rattle.model.specs.Tables.{Size as ModelSize}
use Rattle.model.specs.Boundary.{AfterGateRead}
use Rattle.model.specs.Rooms.{read_room}

-- rule G8: the size record answered, if they have room
abbrev pub admitted : Answer ModelSize → ℕ → ℕ → ℕ → ℕ → Answer ModelSize
admitted a size rows firsts outcomes = do
  z ← a
  need Cramped (read_room z size rows firsts outcomes)
  given z

-- what is returned, and what every slice holds afterwards
abbrev pub after_gate_read : ℕ → List ℕ → List ℕ → List ℕ → List ℕ → AfterGateRead
after_gate_read r size rows firsts outcomes = record { returns = r; size = size; rows = rows; firsts = firsts; outcomes = outcomes }
