-- Writing a plan file (docs/SPECIFICATION.md, rules F1 to F7): head, states with their commands, end.
-- Each definition gives the bytes of its fields in front of further bytes r.
use Rattle.std.specs.Prelude.{ℕ, ◌*◌, List, [], ◌∷◌, length}
use Rattle.laws.specs.Entry.{two, twos}
use Rattle.model.specs.File.{State, StateField, field_of, Tree, head_tag, state_tag, command_tag, end_tag}

unfoldable pub commands_bytes : List (List ℕ) → List ℕ → List ℕ
commands_bytes [] r = r
commands_bytes (c ∷ cs) r = command_tag ∷ two (length c * 2) (twos c (commands_bytes cs r))

-- a state field
abbrev pub state_bytes : StateField → List ℕ → List ℕ
state_bytes q r = state_tag ∷ two 5 (q.kind ∷ two q.count (two q.practice r))

unfoldable pub states_bytes : List State → List ℕ → List ℕ
states_bytes [] r = r
states_bytes (s ∷ ss) r = state_bytes (field_of s) (commands_bytes s.commands (states_bytes ss r))

unfoldable pub bytes_of : Tree → List ℕ
bytes_of p = head_tag ∷ two 4 (two (length p.states) (two p.start (states_bytes p.states (end_tag ∷ two 0 []))))
