-- The trimmed plan (docs/SPECIFICATION.md, part X): the states that runs from the start come to, under new numbers. And the call.
use Rattle.std.specs.Prelude.{Bool, ◌&&◌, List, map, ℕ, leb, eqb, length}
use Rattle.laws.specs.Sets.{any, exists, how_many, grow}
use Rattle.laws.specs.Passing.{passing}
use Rattle.model.specs.Plan.{Plan, ordinary}
use Rattle.model.specs.Refusal.{Cramped, Unsound, Answer, given, answer, need, ◌>>◌}
use Rattle.model.specs.File.{State, Tree}
use Rattle.model.specs.Tables.{Size, Row, Tables, enough, tables_of}
use Rattle.model.specs.SoundTest.{sound}
use Rattle.model.specs.Held.{tree_of, state_of, plan_of}
use Rattle.model.specs.Calls.{left, cleared}

-- ---- the trimmed plan

-- x is an outcome of some command of an ordinary state of W
unfoldable pub enters_from : Plan → (ℕ → Bool) → ℕ → Bool
enters_from P W x = exists (λ t. W t && ordinary P t && exists (λ c. any (eqb x) (P.outcomes t c)) (P.commands t)) P.states

-- rule X1: the states that are entered from the start, whatever is commanded
unfoldable pub entered : Plan → ℕ → Bool
entered P = grow (enters_from P) (eqb P.start) P.states

-- rule X2: the new number of a state that is kept: how many of the kept states are below it
unfoldable pub new_number : Tree → ℕ → ℕ
new_number p = how_many (entered (plan_of p))

-- rule X4: the old number of each new one
unfoldable pub map_of : Tree → List ℕ
map_of p = passing (entered (plan_of p)) (length p.states)

-- a state with other commands
abbrev pub with_commands : State → List (List ℕ) → State
with_commands s cs = record { kind = s.kind; practice = s.practice; commands = cs }

-- rule X3: the outcomes of a state get new numbers, and all else stays
unfoldable pub trim_state : (ℕ → ℕ) → State → State
trim_state new s = with_commands s (map (map new) s.commands)

-- rules X2 and X3: the kept states in the sequence of their old numbers, and the start, all under new numbers
unfoldable pub trim_tree : Tree → Tree
trim_tree p = record { start = new_number p p.start; states = map (λ s. trim_state (new_number p) (state_of p s)) (map_of p) }

-- its size record and tables
abbrev pub trimmed : Tree → Tables
trimmed p = tables_of (trim_tree p)

-- ---- the call

-- rule C11: room for a plan of size z that is trimmed from one of n states: for the plan, its map, and in scratch for the old states
abbrev pub trim_room : Size → ℕ → ℕ → ℕ → ℕ → ℕ → ℕ → Bool
trim_room z n rows firsts outcomes olds scratch = enough z rows firsts outcomes && leb z.n olds && leb n scratch

-- rules C11 and E17: the plan is sound, then there is room.
-- Given is the plan that is trimmed; `trim_call` has what is answered.
unfoldable pub trimming : Tables → ℕ → ℕ → ℕ → ℕ → ℕ → Answer Tree
trimming T rows firsts outcomes olds scratch = do
  need Unsound (sound T)
  need Cramped (trim_room (trimmed (tree_of T)).size T.size.n rows firsts outcomes olds scratch)
  given (tree_of T)

pub record AfterTrim : Type 0 where
  pub answers : Answer Size
  pub rows : List Row
  pub firsts : List ℕ
  pub outcomes : List ℕ
  pub olds : List ℕ
  pub scratch : List ℕ

-- rule C11: answered is the trimmed size record
abbrev pub trim_call : Tables → List Row → List ℕ → List ℕ → List ℕ → List ℕ → AfterTrim
trim_call T rows firsts outcomes olds scratch =
    let a = trimming T (length rows) (length firsts) (length outcomes) (length olds) (length scratch) in
    record {
      answers = answer (λ p. (trimmed p).size) a;
      rows = left (λ p. (trimmed p).rows) a rows;
      firsts = left (λ p. (trimmed p).firsts) a firsts;
      outcomes = left (λ p. (trimmed p).outcomes) a outcomes;
      olds = left map_of a olds;
      scratch = left (λ p. cleared T.size.n) a scratch;
    }

-- a size record, and the tables as a trimming leaves them
abbrev pub after_trimming : Size → Tables → List Row → List ℕ → List ℕ → List ℕ → List ℕ → Tables
after_trimming z T rows firsts outcomes olds scratch =
    let after = trim_call T rows firsts outcomes olds scratch in
    record { size = z; rows = after.rows; firsts = after.firsts; outcomes = after.outcomes }
