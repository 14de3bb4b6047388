-- The refusals (docs/SPECIFICATION.md, part E), and answers that may be refusals.
use Rattle.std.specs.Prelude.{Bool, true, false, ℕ}

infixl 1 ◌>>=◌
infixr 1 ◌>>◌
-- the words, in the order of their numbers
pub data Refusal : Type 0 where
  -- rule E1: the bytes are at an end before the field that is due
  Cut : Refusal
  -- rule E2: there are bytes behind the end
  Surplus : Refusal
  -- rule E3: another field is due
  Tag : Refusal
  -- rule E4: no field of this tag has such a length
  Length : Refusal
  -- rule E5: the number of states, the start, an outcome or a kind is out of range
  Beyond : Refusal
  -- rule E6: the outcomes of a command do not rise
  Unsorted : Refusal
  -- rule E7: commands at a state that is not ordinary, or a practice that is no command of its state
  Idle : Refusal
  -- rule E8: too many commands or outcomes
  Limit : Refusal
  -- rule E9: too little room in a table that is to be written
  Cramped : Refusal
  -- rule E10: the plan that is lent is not sound
  Unsound : Refusal
  -- rule E11: there is no state of the number that is named
  Stranger : Refusal
  -- rule E22: a contest of more than 8 moves is asked for
  Moves : Refusal
  -- rule E23: a move is said to take 0 seconds, or more than 3,600
  Seconds : Refusal
  -- rule E21: no call gives this one and those after it yet. A doubtful outcome of a command is one of its sure ones
  Doubtful : Refusal
  -- more than 8 departures from the practice are asked for
  Departures : Refusal
  -- a site without chambers, or of more than 16
  Chambers : Refusal
  -- no grant is open, or the state reported is no outcome of the granted command
  Report : Refusal
  -- a grant is open already, or no chamber's state has a chosen command
  Grant : Refusal

abbrev pub number : Refusal → ℕ
number Cut = 1
number Surplus = 2
number Tag = 3
number Length = 4
number Beyond = 5
number Unsorted = 6
number Idle = 7
number Limit = 8
number Cramped = 9
number Unsound = 10
number Stranger = 11
number Moves = 12
number Seconds = 13
number Doubtful = 14
number Departures = 15
number Chambers = 16
number Report = 17
number Grant = 18

-- a value, or a refusal
pub data Answer (A : Type 0) : Type 0 where
  given : A → Answer A
  refused : Refusal → Answer A

unfoldable pub ◌>>=◌ : {A B : Type 0} → Answer A → (A → Answer B) → Answer B
◌>>=◌ (given a) f = f a
◌>>=◌ (refused r) f = refused r

-- refused with r unless the test holds
unfoldable pub need : Refusal → Bool → Answer (Unit {0})
need r true = given tt
need r false = refused r

unfoldable pub ◌>>◌ : {B : Type 0} → Answer (Unit {0}) → Answer B → Answer B
◌>>◌ (given a) b = b
◌>>◌ (refused r) b = refused r

-- the value answered, changed by f
unfoldable pub answer : {A B : Type 0} → (A → B) → Answer A → Answer B
answer f (given a) = given (f a)
answer f (refused r) = refused r
