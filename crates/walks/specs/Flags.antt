-- The flags of a walk, one for each state: 0 where it is known, which no walk enters, 1 where it is not reached, and where it is reached
-- the mark under which it was, 2 or more.
use Rattle.std.specs.Prelude.{Bool, ◌&&◌, List, ℕ, eqb, leb, get_or}

unfoldable pub known_in : List ℕ → ℕ → Bool
known_in flags x = leb (get_or flags x 0) 0

unfoldable pub walked_in : List ℕ → ℕ → Bool
walked_in flags x = leb 2 (get_or flags x 0)

-- the states of X that the walk may enter and has not reached
unfoldable pub new_in : List ℕ → (ℕ → Bool) → ℕ → Bool
new_in flags X x = eqb (get_or flags x 0) 1 && X x
