-- What a function that stores bytes does.
use Rattle.std.specs.Prelude.{◌≡◌, List, ℕ, ◌+◌, length}
use Rattle.laws.specs.Writes.{put_all}

-- after is before with the bytes xs from a place on, and next is the place past them
pub record Wrote (before : List ℕ) (place : ℕ) (xs after : List ℕ) (next : ℕ) : Type 0 where
  pub stored : after ≡ put_all before place xs
  pub past : next ≡ place + length xs
