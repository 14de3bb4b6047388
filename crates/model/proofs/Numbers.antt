-- The refusals' numbers are 1 to 18: no call that refuses returns 0, and a number takes two digits.
use Prim.Native.Nat.{◌<◌, ◌≤◌}
use native.Mathlib.Omega.{arith}
use Rattle.model.specs.Refusal.{
  Refusal,
  Cut,
  Surplus,
  Tag,
  Length,
  Beyond,
  Unsorted,
  Idle,
  Limit,
  Cramped,
  Unsound,
  Stranger,
  Moves,
  Seconds,
  Doubtful,
  Departures,
  Chambers,
  Report,
  Grant,
  number,
}

pub number_bound : (r : Refusal) → (0 < number r) × (number r ≤ 18)
number_bound Cut = (omega arith, omega arith)
number_bound Surplus = (omega arith, omega arith)
number_bound Tag = (omega arith, omega arith)
number_bound Length = (omega arith, omega arith)
number_bound Beyond = (omega arith, omega arith)
number_bound Unsorted = (omega arith, omega arith)
number_bound Idle = (omega arith, omega arith)
number_bound Limit = (omega arith, omega arith)
number_bound Cramped = (omega arith, omega arith)
number_bound Unsound = (omega arith, omega arith)
number_bound Stranger = (omega arith, omega arith)
number_bound Moves = (omega arith, omega arith)
number_bound Seconds = (omega arith, omega arith)
number_bound Doubtful = (omega arith, omega arith)
number_bound Departures = (omega arith, omega arith)
number_bound Chambers = (omega arith, omega arith)
number_bound Report = (omega arith, omega arith)
number_bound Grant = (omega arith, omega arith)
