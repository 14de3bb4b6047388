-- What it is to take the states of X into a walk under a mark. In what order they come into the queue is left open.
use Rattle.std.specs.Prelude.{◌≡◌, Bool, true, cond, List, ℕ, ◌<◌, ◌≤◌, length, get_or}
use Rattle.walks.specs.Flags.{new_in}
use Rattle.walks.specs.Queued.{Queued}

pub record Spread (n q : ℕ) (X : ℕ → Bool) (mark : ℕ) (flags queue : List ℕ) (q' : ℕ) (flags' queue' : List ℕ) : Type 0 where
  pub queued : Queued n q' flags' queue'
  -- a state that is new has the mark, and every other its flag
  pub flagged : (y : ℕ) → get_or flags' y 0 ≡ cond (new_in flags X y) mark (get_or flags y 0)
  pub more : q ≤ q'
  -- the queue is as it was but for the places from q up to q', which hold the new states
  pub kept : (i : ℕ) → i < q → get_or queue' i 0 ≡ get_or queue i 0
  pub added : (i : ℕ) → q ≤ i → i < q' → new_in flags X (get_or queue' i 0) ≡ true
  pub all : (y : ℕ) → new_in flags X y ≡ true → (i : ℕ) × (q ≤ i) × (i < q') × (get_or queue' i 0 ≡ y)
  pub after : (i : ℕ) → q' ≤ i → get_or queue' i 0 ≡ get_or queue i 0
  pub same_flags : length flags' ≡ length flags
  pub same_queue : length queue' ≡ length queue
