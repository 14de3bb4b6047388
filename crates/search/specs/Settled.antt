-- The end of a round: the last states of the queue are reached no more, and the marked ones among them become known.
use Rattle.std.specs.Prelude.{◌≡◌, Bool, cond, List, ℕ, ◌+◌, ◌<◌, ◌≤◌, length, get_or}
use Rattle.laws.specs.Entry.{FFFF}

-- the first q' of q places stay: after them come none but states that were reached from place `low` or a later one, and the last that
-- stays is no such state, unless it is the start
pub record Cut (low q' q : ℕ) (flags queue : List ℕ) : Type 0 where
  pub some : 0 < q'
  pub part : q' ≤ q
  pub last : (i : ℕ) → 0 < i → i + 1 ≡ q' → get_or flags (get_or queue i 0) 0 < low + 2
  pub above : (i : ℕ) → q' ≤ i → i < q → low + 2 ≤ get_or flags (get_or queue i 0) 0

-- the states at the places from q' up to q are reached no more; those in M are known from now on
pub record Settled (q' q : ℕ) (M : ℕ → Bool) (queue commands flags commands' flags' : List ℕ) : Type 0 where
  pub flag : (i : ℕ) → q' ≤ i → i < q → get_or flags' (get_or queue i 0) 0 ≡ cond (M (get_or queue i 0)) 0 1
  pub blank : (i : ℕ) → q' ≤ i → i < q → get_or commands' (get_or queue i 0) 0 ≡ FFFF
  -- every other state is as it was
  pub kept : (y : ℕ) → ((i : ℕ) → q' ≤ i → i < q → get_or queue i 0 ≡ y → ⊥)
      → (get_or flags' y 0 ≡ get_or flags y 0) × (get_or commands' y 0 ≡ get_or commands y 0)
  pub same_flags : length flags' ≡ length flags
  pub same_commands : length commands' ≡ length commands
