-- A part of a table whose entries rise.
use Rattle.std.specs.Prelude.{List, ℕ, suc, ◌<◌, ◌≤◌, get_or}

-- each entry at the places from a up to e exceeds the one before it
pub record RisesIn (table : List ℕ) (a e : ℕ) : Type 0 where
  pub next : (i : ℕ) → a ≤ i → suc i < e → get_or table i 0 < get_or table (suc i) 0
