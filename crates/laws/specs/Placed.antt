-- A table written at the places that another table names.
use Rattle.std.specs.Prelude.{◌≡◌, List, ℕ, ◌<◌, length, get_or}

-- the first n of the names rise, so no two are the same, and are places of the table
pub record RisingPlaces (n : ℕ) (at : List ℕ) (places : ℕ) : Type 0 where
  pub inside : (i : ℕ) → i < n → get_or at i 0 < places
  pub rise : (i j : ℕ) → i < j → j < n → get_or at i 0 < get_or at j 0

-- l is l₀ with f i at the place that entry i of `at` names, for each i below n
pub record Placed (n : ℕ) (at : List ℕ) (f : ℕ → ℕ) (l₀ l : List ℕ) : Type 0 where
  pub same : length l ≡ length l₀
  pub named : (i : ℕ) → i < n → get_or l (get_or at i 0) 0 ≡ f i
  pub others : (x : ℕ) → ((i : ℕ) → i < n → get_or at i 0 ≡ x → ⊥) → get_or l x 0 ≡ get_or l₀ x 0
