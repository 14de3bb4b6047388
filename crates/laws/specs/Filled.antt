-- A table whose first places, or those of a range, were written.
use Rattle.std.specs.Prelude.{◌≡◌, List, ℕ, ◌<◌, ◌≤◌, length, get_or}

-- l is l₀ with f at each place below n
pub record Filled (n : ℕ) (f : ℕ → ℕ) (l₀ l : List ℕ) : Type 0 where
  pub same : length l ≡ length l₀
  pub low : (x : ℕ) → x < n → get_or l x 0 ≡ f x
  pub high : (x : ℕ) → n ≤ x → get_or l x 0 ≡ get_or l₀ x 0

-- l is l₀ with x at each place from a on, below e
pub record FilledRange (a e x : ℕ) (l₀ l : List ℕ) : Type 0 where
  pub same : length l ≡ length l₀
  pub below : (i : ℕ) → i < a → get_or l i 0 ≡ get_or l₀ i 0
  pub inside : (i : ℕ) → a ≤ i → i < e → get_or l i 0 ≡ x
  pub above : (i : ℕ) → e ≤ i → get_or l i 0 ≡ get_or l₀ i 0
