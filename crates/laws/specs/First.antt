-- The first number of a range of which a test does not hold.
use Rattle.std.specs.Prelude.{◌≡◌, Bool, true, false, ℕ, ◌<◌, ◌≤◌}

-- r is the first number from a on, below e, of which f does not hold; or e
pub record FirstNot (f : ℕ → Bool) (a e r : ℕ) : Type 0 where
  pub since : a ≤ r
  pub until : r ≤ e
  pub before : (i : ℕ) → a ≤ i → i < r → f i ≡ true
  pub stops : r < e → f r ≡ false
