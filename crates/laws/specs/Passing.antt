-- The numbers below a bound that pass a test, in order: for the states that a trimmed plan keeps, and the table of their old numbers.
use Rattle.std.specs.Prelude.{Bool, cond, List, [], ◌∷◌, ◌++◌, ℕ, zero, suc}

unfoldable pub passing : (ℕ → Bool) → ℕ → List ℕ
passing f zero = []
passing f (suc n) = passing f n ++ cond (f n) (n ∷ []) []
