-- Lists made from a rule, and tables whose first places are written.
use Rattle.std.specs.Prelude.{List, [], ◌∷◌, ◌++◌, ℕ, zero, suc, length, drop}

-- f at each of the k numbers from a on
unfoldable pub tabulate : {A : Type 0} → (ℕ → A) → ℕ → ℕ → List A
tabulate f a zero = []
tabulate f a (suc k) = f a ∷ tabulate f (suc a) k

-- the lists one after another
unfoldable pub joined : {A : Type 0} → List (List A) → List A
joined [] = []
joined (x ∷ xs) = x ++ joined xs

-- a table with xs in its first places; the rest is as it was
unfoldable pub overwrite : {A : Type 0} → List A → List A → List A
overwrite xs table = xs ++ drop (length xs) table
