-- Entries written to a table one after another.
use Rattle.std.specs.Prelude.{List, [], ◌∷◌, ℕ, ◌+◌, set}

-- the table with xs at the places from i on
unfoldable pub put_all : {A : Type 0} → List A → ℕ → List A → List A
put_all table i [] = table
put_all table i (x ∷ xs) = put_all (set table i x) (i + 1) xs
