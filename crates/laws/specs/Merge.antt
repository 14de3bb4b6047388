-- Two lists of numbers that rise, made into one that rises: for the sure and the doubtful outcomes of a command.
use Rattle.std.specs.Prelude.{cond, List, [], ◌∷◌, ℕ, suc, ◌≤◌, ltb}

-- each member exceeds the one before it, and the first is at least `low`
abbrev pub StrictlyRising : ℕ → List ℕ → Type 0
StrictlyRising low [] = Unit {0}
StrictlyRising low (x ∷ xs) = (low ≤ x) × StrictlyRising (suc x) xs

-- a list with y in front of the first member that is not below it
unfoldable pub insert : ℕ → List ℕ → List ℕ
insert y [] = y ∷ []
insert y (x ∷ xs) = cond (ltb x y) (x ∷ insert y xs) (y ∷ x ∷ xs)

-- the members of both lists
unfoldable pub merge : List ℕ → List ℕ → List ℕ
merge xs [] = xs
merge xs (y ∷ ys) = insert y (merge xs ys)
