-- A table in which nothing is altered but its first n places.
use Rattle.std.specs.Prelude.{List, ℕ, get_or}
use Rattle.laws.specs.Filled.{Filled}

abbrev pub Past : ℕ → List ℕ → List ℕ → Type 0
Past n l₀ l = Filled n (λ x. get_or l x 0) l₀ l
