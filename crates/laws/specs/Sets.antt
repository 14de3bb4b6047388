-- Sets of numbers as tests, and what is computed of them.
use Rattle.std.specs.Prelude.{Bool, true, false, cond, ◌&&◌, ◌||◌, List, [], ◌∷◌, ℕ, zero, suc, ◌+◌, ltb}
use Rattle.std.proofs.Math.Option.{Option, none, some}

-- some member of the list passes the test
unfoldable pub any : (ℕ → Bool) → List ℕ → Bool
any f [] = false
any f (x ∷ xs) = f x || any f xs

-- every member of the list passes
unfoldable pub each : (ℕ → Bool) → List ℕ → Bool
each f [] = true
each f (x ∷ xs) = f x && each f xs

-- the first member of the list that passes
unfoldable pub first : (ℕ → Bool) → List ℕ → Option ℕ
first f [] = none
first f (x ∷ xs) = cond (f x) (some x) (first f xs)

-- the lesser of a number and another, if there is another
unfoldable pub lesser : ℕ → Option ℕ → ℕ
lesser x none = x
lesser x (some y) = cond (ltb y x) y x

-- the least member of the list that passes, wherever it stands
unfoldable pub least : (ℕ → Bool) → List ℕ → Option ℕ
least f [] = none
least f (x ∷ xs) = cond (f x) (some (lesser x (least f xs))) (least f xs)

-- every number below the bound passes
unfoldable pub every : (ℕ → Bool) → ℕ → Bool
every f zero = true
every f (suc n) = every f n && f n

-- some number below the bound passes
unfoldable pub exists : (ℕ → Bool) → ℕ → Bool
exists f zero = false
exists f (suc n) = exists f n || f n

unfoldable pub or_else : Option ℕ → Bool → ℕ → Option ℕ
or_else (some i) b n = some i
or_else none true n = some n
or_else none false n = none

-- the lowest number below the bound that passes
unfoldable pub lowest : (ℕ → Bool) → ℕ → Option ℕ
unfolding or_else
lowest f zero = none
lowest f (suc n) = let b = f n in or_else (lowest f n) b n

unfoldable pub found : Option ℕ → Bool
found none = false
found (some i) = true

-- how many numbers below the bound pass
unfoldable pub how_many : (ℕ → Bool) → ℕ → ℕ
how_many f zero = 0
how_many f (suc n) = cond (f n) 1 0 + how_many f n

-- the set K and, k times over, what F adds to the set so far
unfoldable pub grow : ((ℕ → Bool) → ℕ → Bool) → (ℕ → Bool) → ℕ → ℕ → Bool
grow F K zero = K
grow F K (suc k) = λ s. grow F K k s || F (grow F K k) s
