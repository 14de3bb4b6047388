-- Source 000's value equation (rule V5): its Definition 1 with the practice's action replaced by the best one, as in its backup.
-- V(s) = 1 if s is a fail state, else the least, over a in A(s), of the largest V(s') with s' in T(s, a).
use Rattle.std.specs.Prelude.{◌≡◌, cond, List, [], ◌∷◌, map, ℕ, ◌<◌, ◌≤◌, min, max}
use Rattle.laws.specs.Lists.{tabulate}
use Rattle.model.specs.Plan.{Plan, failing, active}
use Rattle.model.specs.Verdict.{lost}

-- the sets T(s, a), for each a of A(s): a state that has no command has a self-loop
unfoldable pub successors : Plan → ℕ → List (List ℕ)
successors P s = cond (active P s) (tabulate (P.outcomes s) 0 (P.commands s)) ((s ∷ []) ∷ [])

unfoldable pub maximum : List ℕ → ℕ
maximum [] = 0
maximum (x ∷ xs) = max x (maximum xs)

unfoldable pub minimum : List ℕ → ℕ
minimum [] = 0
minimum (x ∷ []) = x
minimum (x ∷ y ∷ r) = min x (minimum (y ∷ r))

-- the right side of the equation
unfoldable pub backup : Plan → (ℕ → ℕ) → ℕ → ℕ
backup P v s = cond (failing P s) 1 (minimum (map (λ xs. maximum (map v xs)) (successors P s)))

-- v solves the equation at every state of the plan
abbrev pub Solves : Plan → (ℕ → ℕ) → Type 0
Solves P v = (s : ℕ) → s < P.states → v s ≡ backup P v s

-- 1 at a lost state, 0 at a safe one
unfoldable pub value : Plan → ℕ → ℕ
value P s = cond (lost P s) 1 0

-- rule V5: the verdicts solve the equation, and no solution is smaller at any state
pub record LeastSolution (P : Plan) : Type 0 where
  pub solves : Solves P (value P)
  pub least : (v : ℕ → ℕ) → Solves P v → (s : ℕ) → s < P.states → value P s ≤ v s
