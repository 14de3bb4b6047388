-- How far the trying order of each state was tried in vain. What is known only grows in a search, so what is hit stays hit.
use Rattle.std.specs.Prelude.{◌≡◌, Bool, List, ℕ, ◌<◌, ◌≤◌, length, get_or}
use Rattle.laws.specs.First.{FirstNot}
use Rattle.model.specs.Plan.{Plan}
use Rattle.choice.specs.Order.{places, hit_at, AllHit}

-- each state has its place in the table, and before that place of its trying order every command has an outcome in K
pub record Tried (P : Plan) (n : ℕ) (K : ℕ → Bool) (tried : List ℕ) : Type 0 where
  pub long : n ≤ length tried
  pub hit : (s : ℕ) → s < n → AllHit P K s (get_or tried s 0)

-- the place of s is that of the first command tried that has no outcome in K, and every other is as it was; P has what was read of s
pub record Retried (P : Plan) (K : ℕ → Bool) (s : ℕ) (tried tried' : List ℕ) : Type 0 where
  pub place : FirstNot (hit_at P K 0) 0 (places P 0) (get_or tried' s 0)
  pub others : (x : ℕ) → (x ≡ s → ⊥) → get_or tried' x 0 ≡ get_or tried x 0
