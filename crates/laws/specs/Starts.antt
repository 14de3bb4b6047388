-- Where the parts of a table start that is cut into parts, one after another. The outcomes of each command are such parts of the
-- outcomes, and the commands of each state such parts of the commands.
use Rattle.std.specs.Prelude.{◌≡◌, cond, List, ℕ, suc, ◌≤◌, ◌<◌, ltb, get_or}

-- where part i starts, and the part before it ends; after the last of `count` parts, the end of all
unfoldable pub start_of : List ℕ → ℕ → ℕ → ℕ → ℕ
start_of starts count end i = cond (ltb i count) (get_or starts i 0) end

-- the parts are one after another, from 0 on
pub record Parts (starts : List ℕ) (count end : ℕ) : Type 0 where
  pub zero : start_of starts count end 0 ≡ 0
  pub rises : (i : ℕ) → i < count → start_of starts count end i ≤ start_of starts count end (suc i)
