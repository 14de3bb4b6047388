-- What both propagations of a plan leave.
use Rattle.std.specs.Prelude.{◌≡◌, List, ℕ, suc, ◌<◌, ◌≤◌, length, get_or}
use Rattle.laws.specs.Entry.{highest, entry}
use Rattle.laws.specs.Filled.{Filled}
use Rattle.laws.specs.Lists.{tabulate, overwrite}
use Rattle.laws.specs.Starts.{start_of}
use Rattle.model.specs.Verdict.{rank}
use Rattle.model.specs.Practice.{practice_fails}
use Rattle.model.specs.Tables.{Lists, Tables}
use Rattle.model.specs.Held.{plan_in}
use Rattle.choice.specs.Within.{within}
use Rattle.propagate.specs.Net.{Net, net_of, depth, seeds}
use Rattle.nets.specs.Nets.{one_end}

-- a table of seeds, with the number of steps in which each state is lost, or FFFF, in their place
abbrev pub depth_table : Net → List ℕ → List ℕ
depth_table N ranks = overwrite (tabulate (λ (s : ℕ). entry (depth N (seeds ranks) s)) 0 N.states) ranks

-- a table with the first n entries of another
abbrev pub copied : ℕ → List ℕ → List ℕ → List ℕ
copied n from table = overwrite (tabulate (λ (s : ℕ). get_or from s 0) 0 n) table

-- the commands that count at each of n states are among its own, which start where `starts` says, the last ending at m
pub record OwnRanges (n m : ℕ) (starts froms tos : List ℕ) : Type 0 where
  pub long_froms : n ≤ length froms
  pub long_tos : n ≤ length tos
  pub inside : (s : ℕ) → s < n
      → (start_of starts n m s ≤ get_or froms s 0) × (get_or froms s 0 ≤ get_or tos s 0) × (get_or tos s 0 ≤ start_of starts n m (suc s))

-- What the propagation of the practice leaves, from the seeds in `ranks`, the ends of all commands and, in `fails`, where the practice
-- stands: it counts alone, in the ranges from `froms` to tos'.
pub record PracticeFound (n : ℕ) (C : Lists) (ranks tos fails tos' fails' : List ℕ) : Type 0 where
  pub froms : List ℕ
  pub begins : (s : ℕ) → s < n → get_or froms s 0 ≡ get_or fails s 0
  pub stops : Filled n (λ s. one_end (get_or fails s 0) (get_or tos s 0)) tos tos'
  pub failed : fails' ≡ depth_table (net_of n C froms tos') (copied n ranks fails)

-- The rank of each state, and a number where the practice fails. In the first n places of the two tables that are worked in is left what
-- may be.
pub record Found (T : Tables) (ranks tos fails scratch ranks' tos' fails' scratch' : List ℕ) : Type 0 where
  pub ranked : Filled T.size.n (λ s. entry (rank (plan_in T) s)) ranks ranks'
  pub failed : (s : ℕ) → s < T.size.n → within fails' highest s ≡ practice_fails (plan_in T) s
  pub fails_past : Filled T.size.n (λ s. get_or fails' s 0) fails fails'
  pub tos_past : Filled T.size.n (λ s. get_or tos' s 0) tos tos'
  pub scratch_past : Filled T.size.n (λ i. get_or scratch' i 0) scratch scratch'
