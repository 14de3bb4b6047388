-- What it means that trimming is answered (docs/SPECIFICATION.md, part X).
use Rattle.std.specs.Prelude.{◌≡◌, List, map, ◌↔◌, ℕ, ◌<◌, ◌≤◌, length, get_or, take}
use Rattle.laws.specs.Lists.{tabulate}
use Rattle.model.specs.Plan.{Plan}
use Rattle.model.specs.Run.{Run, present, IsRun}
use Rattle.model.specs.Verdict.{rank, lost}
use Rattle.model.specs.Command.{chosen}
use Rattle.model.specs.Refusal.{given}
use Rattle.model.specs.Tables.{Row, Tables, Same}
use Rattle.model.specs.Sound.{Sound}
use Rattle.model.specs.Held.{plan_in}
use Rattle.model.specs.Calls.{decide_call}
use Rattle.model.specs.Demand3.{read_entry}
use Rattle.model.specs.Trim.{trim_call, after_trimming}

-- rule X1: some run from the start ends at x
pub record Enters (P : Plan) (x : ℕ) : Type 0 where
  pub run : Run
  pub is_run : IsRun P P.start run
  pub ends : present P.start run ≡ x

-- What Q, which is trimmed from P, has of P, where `old` gives the old numbers.
pub record Keeps (P Q : Plan) (old : ℕ → ℕ) : Type 0 where
  -- rules X1 and X4: the kept states are those at which a run from the start ends
  pub states : (s : ℕ) → Enters P s ↔ ((i : ℕ) × (i < Q.states) × (old i ≡ s))
  -- rule X4: the map rises, and its numbers are states of P
  pub order : (i j : ℕ) → i < j → j < Q.states → old i < old j
  pub inside : (i : ℕ) → i < Q.states → old i < P.states
  -- rule X3
  pub start : (Q.start < Q.states) × (old Q.start ≡ P.start)
  pub kinds : (i : ℕ) → i < Q.states → Q.kind i ≡ P.kind (old i)
  pub commands : (i : ℕ) → i < Q.states → Q.commands i ≡ P.commands (old i)
  pub outcomes : (i c : ℕ) → i < Q.states → c < Q.commands i → map old (Q.outcomes i c) ≡ P.outcomes (old i) c
  pub practices : (i : ℕ) → i < Q.states → Q.practice i ≡ P.practice (old i)
  -- rule X6: verdict, rank and chosen command
  pub verdicts : (i : ℕ) → i < Q.states → lost Q i ≡ lost P (old i)
  pub ranks : (i : ℕ) → i < Q.states → rank Q i ≡ rank P (old i)
  pub choices : (i : ℕ) → i < Q.states → chosen Q i ≡ chosen P (old i)

-- What it means that trimming T is answered and leaves U and, in its first places, the map.
pub record Trimmed (T U : Tables) (olds : List ℕ) : Type 0 where
  -- rule X5: U is a plan that a file gives, and no larger
  pub sounds : Sound U
  pub no_larger : (U.size.n ≤ T.size.n) × (U.size.m ≤ T.size.m) × (U.size.t ≤ T.size.t)
  -- rule X4: the map has a place for each state of U
  pub map_long : U.size.n ≤ length olds
  pub keeps : Keeps (plan_in T) (plan_in U) (λ i. get_or olds i 0)
  -- rule X6 by what deciding leaves, whatever it is lent on either plan, if it answers
  pub by_tables : (ranks commands marks scratch ranks' commands' marks' scratch' : List ℕ) (counts counts' : List (List ℕ))
      → let D = decide_call T ranks commands marks scratch in
      let E = decide_call U ranks' commands' marks' scratch' in
      D.answers ≡ given counts → E.answers ≡ given counts' → (i : ℕ) → i < U.size.n
      → (read_entry E.ranks i ≡ read_entry D.ranks (get_or olds i 0))
      × (read_entry E.commands i ≡ read_entry D.commands (get_or olds i 0))
  -- rule X7: trimming U, into tables that are long enough, gives U back, and every state has its own number
  pub again : (rows : List Row) (firsts outcomes olds' scratch : List ℕ)
      → U.size.n ≤ length rows → U.size.m ≤ length firsts → U.size.t ≤ length outcomes → U.size.n ≤ length olds'
      → U.size.n ≤ length scratch
      → let A = trim_call U rows firsts outcomes olds' scratch in
      (A.answers ≡ given U.size) × Same U (after_trimming U.size U rows firsts outcomes olds' scratch)
      × (take U.size.n A.olds ≡ tabulate (λ i. i) 0 U.size.n)
