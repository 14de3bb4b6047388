-- The command taken at a state (docs/SPECIFICATION.md, parts V and S).
use Rattle.std.specs.Prelude.{Bool, not, cond, List, ◌∷◌, ℕ}
use Rattle.std.proofs.Math.Option.{Option, none}
use Rattle.laws.specs.Sets.{first}
use Rattle.laws.specs.Lists.{tabulate}
use Rattle.model.specs.Plan.{Plan, active, has_practice}
use Rattle.model.specs.Verdict.{hits, lost, safe}

-- The order in which commands are tried (rules V6, S4): the practice, then the lowest-numbered first.
unfoldable pub try_order : Plan → ℕ → List ℕ
try_order P s =
    let all = tabulate (λ c. c) 0 (P.commands s) in
    cond (has_practice P s) (P.practice s ∷ all) all

-- at an ordinary state with commands, the first command tried that has no outcome in K
unfoldable pub choice : Plan → (ℕ → Bool) → ℕ → Option ℕ
choice P K s = cond (active P s) (first (λ c. not (hits P K s c)) (try_order P s)) none

-- rules V6 and V7: at a safe state the first command tried that has no lost outcome, and none at a lost one
unfoldable pub chosen : Plan → ℕ → Option ℕ
chosen P s = cond (safe P s) (choice P (lost P) s) none
