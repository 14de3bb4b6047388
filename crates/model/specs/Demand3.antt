-- Demand 3 (docs/SPECIFICATION.md, rules D3 and R11): one claim, of all operating rules and whole runs, about the tables that are returned.
use Rattle.std.specs.Prelude.{◌≡◌, Bool, true, List, ◌↔◌, ℕ, ◌<◌, ◌≤◌, ◌-◌, get_or}
use Rattle.std.proofs.Math.Option.{Option, none, some}
use Rattle.laws.specs.Sets.{found}
use Rattle.laws.specs.Entry.{FFFF, from_entry}
use Rattle.model.specs.Plan.{Plan}
use Rattle.model.specs.Run.{moves}
use Rattle.model.specs.Rule.{Rule, Commanding, Fails, Survives, positional}
use Rattle.model.specs.Search.{search, actives}
use Rattle.model.specs.Refusal.{given}
use Rattle.model.specs.Tables.{Tables}
use Rattle.model.specs.Held.{plan_in}
use Rattle.model.specs.Calls.{decide_call, search_call}

-- a table of entries read at a state: FFFF is none
unfoldable pub read_entry : List ℕ → ℕ → Option ℕ
read_entry table s = from_entry (get_or table s FFFF)

-- What deciding's two tables say of the state s: rule R9 of its entry in the ranks, and rule R10 of the command table.
pub record Decided (P : Plan) (ranks commands : List ℕ) (s : ℕ) : Type 0 where
  -- rule D3a: it is called lost if and only if each commanding rule fails from it. The plan is sound: the calls refuse every other.
  pub lost_iff : (found (read_entry ranks s) ≡ true) ↔ ((ρ : Rule) → Commanding P s ρ → Fails P s ρ)
  -- rule D3b: else the returned commands are a commanding rule
  pub returned : read_entry ranks s ≡ none → Commanding P s (positional (read_entry commands) s)
  -- rule D3c: and survive every run
  pub holds : read_entry ranks s ≡ none → Survives P s (positional (read_entry commands) s) (λ w. Unit {0})
  -- rule D3d: each commanding rule fails within r moves
  pub within : (r : ℕ) → read_entry ranks s ≡ some r → (ρ : Rule) → Commanding P s ρ → (f : Fails P s ρ) × (moves f.run ≤ r)
  -- rule D3e: and some commanding rule survives all shorter runs
  pub delays : (r : ℕ) → read_entry ranks s ≡ some r → 0 < r → (ρ : Rule) × Commanding P s ρ × Survives P s ρ (λ w. moves w ≤ r - 1)

-- What the search from a answers (its verdict, its rounds and its command table), beside deciding's tables.
pub record Searched (P : Plan) (ranks commands : List ℕ) (a : ℕ) (verdict : Bool) (rounds : ℕ) (table : List ℕ) : Type 0 where
  -- rule D3f: the verdict is deciding's
  pub same_verdict : verdict ≡ found (read_entry ranks a)
  -- rules D3g and S12: where the last walk comes, the command entries are deciding's, FFFF too
  pub same_commands : read_entry ranks a ≡ none → (s : ℕ) → (search P a).reached s ≡ true → get_or table s FFFF ≡ get_or commands s FFFF
  -- rule D3h: the rounds have a bound, the ordinary states with commands
  pub few_rounds : rounds ≤ actives P

-- Demand 3 whole: of every state of the plan, and of a search from a.
pub record Demand3 (P : Plan) (ranks commands : List ℕ) (a : ℕ) (verdict : Bool) (rounds : ℕ) (table : List ℕ) : Type 0 where
  pub decided : (s : ℕ) → s < P.states → Decided P ranks commands s
  pub searched : Searched P ranks commands a verdict rounds table

-- Demand 3 of the tables that deciding leaves: whatever start and tables the search is lent on the same plan, if it answers.
abbrev pub DecidingDemand3 : Tables → List ℕ → List ℕ → Type 0
DecidingDemand3 T ranks commands = (a : ℕ) (table space : List ℕ) (verdict : Bool) (rounds : ℕ)
    → (search_call T a table space).answers ≡ given (verdict, rounds)
    → Demand3 (plan_in T) ranks commands a verdict rounds (search_call T a table space).commands

-- And of what the search from a answers and leaves: whatever tables deciding is lent on the same plan, if it answers.
abbrev pub SearchDemand3 : Tables → ℕ → Bool → ℕ → List ℕ → Type 0
SearchDemand3 T a verdict rounds table = (ranks commands marks scratch : List ℕ) (counts : List (List ℕ))
    → (decide_call T ranks commands marks scratch).answers ≡ given counts
    → Demand3 (plan_in T) (decide_call T ranks commands marks scratch).ranks (decide_call T ranks commands marks scratch).commands a verdict
    rounds table
