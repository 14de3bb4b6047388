-- Operating rules (docs/SPECIFICATION.md, part R): rules that may remember the whole run so far.
use Rattle.std.specs.Prelude.{◌≡◌, true, ℕ, ◌<◌}
use Rattle.std.proofs.Math.Option.{Option, some}
use Rattle.model.specs.Plan.{Plan, active}
use Rattle.model.specs.Run.{Run, no_moves, ◌▸◌, present, IsRun, RunFails, RunHolds}

-- rule R4: what is commanded after each run, if anything
abbrev pub Rule : Type 0
Rule = Run → Option ℕ

-- rule R5: each move issues what the rule answers to the run before it
abbrev pub Under : Rule → Run → Type 0
Under ρ no_moves = Unit {0}
Under ρ (w ▸ m) = Under ρ w × (ρ w ≡ some m.command)

-- rule R6: an operating rule, from the state s judged, that is commanding
pub record Commanding (P : Plan) (s : ℕ) (ρ : Rule) : Type 0 where
  -- rule R4: what it names is a command of the present state
  pub own : (w : Run) (c : ℕ) → IsRun P s w → ρ w ≡ some c → c < P.commands (present s w)
  -- rule R6: it names a command whenever a run under it has come to an active state
  pub acts : (w : Run) → IsRun P s w → Under ρ w → active P (present s w) ≡ true → (c : ℕ) × (ρ w ≡ some c)

-- the rule has a run from s into failure
pub record Fails (P : Plan) (s : ℕ) (ρ : Rule) : Type 0 where
  pub run : Run
  pub is_run : IsRun P s run
  pub under : Under ρ run
  pub fails : RunFails P s run

-- rule R8: the rule survives every run under it of which Q holds
abbrev pub Survives : Plan → ℕ → Rule → (Run → Type 0) → Type 0
Survives P s ρ Q = (w : Run) → IsRun P s w → Under ρ w → Q w → RunHolds P s w

-- rule R10: a table of commands as a rule, which is looked up at the present state
unfoldable pub positional : (ℕ → Option ℕ) → ℕ → Rule
positional C s w = C (present s w)
