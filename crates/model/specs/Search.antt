-- The search from a start a that the caller names (docs/SPECIFICATION.md, part S).
-- The order in which a round walks is free (rule U1): what it reaches, takes and marks does not depend on it.
use Rattle.std.specs.Prelude.{Bool, true, false, not, cond, ◌&&◌, ◌||◌, ℕ, suc, eqb}
use Rattle.std.proofs.Math.Option.{Option, none, some, get_or}
use Rattle.laws.specs.Sets.{any, every, exists, lowest, found, how_many, grow}
use Rattle.model.specs.Plan.{Plan, failing, active, resting}
use Rattle.model.specs.Command.{choice}

-- rule S4: x is an outcome of the command taken at t, where one is taken
unfoldable pub lands : Plan → ℕ → Option ℕ → ℕ → Bool
lands P t none x = false
lands P t (some c) x = any (eqb x) (P.outcomes t c)

-- x is an outcome of the command taken at some state of W
unfoldable pub next : Plan → (ℕ → Bool) → (ℕ → Bool) → ℕ → Bool
next P K W x = exists (λ t. W t && lands P t (choice P K t) x) P.states

-- rule S7: the start, and the states at which a walk from there continues, with the states of K known
abbrev pub reached : Plan → (ℕ → Bool) → ℕ → ℕ → Bool
reached P K a = grow (next P K) (eqb a) P.states

-- rule S5: it is reached and has commands, and none of them can be taken
unfoldable pub marked : Plan → (ℕ → Bool) → ℕ → ℕ → Bool
marked P K a s = reached P K a s && active P s && not (found (choice P K s))

-- rules S3 and S9: what is known after j rounds
abbrev pub known : Plan → ℕ → ℕ → ℕ → Bool
known P a = grow (λ K. marked P K a) (failing P)

-- the round after j rounds marks no state
unfoldable pub without_marks : Plan → ℕ → ℕ → Bool
without_marks P a j = every (λ s. not (marked P (known P a j) a s)) P.states

-- the round after j rounds ends the search (rules S8, S9): it is without marks, or the start is known at its end
unfoldable pub ends : Plan → ℕ → ℕ → Bool
ends P a j = without_marks P a j || known P a (suc j) a

-- how many rounds come before the last; some round up to the n-th is the last (proofs/Searching.antt, `last_round`)
unfoldable pub before : Plan → ℕ → ℕ
before P a = get_or (lowest (ends P a) P.states) 0

-- rule S10: the verdict, and how many rounds were walked
pub record Result : Type 0 where
  pub lost : Bool
  pub rounds : ℕ
  -- what the last walk reaches, and the command table
  pub reached : ℕ → Bool
  pub command : ℕ → Option ℕ

-- no round is walked (rule S2)
unfoldable pub at_once : Bool → Result
at_once verdict = record { lost = verdict; rounds = 0; reached = λ s. false; command = λ s. none }

-- rule S11: the commands are those that the last walk takes, and there are none if the start is lost
unfoldable pub in_rounds : Plan → ℕ → ℕ → Result
in_rounds P a j = record {
  lost = known P a (suc j) a;
  rounds = suc j;
  reached = reached P (known P a j) a;
  command = λ s. cond (not (known P a (suc j) a) && reached P (known P a j) a s) (choice P (known P a j) s) none;
}

-- rules S2 and S3: rounds are walked from an active start only
unfoldable pub search : Plan → ℕ → Result
search P a = cond (failing P a) (at_once true) (cond (resting P a) (at_once false) (in_rounds P a (before P a)))

-- how many ordinary states with commands there are
unfoldable pub actives : Plan → ℕ
actives P = how_many (active P) P.states
