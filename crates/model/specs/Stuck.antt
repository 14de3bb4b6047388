-- What becomes of a stuck state, one that is ordinary and has no command (docs/SPECIFICATION.md, rule P10).
use Rattle.std.specs.Prelude.{◌≡◌, Bool, true, false, not, ◌&&◌, List, ℕ, ◌+◌, ◌<◌, get_or}
use Rattle.std.proofs.Math.Option.{none, some}
use Rattle.laws.specs.Sets.{how_many}
use Rattle.laws.specs.Entry.{FFFF}
use Rattle.model.specs.Plan.{Plan, stuck, has_practice}
use Rattle.model.specs.Run.{Move, Run, present, moves, CanMove, RunFails}
use Rattle.model.specs.Rule.{Rule, Fails}
use Rattle.model.specs.Verdict.{rank, lost}
use Rattle.model.specs.Command.{chosen}
use Rattle.model.specs.Practice.{mark}
use Rattle.model.specs.Search.{known, search}
use Rattle.model.specs.Contest.{keeper_turn}

-- by the definitions
pub record StuckState (P : Plan) (s : ℕ) : Type 0 where
  -- rules V1, V4 and V7: it is lost with rank 0, and no command is chosen
  pub ranked : rank P s ≡ some 0
  pub unchosen : chosen P s ≡ none
  -- rules R3 and R7: each run that has come to it fails and goes no further, and under each rule there is such a run from it, of no moves
  pub ends_runs : (a : ℕ) (w : Run) → present a w ≡ s → RunFails P a w
  pub no_move : (m : Move) → CanMove P s m → ⊥
  pub fails_at_once : (ρ : Rule) → (f : Fails P s ρ) × (moves f.run ≡ 0)
  -- rule V13: the practice fails, and it is no fault
  pub marked : mark P s ≡ 1
  -- rules V14 and V15: it is counted among the lost states, and there among those without a practice
  pub counted : (lost P s ≡ true) × (has_practice P s ≡ false)
  -- rule S3: it is known before the first round, wherever the search starts
  pub known_at_first : (a : ℕ) → known P a 0 s ≡ true
  -- rule S4: so the last walk does not come to it, if the start is safe
  pub avoided : (a : ℕ) → a < P.states → (search P a).lost ≡ false → (search P a).reached s ≡ false
  -- rule S11: no search has a command for it
  pub untaken : (a : ℕ) → (search P a).command s ≡ none
  -- rules S2 and S11: a search from it walks no round and has no commands
  pub searched : ((search P s).lost ≡ true) × ((search P s).rounds ≡ 0) × ((x : ℕ) → (search P s).command x ≡ none)
  -- rule M4: the keeper does not hold it, however many moves are left
  pub not_held : (k : ℕ) → keeper_turn P k s ≡ false

-- in the tables that deciding leaves (rule C4)
pub record StuckEntries (ranks commands marks : List ℕ) (s : ℕ) : Type 0 where
  pub rank_entry_lem : get_or ranks s FFFF ≡ 0
  pub command_entry_lem : get_or commands s 0 ≡ FFFF
  pub mark_entry_lem : get_or marks s 0 ≡ 1

-- in its tally (rules V14 and V15): the third count of lost states is that of the stuck ones and of the others without a practice
abbrev pub StuckCounted : Plan → ℕ → Type 0
StuckCounted P count =
    count ≡ how_many (stuck P) P.states + how_many (λ s. not (stuck P s) && lost P s && not (has_practice P s)) P.states

-- in what a search from the state a answers, and in the n commands that it leaves (rule C5)
pub record StuckSearched (n s a : ℕ) (verdict : Bool) (rounds : ℕ) (commands : List ℕ) : Type 0 where
  pub untaken_entry : get_or commands s 0 ≡ FFFF
  pub from_it : a ≡ s → (verdict ≡ true) × (rounds ≡ 0) × ((x : ℕ) → x < n → get_or commands x 0 ≡ FFFF)
