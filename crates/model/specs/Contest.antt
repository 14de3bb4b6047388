-- The contest over a few moves (docs/SPECIFICATION.md, part M): the keeper's turn and the works' turn, and the call.
use Rattle.std.specs.Prelude.{◌≡◌, Bool, true, not, ◌&&◌, ◌||◌, List, ◌⊎◌, ◌↔◌, ℕ, zero, suc, ◌<◌, ◌≤◌, leb, ltb}
use Rattle.std.proofs.Math.Option.{Option, none, some}
use Rattle.laws.specs.Sets.{each, exists}
use Rattle.model.specs.Plan.{Plan, failing, resting}
use Rattle.model.specs.Run.{moves}
use Rattle.model.specs.Rule.{Rule, Commanding, Survives}
use Rattle.model.specs.Verdict.{rank, safe}
use Rattle.model.specs.Refusal.{Unsound, Stranger, Moves, Answer, given, need, ◌>>◌}
use Rattle.model.specs.Tables.{Tables}
use Rattle.model.specs.SoundTest.{sound}
use Rattle.model.specs.Held.{plan_in}
use Rattle.model.specs.Calls.{decide_call}
use Rattle.model.specs.Demand3.{read_entry}

-- rule M3: the works' turn after the command c of s, by which turns of the keeper are held with the moves left then
unfoldable pub works_turn : Plan → (ℕ → Bool) → ℕ → ℕ → Bool
works_turn P held s c = each held (P.outcomes s c)

-- rules M2 and M4: the keeper's turn with so many moves left, at the state s
unfoldable pub keeper_turn : Plan → ℕ → ℕ → Bool
keeper_turn P zero s = not (failing P s)
keeper_turn P (suc k) s = not (failing P s) && (resting P s || exists (works_turn P (keeper_turn P k) s) (P.commands s))

-- rule M5
abbrev pub max_moves : ℕ
max_moves = 8

-- rules C9, E17 and E22: the plan is sound, then it has the state, then the moves are not too many. No table is lent to be written.
unfoldable pub contest_call : Tables → ℕ → ℕ → Answer Bool
contest_call T s k = do
  need Unsound (sound T)
  need Stranger (ltb s T.size.n)
  need Moves (leb k max_moves)
  given (keeper_turn (plan_in T) k s)

-- it is a number above k
abbrev pub Exceeds : Option ℕ → ℕ → Type 0
Exceeds rank k = (r : ℕ) × (rank ≡ some r) × (k < r)

-- What it means that the contest at s over k moves is answered so.
pub record Contested (T : Tables) (s k : ℕ) (held : Bool) : Type 0 where
  -- rule M6: it is held at safe states, at lost ones of a rank above k, and nowhere else
  pub exactly : (held ≡ true) ↔ ((safe (plan_in T) s ≡ true) ⊎ Exceeds (rank (plan_in T) s) k)
  -- and so by the ranks that deciding leaves, whatever tables it is lent on the same plan, if it answers
  pub by_ranks : (ranks commands marks scratch : List ℕ) (counts : List (List ℕ))
      → let D = decide_call T ranks commands marks scratch in
      D.answers ≡ given counts
      → (held ≡ true) ↔ ((read_entry D.ranks s ≡ none) ⊎ Exceeds (read_entry D.ranks s) k)
  -- rule M7: what is held with more moves is held with fewer
  pub fewer : held ≡ true → (j : ℕ) → j ≤ k → contest_call T s j ≡ given true
  -- rule M8: it is held if and only if some commanding rule survives every run of at most k moves
  pub by_rules : (held ≡ true) ↔ ((ρ : Rule) × Commanding (plan_in T) s ρ × Survives (plan_in T) s ρ (λ w. moves w ≤ k))
