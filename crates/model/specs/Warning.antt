-- The warning time (docs/SPECIFICATION.md, part W): a rank as minutes and seconds, and the call.
use Rattle.std.specs.Prelude.{◌≡◌, Bool, true, ◌&&◌, List, ◌↔◌, ℕ, ◌+◌, ◌*◌, ◌/◌, ◌%◌, ◌<◌, ◌≤◌, leb, ltb}
use Rattle.std.proofs.Math.Option.{Option, none, some}
use Rattle.model.specs.Plan.{failing}
use Rattle.model.specs.Run.{moves}
use Rattle.model.specs.Rule.{Rule, Commanding, Fails, Survives}
use Rattle.model.specs.Verdict.{rank, safe}
use Rattle.model.specs.Refusal.{Unsound, Stranger, Seconds, Answer, given, need, ◌>>◌}
use Rattle.model.specs.Tables.{Tables}
use Rattle.model.specs.SoundTest.{sound}
use Rattle.model.specs.Held.{plan_in}
use Rattle.model.specs.Calls.{decide_call}
use Rattle.model.specs.Demand3.{read_entry}

-- whole minutes, and the seconds left over
pub record Time : Type 0 where
  pub minutes : ℕ
  pub seconds : ℕ

-- rule W2: so many seconds as a time
unfoldable pub time_of : ℕ → Time
time_of x = record { minutes = x / 60; seconds = x % 60 }

-- rule W6: what a failing state has
abbrev pub no_time : Time
no_time = record { minutes = 0; seconds = 0 }

-- rules W2 and W3: the warning time of a rank, where a move takes so many seconds; none is no limit
unfoldable pub warning : Option ℕ → ℕ → Option Time
warning none seconds = none
warning (some r) seconds = some (time_of (r * seconds))

-- rule W4: how many seconds a move may take
abbrev pub longest_move : ℕ
longest_move = 3600

abbrev pub length_allowed : ℕ → Bool
length_allowed seconds = leb 1 seconds && leb seconds longest_move

-- rules C10, E17 and E23: the plan is sound, then it has the state, then the move length is allowed. No table is lent to be written.
unfoldable pub warning_call : Tables → ℕ → ℕ → Answer (Option Time)
warning_call T s seconds = do
  need Unsound (sound T)
  need Stranger (ltb s T.size.n)
  need Seconds (length_allowed seconds)
  given (warning (rank (plan_in T) s) seconds)

-- ---- what an answer means

-- all of a time, in seconds
abbrev pub in_seconds : Time → ℕ
in_seconds t = t.minutes * 60 + t.seconds

-- rule W2: there is a rank, and the time is the rank times the move length, to the second
abbrev pub Exact : Option ℕ → ℕ → Time → Type 0
Exact rank seconds t = (r : ℕ) × (rank ≡ some r) × (in_seconds t ≡ r * seconds)

-- What it means that the warning time at s, where a move takes so many seconds, is answered so.
pub record Warned (T : Tables) (s seconds : ℕ) (answer : Option Time) : Type 0 where
  -- rule W3: no limit is answered at safe states, and nowhere else
  pub no_limit : (answer ≡ none) ↔ (safe (plan_in T) s ≡ true)
  -- rule W2
  pub exact : (t : Time) → answer ≡ some t → Exact (rank (plan_in T) s) seconds t
  pub left_over : (t : Time) → answer ≡ some t → t.seconds < 60
  -- rule W5: the most minutes, and the most seconds in all
  pub fits : (t : Time) → answer ≡ some t → (t.minutes ≤ 61380) × (in_seconds t ≤ 3682800)
  -- rule W8: W2 and W3 by the ranks that deciding leaves, whatever tables it is lent on the same plan, if it answers
  pub by_ranks : (ranks commands marks scratch : List ℕ) (counts : List (List ℕ))
      → let D = decide_call T ranks commands marks scratch in
      D.answers ≡ given counts
      → ((answer ≡ none) ↔ (read_entry D.ranks s ≡ none)) × ((t : Time) → answer ≡ some t → Exact (read_entry D.ranks s) seconds t)
  -- rule W6: 0 minutes and 0 seconds are answered at failing states, and nowhere else
  pub at_once_lem : (answer ≡ some no_time) ↔ (failing (plan_in T) s ≡ true)
  -- rule W7: each commanding rule has a failing run whose moves take no longer than the time
  pub within : (t : Time) → answer ≡ some t → (ρ : Rule) → Commanding (plan_in T) s ρ
      → (f : Fails (plan_in T) s ρ) × (moves f.run * seconds ≤ in_seconds t)
  -- and some commanding rule survives every run whose moves take less
  pub not_sooner : (t : Time) → answer ≡ some t
      → (ρ : Rule) × Commanding (plan_in T) s ρ × Survives (plan_in T) s ρ (λ w. moves w * seconds < in_seconds t)
