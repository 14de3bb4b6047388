-- Where the call goes on: what its parts ask for, and what its answer means.
use mathlib.Core.Path.{◌≡◌, ap, ◌∙◌}
use mathlib.Core.List.{List}
use mathlib.Core.Option.{some}
use Prim.Native.Nat.{ℕ, ◌<◌, ◌≤◌}
use native.Mathlib.Omega.{arith}
use lib.ListN.{length, get_or, replicate, length-replicate}
use Rattle.laws.specs.Entry.{from_entry}
use Rattle.model.specs.Verdict.{rank}
use Rattle.model.specs.Refusal.{given}
use Rattle.model.specs.File.{max_states}
use Rattle.model.specs.Tables.{Tables}
use Rattle.model.specs.Held.{plan_in}
use Rattle.model.specs.Warning.{warning, longest_move, warning_call}
use Rattle.model.proofs.HeldPlan.{states_held}
use Rattle.model.proofs.Valid.{sound_valid}
use Rattle.model.proofs.Layers.{rank_below}
use Rattle.model.proofs.Delivered.{rank_of_entry}
use Rattle.model.proofs.WarningCalls.{WarningAnswers, warning_iff}
use Rattle.tables.specs.declared.sound_plan.SoundPlan.{SoundPlan}
use Rattle.tables.specs.Meaning.{lent}
use Rattle.tables.proofs.SoundPlans.{plan_ready}
use Rattle.nets.specs.Found.{Found}

-- the tables that the call makes
abbrev empty : List ℕ
empty = replicate max_states 0

module _ (p : SoundPlan) (s d : ℕ) (answers : warning_call (lent p.plan) s d ≡ given (warning (rank (plan_in (lent p.plan)) s) d))
    {ranks tos fails scratch : List ℕ} (v : Found (lent p.plan) empty empty empty empty ranks tos fails scratch) where
  abbrev T : Tables
  T = lent p.plan

  passed : WarningAnswers T s d (warning (rank (plan_in T) s) d)
  passed = (warning_iff T s d _).0 answers

  entry_read : from_entry (get_or ranks s 0) ≡ rank (plan_in T) s
  entry_read = ap from_entry (v.ranked.low s passed.inside) ∙ rank_of_entry T p.sounds s

  pub admitted_bounds : (s < length ranks) × (d ≤ longest_move)
  admitted_bounds = (
    omega (arith, passed.inside, (plan_ready p).few, v.ranked.same, length-replicate {A = ℕ} max_states 0),
    passed.few_seconds,
  )

  pub admitted_rank : (r : ℕ) → from_entry (get_or ranks s 0) ≡ some r → r < max_states
  admitted_rank r e =
      let below = rank_below (plan_in T) (sound_valid T p.sounds) s r (rw (states_held T) passed.inside) (rw entry_read at e) in
      omega (arith, below, states_held T, (plan_ready p).few)

  pub admitted_gives : warning_call T s d ≡ given (warning (from_entry (get_or ranks s 0)) d)
  admitted_gives = rw entry_read answers
