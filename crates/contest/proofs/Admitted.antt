-- Where the call goes on: what its parts ask for.
use mathlib.Core.Path.{◌≡◌}
use mathlib.Core.List.{List}
use Prim.Native.Nat.{ℕ, ◌*◌, ◌<◌, ◌≤◌}
use native.Mathlib.Omega.{arith}
use lib.ListN.{length, replicate, get_or-replicate, length-replicate}
use Rattle.std.specs.Prelude.{Bool, Option, None}
use Rattle.model.specs.File.{max_states}
use Rattle.model.specs.Refusal.{given}
use Rattle.model.specs.Held.{plan_in}
use Rattle.model.specs.Contest.{keeper_turn, max_moves, contest_call}
use Rattle.model.proofs.ContestCalls.{ContestAnswers, contest_iff}
use Rattle.tables.specs.declared.sound_plan.SoundPlan.{SoundPlan}
use Rattle.tables.specs.Meaning.{lent}
use Rattle.tables.proofs.SoundPlans.{plan_ready}
use Rattle.nets.specs.Nets.{Initialized}
use Rattle.contest.specs.Laid.{laid_plan, Laid}
use Rattle.contest.specs.Memo.{memo_place, kept, Told}
use Rattle.contest.proofs.Memos.{none_told}
use Rattle.contest.proofs.Laying.{laid}

-- the tables that the call makes
abbrev empty : List ℕ
empty = replicate max_states 0

abbrev no_turns : List (Option Bool)
no_turns = replicate (9 * max_states) None

module _ (p : SoundPlan) (s k : ℕ) (answers : contest_call (lent p.plan) s k ≡ given (keeper_turn (plan_in (lent p.plan)) k s)) where
  passed : ContestAnswers (lent p.plan) s k (keeper_turn (plan_in (lent p.plan)) k s)
  passed = (contest_iff (lent p.plan) s k _).0 answers

  pub admitted_inside : (s < p.plan.size.n) × (k ≤ max_moves)
  admitted_inside = (passed.inside, passed.few)

  pub admitted_unknown : kept no_turns s k ≡ None
  admitted_unknown = get_or-replicate (9 * max_states) (memo_place s k) None None (omega (arith, (plan_ready p).few, passed.inside, passed.few))

module _ (p : SoundPlan) {seeds froms tos places : List ℕ}
    (v : Initialized (lent p.plan) p.plan.size.n empty empty empty empty seeds froms tos places) where
  pub admitted_laid : Laid p.plan.size seeds froms tos p.plan.firsts.now p.plan.outcomes.now
  admitted_laid =
      let long : p.plan.size.n ≤ length empty = omega (arith, (plan_ready p).few, length-replicate {A = ℕ} max_states 0) in
      laid _ _ _ _ p.sounds v long long long

  pub admitted_told : Told (laid_plan p.plan.size seeds froms tos p.plan.firsts.now p.plan.outcomes.now) p.plan.size.n no_turns
  admitted_told = none_told _ p.plan.size.n (9 * max_states) (omega (arith, (plan_ready p).few))
