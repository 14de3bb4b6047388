-- The tests of the call in their order, for every input.
use mathlib.Core.Path.{◌≡◌, refl, ◌∙◌}
use mathlib.Core.Bool.{true, false}
use Prim.Native.Nat.{ℕ, ◌<◌, ◌≤◌}
use borrow.Author.Tests.{le-leb, lt-leb}
use Rattle.model.specs.Refusal.{Unsound, Stranger, Moves, given, refused}
use Rattle.model.specs.Tables.{Tables}
use Rattle.model.specs.SoundTest.{sound}
use Rattle.model.specs.Held.{plan_in}
use Rattle.model.specs.Contest.{keeper_turn, max_moves, contest_call}
use Rattle.model.proofs.StateCalls as calls
use Rattle.model.proofs.ContestCalls.{contest_tests}

pub denies_unsound : (T : Tables) (s k : ℕ) → sound T ≡ false → contest_call T s k ≡ refused Unsound
denies_unsound T s k e = contest_tests T s k ∙ calls.state_unsound T s Moves _ _ e

module _ (T : Tables) (s k : ℕ) (sounds : sound T ≡ true) where
  pub denies_stranger : T.size.n ≤ s → contest_call T s k ≡ refused Stranger
  denies_stranger l = contest_tests T s k ∙ calls.state_stranger T s Moves _ _ sounds l

  module _ (inside : s < T.size.n) where
    pub denies_moves : max_moves < k → contest_call T s k ≡ refused Moves
    denies_moves m = contest_tests T s k ∙ calls.state_own T s Moves _ _ sounds inside (lt-leb k max_moves m)

    pub grants : k ≤ max_moves → contest_call T s k ≡ given (keeper_turn (plan_in T) k s)
    grants m = contest_tests T s k ∙ (calls.state_given T s Moves _ _ _).1 (sounds, inside, le-leb k max_moves m, refl)

-- what the tests of `admit` come to
pub ruleset admitting = (denies_stranger, denies_moves, grants)
