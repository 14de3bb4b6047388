-- The tests of the call in their order, and what it answers, for every input.
use mathlib.Core.Path.{◌≡◌, refl, ◌∙◌}
use mathlib.Core.Bool.{true, false}
use mathlib.Core.Logic.{inl, inr}
use Prim.Native.Nat.{ℕ, ◌<◌, ◌≤◌}
use native.Mathlib.Omega.{arith}
use Rattle.model.specs.Verdict.{rank}
use Rattle.model.specs.Refusal.{Unsound, Stranger, Seconds, given, refused}
use Rattle.model.specs.Tables.{Tables}
use Rattle.model.specs.SoundTest.{sound}
use Rattle.model.specs.Held.{plan_in}
use Rattle.model.specs.Warning.{warning, longest_move, warning_call}
use Rattle.model.proofs.StateCalls as calls
use Rattle.model.proofs.WarningCalls.{length_allowed_lem, length_refused, warning_tests}

pub denies_unsound : (T : Tables) (s d : ℕ) → sound T ≡ false → warning_call T s d ≡ refused Unsound
denies_unsound T s d e = warning_tests T s d ∙ calls.state_unsound T s Seconds _ _ e

module _ (T : Tables) (s d : ℕ) (sounds : sound T ≡ true) where
  pub denies_stranger : T.size.n ≤ s → warning_call T s d ≡ refused Stranger
  denies_stranger l = warning_tests T s d ∙ calls.state_stranger T s Seconds _ _ sounds l

  module _ (inside : s < T.size.n) where
    pub denies_short : d < 1 → warning_call T s d ≡ refused Seconds
    denies_short z =
        warning_tests T s d ∙ calls.state_own T s Seconds _ _ sounds inside ((length_refused d).1 (inl (omega arith)))

    pub denies_long : longest_move < d → warning_call T s d ≡ refused Seconds
    denies_long m = warning_tests T s d ∙ calls.state_own T s Seconds _ _ sounds inside ((length_refused d).1 (inr m))

    pub grants : 1 ≤ d → d ≤ longest_move → warning_call T s d ≡ given (warning (rank (plan_in T) s) d)
    grants z m =
        warning_tests T s d
        ∙ (calls.state_given T s Seconds _ _ _).1 (sounds, inside, (length_allowed_lem d).1 (z, m), refl)

-- what the tests of `admit` come to
pub ruleset admitting = (denies_stranger, denies_short, denies_long, grants)
