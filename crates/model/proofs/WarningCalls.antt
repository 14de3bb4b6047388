-- The tests of the warning time, when it is answered, and what the answer means.
use mathlib.Core.Path.{◌≡◌, refl}
use mathlib.Core.Bool.{true, false}
use mathlib.Core.Logic.{◌⊎◌, inl, inr, ⊎_elim, ◌↔◌}
use mathlib.Core.Option.{Option}
use Prim.Native.Nat.{ℕ, ◌*◌, ◌<◌, ◌≤◌}
use native.Mathlib.Omega.{arith}
use lib.Dec.{leb}
use borrow.Author.Tests.{lt-leb, le-leb, leb-false}
use Rattle.laws.proofs.Tests.{and_both, and_join}
use Rattle.laws.proofs.TestFacts.{leb_iff}
use Rattle.model.specs.Verdict.{rank}
use Rattle.model.specs.Refusal.{Seconds, given}
use Rattle.model.specs.Tables.{Tables}
use Rattle.model.specs.SoundTest.{sound}
use Rattle.model.specs.Held.{plan_in}
use Rattle.model.specs.Warning.{Time, warning, longest_move, length_allowed, warning_call, Warned}
use Rattle.model.proofs.OnlyRefused.{either}
use Rattle.model.proofs.StateCalls.{state_call, state_given}
use Rattle.model.proofs.HeldPlan.{states_held}
use Rattle.model.proofs.SoundFacts.{sound_facts}
use Rattle.model.proofs.Valid.{sound_valid}
use Rattle.model.proofs.Delivered.{entries_read}
use Rattle.model.proofs.Warnings.{
  time_left,
  unlimited,
  limited,
  limit_exact,
  warned_safe,
  warned_fits,
  warned_failing,
  warned_within,
  warned_later,
}

-- the test of the move length
module _ (d : ℕ) where
  pub length_allowed_lem : (length_allowed d ≡ true) ↔ ((0 < d) × (d ≤ longest_move))
  length_allowed_lem = (
    λ e. let (a, b) = and_both (leb 1 d) (leb d longest_move) e in ((leb_iff _ _).0 a, (leb_iff _ _).0 b),
    λ (a, b). and_join (leb 1 d) (leb d longest_move) ((leb_iff _ _).1 a) ((leb_iff _ _).1 b),
  )

  pub length_refused : (length_allowed d ≡ false) ↔ ((d ≡ 0) ⊎ (longest_move < d))
  length_refused = (
    λ e.
        ⊎_elim (λ a. inl (omega (arith, leb-false 1 d a))) (λ b. inr (leb-false d longest_move b))
        (either (leb 1 d) (leb d longest_move) e),
    ⊎_elim (λ z. rw z) (λ h. rw (le-leb 1 d (omega arith), lt-leb d longest_move h)),
  )

module _ (T : Tables) (s d : ℕ) where
  -- the tests of the call
  pub warning_tests : warning_call T s d ≡ state_call T s Seconds (length_allowed d) (warning (rank (plan_in T) s) d)
  unfolding warning_call
  warning_tests = refl

  pub record WarningAnswers (answer : Option Time) : Type 0 where
    pub sounds : sound T ≡ true
    pub inside : s < T.size.n
    pub some_length : 0 < d
    pub few_seconds : d ≤ longest_move
    pub is : warning (rank (plan_in T) s) d ≡ answer

  pub warning_iff : (answer : Option Time) → (warning_call T s d ≡ given answer) ↔ WarningAnswers answer
  warning_iff answer = rw warning_tests (
    λ e.
        let (a, b, c, q) = (state_given T s Seconds (length_allowed d) (warning (rank (plan_in T) s) d) answer).0 e in
        let (x, y) = (length_allowed_lem d).0 c in
        record { sounds = a; inside = b; some_length = x; few_seconds = y; is = q },
    λ h.
        (state_given T s Seconds (length_allowed d) (warning (rank (plan_in T) s) d) answer).1
        (h.sounds, h.inside, (length_allowed_lem d).1 (h.some_length, h.few_seconds), h.is),
  )

-- ---- what is meant

pub warned : (T : Tables) (s d : ℕ) (answer : Option Time) → warning_call T s d ≡ given answer → Warned T s d answer
warned T s d answer e =
    let w = (warning_iff T s d answer).0 e in
    let P = plan_in T in
    let S = sound_valid T w.sounds in
    let l : s < (plan_in T).states = rw (states_held T) w.inside in
    rw (← w.is) record {
      no_limit = warned_safe P s d;
      exact = limit_exact (rank P s) d;
      left_over = λ t q. let (r, _, is) = limited (rank P s) d t q in rw is (time_left (r * d));
      fits = warned_fits P S s l d (rw (states_held T) ((sound_facts T).0 w.sounds).size.few) w.few_seconds;
      by_ranks = λ ranks commands marks scratch counts q.
          rw (entries_read T ranks commands marks scratch counts q s w.inside).0 (unlimited (rank P s) d, limit_exact (rank P s) d);
      at_once_lem = warned_failing P S s l d w.some_length;
      within = warned_within P s d;
      not_sooner = warned_later P s d;
    }
