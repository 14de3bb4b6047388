-- The tests of the contest, when it answers, and what its answer means.
use mathlib.Core.Path.{◌≡◌, refl}
use mathlib.Core.Bool.{Bool, true, false}
use mathlib.Core.Logic.{◌↔◌}
use Prim.Native.Nat.{ℕ, ◌<◌, ◌≤◌}
use native.Mathlib.Omega.{arith}
use lib.Dec.{leb}
use borrow.Author.Tests.{lt-leb, leb-false}
use Rattle.laws.proofs.TestFacts.{leb_iff}
use Rattle.model.specs.Refusal.{Moves, given}
use Rattle.model.specs.Tables.{Tables}
use Rattle.model.specs.SoundTest.{sound}
use Rattle.model.specs.Held.{plan_in}
use Rattle.model.specs.Contest.{keeper_turn, max_moves, contest_call, Contested}
use Rattle.model.proofs.StateCalls.{state_call, state_given}
use Rattle.model.proofs.HeldPlan.{states_held}
use Rattle.model.proofs.Valid.{sound_valid}
use Rattle.model.proofs.Delivered.{entries_read}
use Rattle.model.proofs.Contests.{turn_fewer, contest_ranked, contest_exactly, contest_rules}

-- the test of the moves
pub moves_refused : (k : ℕ) → (leb k max_moves ≡ false) ↔ (max_moves < k)
moves_refused k = (leb-false k max_moves, lt-leb k max_moves)

module _ (T : Tables) (s k : ℕ) where
  -- the tests of the call
  pub contest_tests : contest_call T s k ≡ state_call T s Moves (leb k max_moves) (keeper_turn (plan_in T) k s)
  unfolding contest_call
  contest_tests = refl

  pub record ContestAnswers (held : Bool) : Type 0 where
    pub sounds : sound T ≡ true
    pub inside : s < T.size.n
    pub few : k ≤ max_moves
    pub is : keeper_turn (plan_in T) k s ≡ held

  pub contest_iff : (held : Bool) → (contest_call T s k ≡ given held) ↔ ContestAnswers held
  contest_iff held = rw contest_tests (
    λ e.
        let (a, b, c, q) = (state_given T s Moves (leb k max_moves) (keeper_turn (plan_in T) k s) held).0 e in
        record { sounds = a; inside = b; few = (leb_iff _ _).0 c; is = q },
    λ h.
        (state_given T s Moves (leb k max_moves) (keeper_turn (plan_in T) k s) held).1
        (h.sounds, h.inside, (leb_iff _ _).1 h.few, h.is),
  )

-- ---- what is meant

pub contested : (T : Tables) (s k : ℕ) (held : Bool) → contest_call T s k ≡ given held → Contested T s k held
contested T s k held e =
    let w = (contest_iff T s k held).0 e in
    let S = sound_valid T w.sounds in
    let l : s < (plan_in T).states = rw (states_held T) w.inside in
    rw (← w.is) record {
      exactly = contest_exactly (plan_in T) S k s l;
      by_ranks = λ ranks commands marks scratch counts d.
          rw (entries_read T ranks commands marks scratch counts d s w.inside).0 (contest_ranked (plan_in T) S k s l);
      fewer = λ h j m.
          (contest_iff T s j true).1 (record {
            sounds = w.sounds;
            inside = w.inside;
            few = omega (arith, w.few);
            is = turn_fewer (plan_in T) S j k s l m h;
          });
      by_rules = contest_rules (plan_in T) S k s l;
    }
