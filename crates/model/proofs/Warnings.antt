-- The warning time beside ranks and operating rules.
use mathlib.Core.Path.{◌≡◌, refl, ap, ◌∙◌}
use mathlib.Core.Bool.{true, not}
use mathlib.Core.Logic.{◌↔◌}
use mathlib.Core.Option.{Option, none, some}
use Prim.Native.Nat.{ℕ, ◌*◌, ◌<◌, ◌≤◌}
use native.Mathlib.Nat.{zero-mul, eq_of_mul-eq-mul_right, mul-le-mul, mul-le-mul_right, lt_of_mul-lt-mul_right}
use native.Mathlib.Omega.{arith}
use borrow.Author.Tests.{not-true}
use Rattle.laws.specs.Sets.{grow}
use Rattle.laws.proofs.Sets.{found_none}
use Rattle.model.specs.Plan.{Plan, Valid, failing}
use Rattle.model.specs.Run.{moves}
use Rattle.model.specs.Rule.{Rule, Commanding, Fails, Survives}
use Rattle.model.specs.Verdict.{rank, lost, safe}
use Rattle.model.specs.File.{max_states}
use Rattle.model.specs.Warning.{Time, time_of, no_time, warning, longest_move, in_seconds, Exact}
use Rattle.model.proofs.Layers.{rank_some, rank_safe, rank_below}
use Rattle.model.proofs.Deciding.{rank_within, delaying, delaying_commanding, delaying_survives}
use Rattle.model.proofs.Stuck.{failing_ranked}

-- ---- times

module _ (x : ℕ) where
  time_exact : in_seconds (time_of x) ≡ x
  unfolding time_of
  time_exact = omega arith

  pub time_left : (time_of x).seconds < 60
  unfolding time_of
  time_left = omega arith

-- the most seconds in all, by the highest rank and the longest move
pub longest : (r d : ℕ) → r < max_states → d ≤ longest_move → r * d ≤ 3682800
longest r d h k = let low : r ≤ 1023 = omega arith in mul-le-mul low k

-- so the minutes fit in 16 bits
time_fits : (x : ℕ) → x ≤ 3682800 → ((time_of x).minutes ≤ 61380) × (in_seconds (time_of x) ≤ 3682800)
unfolding time_of
time_fits x h = (omega arith, omega arith)

-- ---- ranks

-- no limit is for no rank alone
pub unlimited : (o : Option ℕ) (d : ℕ) → (warning o d ≡ none) ↔ (o ≡ none)
unfolding warning
unlimited none d = (λ e. refl, λ e. refl)
unlimited (some r) d = (λ e. cc, λ e. cc)

-- a time is that of a rank
pub limited : (o : Option ℕ) (d : ℕ) (t : Time) → warning o d ≡ some t → (r : ℕ) × (o ≡ some r) × (t ≡ time_of (r * d))
unfolding warning
limited none d t e = let z : ◌≡◌ {A = ℕ} 0 1 = cc in absurd (omega arith)
limited (some r) d t e = (r, refl, cc)

pub limit_exact : (o : Option ℕ) (d : ℕ) (t : Time) → warning o d ≡ some t → Exact o d t
limit_exact o d t e = let (r, q, is) = limited o d t e in (r, q, ap in_seconds is ∙ time_exact (r * d))

module _ (P : Plan) (s d : ℕ) where
  -- rule W3
  pub warned_safe : (warning (rank P s) d ≡ none) ↔ (safe P s ≡ true)
  unfolding safe lost
  warned_safe = (
    λ e. ap not (rank_safe P s ((unlimited (rank P s) d).0 e)),
    λ e. (unlimited (rank P s) d).1 (found_none (rank P s) (not-true (lost P s) e)),
  )

  -- rule W7
  module _ (t : Time) (e : warning (rank P s) d ≡ some t) where
    pub warned_within : (ρ : Rule) → Commanding P s ρ → (f : Fails P s ρ) × (moves f.run * d ≤ in_seconds t)
    warned_within ρ C =
        let (r, q, is) = limit_exact (rank P s) d t e in
        let (f, few) = rank_within P s ρ C r q in
        (f, rw is (mul-le-mul_right d few))

    pub warned_later : (ρ : Rule) × Commanding P s ρ × Survives P s ρ (λ w. moves w * d < in_seconds t)
    warned_later =
        let (r, q, is) = limit_exact (rank P s) d t e in (
          delaying P s r,
          delaying_commanding P s r,
          λ w i u sooner.
              let fewer : moves w < r = lt_of_mul-lt-mul_right d (rw is at sooner) in
              delaying_survives P s r q (omega arith) w i u (omega arith),
        )

module _ (P : Plan) (S : Valid P) (s : ℕ) (l : s < P.states) (d : ℕ) where
  -- rule W5
  pub warned_fits : P.states ≤ max_states → d ≤ longest_move → (t : Time) → warning (rank P s) d ≡ some t
      → (t.minutes ≤ 61380) × (in_seconds t ≤ 3682800)
  warned_fits few h t e =
      let (r, q, is) = limited (rank P s) d t e in
      rw is (time_fits (r * d) (longest r d (omega (arith, rank_below P S s r l q)) h))

  -- rule W6
  module _ (h : 0 < d) where
    no_time_lem : warning (rank P s) d ≡ some no_time → failing P s ≡ true
    unfolding grow
    no_time_lem e =
        let (r, q, is) = limit_exact (rank P s) d _ e in
        let none_left : r * d ≡ 0 * d = omega (arith, is) in
        (rank_some P s 0 (rw (eq_of_mul-eq-mul_right d h r 0 none_left) at q)).0

    pub warned_failing : (warning (rank P s) d ≡ some no_time) ↔ (failing P s ≡ true)
    unfolding warning time_of
    warned_failing = (no_time_lem, λ f. rw (failing_ranked P S s l f, zero-mul d))
