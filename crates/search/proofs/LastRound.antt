-- Which round is the last, and what it answers.
use mathlib.Core.Path.{◌≡◌, refl}
use mathlib.Core.Bool.{true, false, not, cond, ◌&&◌, ◌||◌}
use mathlib.Core.Option.{none}
use Prim.Native.Nat.{ℕ, suc, ◌<◌, ◌≤◌}
use native.Mathlib.Omega.{arith}
use Rattle.laws.specs.Sets.{grow}
use Rattle.laws.proofs.Tests.{clash, or_left, or_right}
use Rattle.laws.proofs.Sets.{lowest_some, not_before}
use Rattle.model.specs.Plan.{Plan, Valid, active}
use Rattle.model.specs.Command.{choice}
use Rattle.model.specs.Search.{reached, marked, known, without_marks, ends, before, in_rounds, search}
use Rattle.model.proofs.StateKinds.{Kind, fails, rests, acts, kind_of}
use Rattle.model.proofs.Searching.{last_round}

-- how the round after j rounds is the last one, or not
module _ (P : Plan) (a j : ℕ) where
  pub known_next : (x : ℕ) → known P a (suc j) x ≡ known P a j x || marked P (known P a j) a x
  unfolding grow
  known_next x = refl

  pub unmarked_ends : without_marks P a j ≡ true → ends P a j ≡ true
  unfolding ends
  unmarked_ends e = or_left (without_marks P a j) (known P a (suc j) a) e

  pub start_ends : known P a (suc j) a ≡ true → ends P a j ≡ true
  unfolding ends
  start_ends e = or_right (without_marks P a j) (known P a (suc j) a) e

  pub goes_on_after : without_marks P a j ≡ false → known P a (suc j) a ≡ false → ends P a j ≡ false
  unfolding ends
  goes_on_after e f = rw (e, f)

-- no round so far was the last
module _ (P : Plan) (S : Valid P) (a : ℕ) (l : a < P.states) (act : active P a ≡ true) (j : ℕ)
    (unended : (i : ℕ) → i < j → ends P a i ≡ false) where
  last : (before P a < P.states) × (ends P a (before P a) ≡ true) × ((i : ℕ) → i < before P a → ends P a i ≡ false)
  last = lowest_some (ends P a) P.states (before P a) (last_round P S a l act)

  pub not_past : j ≤ before P a
  not_past = not_before (ends P a) j (before P a) unended last.1

  pub few_rounds : j < P.states
  few_rounds = omega (arith, last.0, not_past)

  module _ (e : ends P a j ≡ true) where
    is_last : before P a ≡ j
    is_last = let le = not_before (ends P a) (before P a) j last.2 e in omega (arith, not_past)

    search_is : search P a ≡ in_rounds P a j
    unfolding search
    search_is = go (kind_of P a S l)
      where
        go : Kind P a → search P a ≡ in_rounds P a j
        go (fails f t i) = clash act i
        go (rests f t i) = clash act i
        go (acts f t i) = rw (f, t, is_last)

    pub last_lost : (search P a).lost ≡ known P a (suc j) a
    unfolding in_rounds
    last_lost = rw search_is

    pub last_rounds : (search P a).rounds ≡ suc j
    unfolding in_rounds
    last_rounds = rw search_is

    pub last_command : (x : ℕ)
        → (search P a).command x ≡ cond (not (known P a (suc j) a) && reached P (known P a j) a x) (choice P (known P a j) x) none
    unfolding in_rounds
    last_command x = rw search_is
