-- The tests of the call in their order, and what it answers, for every input.
use mathlib.Core.Path.{◌≡◌, refl}
use mathlib.Core.Bool.{true, ◌&&◌}
use mathlib.Core.List.{List}
use Prim.Native.Nat.{ℕ, ◌≤◌}
use native.Mathlib.Nat.{zero-add}
use native.Mathlib.Omega.{arith}
use lib.Dec.{leb}
use lib.ListN.{length}
use Rattle.laws.proofs.TestFacts.{and_iff, leb_iff}
use Rattle.laws.proofs.Tests.{same_test}
use Rattle.model.specs.Refusal.{given}
use Rattle.model.specs.File.{max_states}
use Rattle.model.specs.Carry.{carried, carry_sound, carrying}
use Rattle.model.proofs.CarryCalls.{carry_sound_iff, carrying_iff, carrying_unsound, carrying_cramped}
use Rattle.tables.specs.Lasts.{rises_below}
use Rattle.tables.proofs.Lasts.{rises_below_iff}

-- the map by the test of entries that rise
pub fits_is : (n : ℕ) (olds : List ℕ) (entries : ℕ)
    → carry_sound n olds entries ≡ (leb 1 n && leb n max_states && leb (length olds) entries && rises_below n olds 0 (length olds))
fits_is n olds entries =
    same_test _ _
    (λ e.
    let f = (carry_sound_iff n olds entries).0 e in
    let rise = (rises_below_iff n olds 0 (length olds)).1 (λ d l. rw (zero-add d) (f.next d (omega arith)), λ j p q. f.below j q) in
    simp (and_iff, leb_iff) (((f.some, f.few), f.long), rise))
    (λ e.
    let h = simp (and_iff, leb_iff) at e in
    let (sorted, below) = (rises_below_iff n olds 0 (length olds)).0 h.1 in
    (carry_sound_iff n olds entries).1 (record {
      some = h.0.0.0;
      few = h.0.0.1;
      next = λ i l. rw (zero-add i) at (sorted i (omega arith));
      below = λ i l. below i (omega arith) l;
      long = h.0.1;
    }))

pub grants : (n : ℕ) (olds table : List ℕ) (places : ℕ) → carry_sound n olds (length table) ≡ true → n ≤ places
    → carrying n olds table places ≡ given (carried n olds table)
grants n olds table places f l = (carrying_iff n olds table places (carried n olds table)).1 (f, l, refl)

-- what the tests of `admit` come to
pub ruleset admitting = (carrying_unsound, carrying_cramped, grants)
