-- The words of entries, of marks and of refusals.
use mathlib.Core.Path.{◌≡◌, refl}
use mathlib.Core.Bool.{Bool, true, false, not, cond}
use mathlib.Core.Logic.{⊎_elim}
use mathlib.Core.List.{[], ◌∷◌}
use Prim.Native.Nat.{ℕ, ◌+◌, ◌%◌}
use lib.Dec.{eqb, leb}
use borrow.Author.Tests.{ne_eqb}
use Rattle.laws.specs.Entry.{FFFF, from_entry}
use Rattle.laws.specs.Sets.{found}
use Rattle.laws.proofs.Tests.{true_or_false}
use Rattle.model.specs.Plan.{Plan}
use Rattle.model.specs.Practice.{practice_fails, fault, mark}
use Rattle.model.specs.Listing.{decimal, number_or_dash}

pub dash_word : (e : ℕ) → e ≡ FFFF → number_or_dash (from_entry e) ≡ 45 ∷ []
unfolding number_or_dash from_entry
dash_word e h = rw h

pub number_word : (e : ℕ) → (e ≡ FFFF → ⊥) → number_or_dash (from_entry e) ≡ decimal e
unfolding number_or_dash from_entry
number_word e h = rw (ne_eqb e FFFF h)

-- an entry tells a number where it is not FFFF
pub found_entry : (e : ℕ) → found (from_entry e) ≡ not (eqb e FFFF)
unfolding found from_entry
found_entry e = ⊎_elim (λ h. rw h) (λ h. rw h) (true_or_false (eqb e FFFF))

-- the two parts of a mark
mark_parts : (fails faulty : Bool) → (eqb ((cond fails 1 0 + cond faulty 2 0) % 2) 1 ≡ fails)
    × (leb 2 (cond fails 1 0 + cond faulty 2 0) ≡ faulty)
mark_parts true true = (refl, refl)
mark_parts true false = (refl, refl)
mark_parts false true = (refl, refl)
mark_parts false false = (refl, refl)

pub mark_says : (P : Plan) (s m : ℕ) → mark P s ≡ m → (eqb (m % 2) 1 ≡ practice_fails P s) × (leb 2 m ≡ fault P s)
unfolding mark
mark_says P s m e = rw (← e) (mark_parts (practice_fails P s) (fault P s))
