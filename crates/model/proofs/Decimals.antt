-- The digits of a number, one by one, and how many they are.
use mathlib.Core.Path.{◌≡◌, refl, sym, ap, ◌∙◌}
use mathlib.Core.Logic.{⊎_elim}
use mathlib.Core.List.{[], ◌∷◌, ◌++◌}
use Prim.Native.Nat.{ℕ, zero, suc, ◌+◌, ◌*◌, ◌/◌, ◌<◌, ◌≤◌}
use native.Mathlib.Omega.{arith}
use lib.Dec.{ltb}
use lib.ListN.{length, length-append}
use borrow.Author.Tests.{lt-ltb, le-ltb, ltb-true, ltb-false}
use Rattle.laws.proofs.Tests.{true_or_false}
use Rattle.model.specs.Listing.{last_digit, digits, decimal}

-- a number below ten, and one that is not
module _ (k x : ℕ) where
  pub digits_one : x < 10 → digits (suc k) x ≡ last_digit x ∷ []
  unfolding digits
  digits_one h = rw (lt-ltb x 10 h)

  pub digits_more : 10 ≤ x → digits (suc k) x ≡ digits k (x / 10) ++ last_digit x ∷ []
  unfolding digits
  digits_more h = rw (le-ltb x 10 h)

digits_none : (x : ℕ) → digits 0 x ≡ []
unfolding digits
digits_none x = refl

pub more_length : (k x : ℕ) → 10 ≤ x → length (digits (suc k) x) ≡ length (digits k (x / 10)) + 1
more_length k x h = ap length (digits_more k x h) ∙ length-append (digits k (x / 10)) (last_digit x ∷ [])

digits_length : (k x : ℕ) → length (digits k x) ≤ k
digits_length zero x = omega (arith, ap length (digits_none x))
digits_length (suc k) x =
    ⊎_elim (λ e. omega (arith, ap length (digits_one k x (ltb-true x 10 e))))
    (λ e. omega (arith, more_length k x (ltb-false x 10 e), digits_length k (x / 10)))
    (true_or_false (ltb x 10))

-- no number takes more than six
pub decimal_length : (x : ℕ) → length (decimal x) ≤ 6
unfolding decimal
decimal_length x = digits_length 6 x

-- 10 to the power k, the least number of more than k digits
unfoldable pub ten_to : ℕ → ℕ
ten_to zero = 1
ten_to (suc k) = 10 * ten_to k

-- room for a further digit changes nothing
digits_enough : (k x : ℕ) → x < ten_to (suc k) → digits (suc (suc k)) x ≡ digits (suc k) x
unfolding ten_to
digits_enough zero x h = digits_one 1 x h ∙ sym (digits_one 0 x h)
digits_enough (suc k) x h =
    ⊎_elim (λ e. let l = ltb-true x 10 e in digits_one (suc (suc k)) x l ∙ sym (digits_one (suc k) x l))
    (λ e. let l = ltb-false x 10 e in
    digits_more (suc (suc k)) x l ∙ rw (digits_enough k (x / 10) (omega arith)) (sym (digits_more (suc k) x l)))
    (true_or_false (ltb x 10))

module _ (x : ℕ) where
  pub decimal_one : x < 10 → decimal x ≡ last_digit x ∷ []
  unfolding decimal
  decimal_one h = digits_one 5 x h

  pub decimal_more : 10 ≤ x → x < 1000000 → decimal x ≡ decimal (x / 10) ++ last_digit x ∷ []
  unfolding decimal ten_to
  decimal_more l h = digits_more 5 x l ∙ rw (digits_enough 4 (x / 10) (omega arith))

  -- with a digit to spare
  pub decimal_short : x < 100000 → length (decimal x) ≤ 5
  unfolding decimal ten_to
  decimal_short h = rw (digits_enough 4 x h) (digits_length 5 x)
