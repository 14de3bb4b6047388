-- A number's bytes are decimal digits and tell it, and the first is 0 for the number 0 alone (rule L5).
use mathlib.Core.Path.{◌≡◌, refl, sym, ap, ◌∙◌}
use mathlib.Core.Bool.{Bool, true, false, cond}
use mathlib.Core.Logic.{⊎_elim}
use mathlib.Core.List.{List, [], ◌∷◌, ◌++◌}
use Prim.Native.Nat.{ℕ, zero, suc, ◌+◌, ◌-◌, ◌*◌, ◌/◌, ◌%◌, ◌<◌, ◌≤◌}
use native.Mathlib.Omega.{arith}
use lib.Dec.{ltb}
use lib.ListN.{length, get_or, get_or-append}
use borrow.Author.Tests.{ltb-true, ltb-false}
use Rattle.laws.proofs.All.{All, none, more, all_at, all_append}
use Rattle.laws.proofs.Tests.{true_or_false}
use Rattle.model.specs.Listing.{last_digit, digits, decimal, told}
use Rattle.model.proofs.Decimals.{digits_one, digits_more, more_length, ten_to}

-- ---- what they tell

told_append : (a : ℕ) (xs ys : List ℕ) → told a (xs ++ ys) ≡ told (told a xs) ys
unfolding told
told_append a [] ys = refl
told_append a (x ∷ xs) ys = told_append (a * 10 + (x - 48)) xs ys

told_last : (a x : ℕ) → told a (last_digit x ∷ []) ≡ a * 10 + x % 10
unfolding told last_digit
told_last a x = omega arith

told_none : (x : ℕ) → x < 1 → told 0 (digits 0 x) ≡ x
unfolding told digits
told_none x h = omega arith

told_digits : (k x : ℕ) → x < ten_to k → told 0 (digits k x) ≡ x
unfolding ten_to
told_digits zero x h = told_none x h
told_digits (suc k) x h =
    ⊎_elim (λ e. rw (digits_one k x (ltb-true x 10 e), told_last 0 x) (omega (arith, ltb-true x 10 e)))
    (λ e. rw (digits_more k x (ltb-false x 10 e), told_append 0 (digits k (x / 10)) (last_digit x ∷ []), told_last)
    (rw (told_digits k (x / 10) (omega arith)) (omega arith)))
    (true_or_false (ltb x 10))

pub number_told : (x : ℕ) → x < 1000000 → told 0 (decimal x) ≡ x
unfolding decimal ten_to
number_told x h = told_digits 6 x h

-- so no two numbers are printed alike
pub decimal_inj : (x y : ℕ) → x < 1000000 → y < 1000000 → decimal x ≡ decimal y → x ≡ y
decimal_inj x y h k e = sym (number_told x h) ∙ ap (told 0) e ∙ number_told y k

-- ---- which bytes they are

abbrev Digit : ℕ → Type 0
Digit b = (48 ≤ b) × (b ≤ 57)

last_digit_lem : (x : ℕ) → Digit (last_digit x)
unfolding last_digit
last_digit_lem x = (omega arith, omega arith)

before_last : (b : Bool) {xs : List ℕ} → All Digit xs → All Digit (cond b [] xs)
before_last true h = none
before_last false h = h

all_digits : (k x : ℕ) → All Digit (digits k x)
unfolding digits
all_digits zero x = none
all_digits (suc k) x = all_append (before_last (ltb x 10) (all_digits k (x / 10))) (more (last_digit_lem x) none)

pub only_digits : (x i : ℕ) → i < length (decimal x) → Digit (get_or (decimal x) i 0)
unfolding decimal
only_digits x i h = all_at (all_digits 6 x) 0 i h

-- ---- the first of them

pub zero_printed : decimal 0 ≡ 48 ∷ []
unfolding decimal digits last_digit
zero_printed = refl

some_digit : (k x : ℕ) → 0 < length (digits (suc k) x)
some_digit k x =
    ⊎_elim (λ e. omega (arith, ap length (digits_one k x (ltb-true x 10 e)))) (λ e. omega (arith, more_length k x (ltb-false x 10 e)))
    (true_or_false (ltb x 10))

first_more : (k x : ℕ) → 10 ≤ x → get_or (digits (suc (suc k)) x) 0 0 ≡ get_or (digits (suc k) (x / 10)) 0 0
first_more k x l =
    rw (digits_more (suc k) x l) (get_or-append (digits (suc k) (x / 10)) (last_digit x ∷ []) 0 0 (some_digit k (x / 10)))

first_digit : (k x : ℕ) → 0 < x → x < ten_to (suc k) → 48 < get_or (digits (suc k) x) 0 0
unfolding ten_to last_digit
first_digit zero x p h = rw (digits_one 0 x h) (omega arith)
first_digit (suc k) x p h =
    ⊎_elim (λ e. let l = ltb-true x 10 e in rw (digits_one (suc k) x l) (omega (arith, l)))
    (λ e. let l = ltb-false x 10 e in rw (first_more k x l) (first_digit k (x / 10) (omega (arith, l)) (omega (arith, h))))
    (true_or_false (ltb x 10))

pub no_zero_first : (x : ℕ) → 0 < x → x < 1000000 → get_or (decimal x) 0 0 ≡ 48 → ⊥
unfolding decimal ten_to
no_zero_first x p h e = omega (arith, first_digit 5 x p h, e)
