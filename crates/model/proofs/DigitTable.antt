-- Every number is printed as it was when its digits were copied in pairs out of a table (rule L5a, lapsed). The table, and what was copied
-- out of it, are defined here for this theorem alone.
use mathlib.Core.Path.{◌≡◌, refl, sym, ◌∙◌}
use mathlib.Core.Bool.{cond}
use mathlib.Core.Logic.{⊎_elim}
use mathlib.Core.List.{List, [], ◌∷◌, ◌++◌, append_assoc}
use Prim.Native.Nat.{ℕ, zero, suc, ◌+◌, ◌*◌, ◌/◌, ◌%◌, ◌<◌, ◌≤◌}
use native.Mathlib.Omega.{arith}
use lib.Dec.{ltb, eqb}
use lib.ListN.{get_or}
use borrow.Author.Tests.{lt-ltb, le-ltb, ltb-true, ltb-false}
use Rattle.laws.specs.Lists.{tabulate}
use Rattle.laws.proofs.Lists.{tabulate_at}
use Rattle.laws.proofs.Tests.{true_or_false}
use Rattle.model.specs.Listing.{last_digit, digits, decimal}
use Rattle.model.proofs.Decimals.{digits_one, digits_more}

-- the pairs 00 to 99, as they lay in the program
unfoldable pub digit_table : List ℕ
digit_table =
    48 ∷ 48 ∷ 48 ∷ 49 ∷ 48 ∷ 50 ∷ 48 ∷ 51 ∷ 48 ∷ 52 ∷ 48 ∷ 53 ∷ 48 ∷ 54 ∷ 48 ∷ 55 ∷ 48 ∷ 56 ∷ 48 ∷ 57
    ∷ 49 ∷ 48 ∷ 49 ∷ 49 ∷ 49 ∷ 50 ∷ 49 ∷ 51 ∷ 49 ∷ 52 ∷ 49 ∷ 53 ∷ 49 ∷ 54 ∷ 49 ∷ 55 ∷ 49 ∷ 56 ∷ 49 ∷ 57
    ∷ 50 ∷ 48 ∷ 50 ∷ 49 ∷ 50 ∷ 50 ∷ 50 ∷ 51 ∷ 50 ∷ 52 ∷ 50 ∷ 53 ∷ 50 ∷ 54 ∷ 50 ∷ 55 ∷ 50 ∷ 56 ∷ 50 ∷ 57
    ∷ 51 ∷ 48 ∷ 51 ∷ 49 ∷ 51 ∷ 50 ∷ 51 ∷ 51 ∷ 51 ∷ 52 ∷ 51 ∷ 53 ∷ 51 ∷ 54 ∷ 51 ∷ 55 ∷ 51 ∷ 56 ∷ 51 ∷ 57
    ∷ 52 ∷ 48 ∷ 52 ∷ 49 ∷ 52 ∷ 50 ∷ 52 ∷ 51 ∷ 52 ∷ 52 ∷ 52 ∷ 53 ∷ 52 ∷ 54 ∷ 52 ∷ 55 ∷ 52 ∷ 56 ∷ 52 ∷ 57
    ∷ 53 ∷ 48 ∷ 53 ∷ 49 ∷ 53 ∷ 50 ∷ 53 ∷ 51 ∷ 53 ∷ 52 ∷ 53 ∷ 53 ∷ 53 ∷ 54 ∷ 53 ∷ 55 ∷ 53 ∷ 56 ∷ 53 ∷ 57
    ∷ 54 ∷ 48 ∷ 54 ∷ 49 ∷ 54 ∷ 50 ∷ 54 ∷ 51 ∷ 54 ∷ 52 ∷ 54 ∷ 53 ∷ 54 ∷ 54 ∷ 54 ∷ 55 ∷ 54 ∷ 56 ∷ 54 ∷ 57
    ∷ 55 ∷ 48 ∷ 55 ∷ 49 ∷ 55 ∷ 50 ∷ 55 ∷ 51 ∷ 55 ∷ 52 ∷ 55 ∷ 53 ∷ 55 ∷ 54 ∷ 55 ∷ 55 ∷ 55 ∷ 56 ∷ 55 ∷ 57
    ∷ 56 ∷ 48 ∷ 56 ∷ 49 ∷ 56 ∷ 50 ∷ 56 ∷ 51 ∷ 56 ∷ 52 ∷ 56 ∷ 53 ∷ 56 ∷ 54 ∷ 56 ∷ 55 ∷ 56 ∷ 56 ∷ 56 ∷ 57
    ∷ 57 ∷ 48 ∷ 57 ∷ 49 ∷ 57 ∷ 50 ∷ 57 ∷ 51 ∷ 57 ∷ 52 ∷ 57 ∷ 53 ∷ 57 ∷ 54 ∷ 57 ∷ 55 ∷ 57 ∷ 56 ∷ 57 ∷ 57 ∷ []

-- the pair of i
unfoldable pub pair_at : ℕ → List ℕ
pair_at i = get_or digit_table (2 * i) 0 ∷ get_or digit_table (2 * i + 1) 0 ∷ []

-- the digits of x, in at most k pairs
unfoldable pub table_digits : ℕ → ℕ → List ℕ
table_digits zero x = []
table_digits (suc k) x =
    cond (ltb x 10) (get_or (pair_at x) 1 0 ∷ []) (cond (ltb x 100) (pair_at x) (table_digits k (x / 100) ++ pair_at (x % 100)))

-- three pairs held every number that was printed
unfoldable pub table_decimal : ℕ → List ℕ
table_decimal x = table_digits 3 x

-- ---- the table's bytes are digits by division

unfoldable byte_at : ℕ → ℕ
byte_at k = last_digit (cond (eqb (k % 2) 0) (k / 2 / 10) (k / 2))

table_byte : (k : ℕ) → k < 200 → get_or digit_table k 0 ≡ byte_at k
unfolding tabulate digit_table last_digit byte_at
table_byte k h = tabulate_at byte_at 200 k 0 h

first_byte : (i : ℕ) → i < 100 → get_or digit_table (2 * i) 0 ≡ last_digit (i / 10)
unfolding byte_at
first_byte i h =
    let even : 2 * i % 2 ≡ 0 = omega arith in
    let half : 2 * i / 2 ≡ i = omega arith in
    table_byte (2 * i) (omega arith) ∙ rw (even, half)

second_byte : (i : ℕ) → i < 100 → get_or digit_table (2 * i + 1) 0 ≡ last_digit i
unfolding byte_at
second_byte i h =
    let odd : (2 * i + 1) % 2 ≡ 1 = omega arith in
    let half : (2 * i + 1) / 2 ≡ i = omega arith in
    table_byte (2 * i + 1) (omega arith) ∙ rw (odd, half)

pair_is : (i : ℕ) → i < 100 → pair_at i ≡ last_digit (i / 10) ∷ last_digit i ∷ []
unfolding pair_at
pair_is i h = rw (first_byte i h, second_byte i h)

-- ---- a number below ten, one below a hundred, and one that is not

module _ (k x : ℕ) where
  table_one : x < 10 → table_digits (suc k) x ≡ last_digit x ∷ []
  unfolding table_digits
  table_one h = rw (lt-ltb x 10 h, pair_is x (omega arith))

  table_two : 10 ≤ x → x < 100 → table_digits (suc k) x ≡ last_digit (x / 10) ∷ last_digit x ∷ []
  unfolding table_digits
  table_two l h = rw (le-ltb x 10 l, lt-ltb x 100 h) (pair_is x h)

  table_more : 100 ≤ x → table_digits (suc k) x ≡ table_digits k (x / 100) ++ last_digit (x / 10) ∷ last_digit x ∷ []
  unfolding table_digits last_digit
  table_more h =
      let tens : x % 100 / 10 % 10 ≡ x / 10 % 10 = omega arith in
      let ones : x % 100 % 10 ≡ x % 10 = omega arith in
      rw (le-ltb x 10 (omega arith), le-ltb x 100 h, pair_is (x % 100) (omega arith), tens, ones)

  division_two : 10 ≤ x → x < 100 → digits (suc (suc k)) x ≡ last_digit (x / 10) ∷ last_digit x ∷ []
  division_two l h = digits_more (suc k) x l ∙ rw (digits_one k (x / 10) (omega arith))

  division_more : 100 ≤ x → digits (suc (suc k)) x ≡ digits k (x / 100) ++ last_digit (x / 10) ∷ last_digit x ∷ []
  division_more h =
      let e : x / 10 / 10 ≡ x / 100 = omega arith in
      digits_more (suc k) x (omega arith)
      ∙ rw (digits_more k (x / 10) (omega arith), e) (append_assoc (digits k (x / 100)) (last_digit (x / 10) ∷ []) (last_digit x ∷ []))

none_same : (x : ℕ) → digits 0 x ≡ table_digits 0 x
unfolding digits table_digits
none_same x = refl

-- k pairs are 2 k digits
digits_same : (k x : ℕ) → digits (2 * k) x ≡ table_digits k x
digits_same zero x = none_same x
digits_same (suc k) x =
    let e : 2 * suc k ≡ suc (suc (2 * k)) = omega arith in
    rw e
    (⊎_elim (λ c. let l = ltb-true x 10 c in digits_one (suc (2 * k)) x l ∙ sym (table_one k x l))
    (λ c. let l = ltb-false x 10 c in
    ⊎_elim (λ d. let h = ltb-true x 100 d in division_two (2 * k) x l h ∙ sym (table_two k x l h))
    (λ d. let h = ltb-false x 100 d in division_more (2 * k) x h ∙ rw (digits_same k (x / 100)) (sym (table_more k x h)))
    (true_or_false (ltb x 100)))
    (true_or_false (ltb x 10)))

-- for every number
pub printed_same : (x : ℕ) → decimal x ≡ table_decimal x
unfolding decimal table_decimal
printed_same x = digits_same 3 x
