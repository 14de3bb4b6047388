-- A loop that tries the numbers of a range, one after another, and stops at the first of which a test does not hold; where the numbers are
-- places of a list, the first member is found there.
use mathlib.Core.Path.{◌≡◌, refl}
use mathlib.Core.Bool.{Bool, true, false, not}
use mathlib.Core.List.{List, [], ◌∷◌}
use mathlib.Core.Option.{Option, none, some}
use Prim.Native.Nat.{ℕ, zero, suc, ◌+◌, ◌<◌, ◌≤◌}
use native.Mathlib.Decide.{dec_lt}
use native.Mathlib.Omega.{arith}
use lib.ListN.{length, get_or}
use Rattle.laws.specs.Sets.{first, lowest}
use Rattle.laws.specs.Entry.{FFFF, entry}
use Rattle.laws.specs.First.{FirstNot}
use Rattle.laws.proofs.Tests.{clash}
use Rattle.laws.proofs.Sets.{IsLowest, lowest_is, lowest_eq}

-- the loop at c
module _ {f : ℕ → Bool} {a c : ℕ} (v : FirstNot f a c c) where
  pub first_next : f c ≡ true → FirstNot f a (c + 1) (c + 1)
  first_next t = record {
    since = omega (arith, v.since);
    until = omega arith;
    before = λ i p q. go i p q (dec_lt i c);
    stops = λ p. absurd (omega arith);
  }
    where
      go : (i : ℕ) → a ≤ i → i < c + 1 → Dec (i < c) → f i ≡ true
      go i p q (yes l) = v.before i p l
      go i p q (no l) = let e : i ≡ c = omega arith in rw e t

  -- a number of which the test is known not to hold is not passed
  pub first_room : {k e : ℕ} → a ≤ k → k < e → f k ≡ false → c < e
  first_room {k} {e} p h t = go (dec_lt k c)
    where
      go : Dec (k < c) → c < e
      go (yes l) = clash (v.before k p l) t
      go (no l) = omega arith

  pub first_stop : (e : ℕ) → c < e → f c ≡ false → FirstNot f a e c
  first_stop e h t = record { since = v.since; until = omega arith; before = v.before; stops = λ p. t }

  pub first_done : (e : ℕ) → c ≤ e → e ≤ c → FirstNot f a e c
  first_done e g h = record { since = v.since; until = g; before = v.before; stops = λ p. absurd (omega arith) }

-- ---- the members of a list, tried by their places

-- where the test holds of all numbers before the range, its first number is the first of all
pub first_earlier : {f : ℕ → Bool} {a e r : ℕ} → ((i : ℕ) → i < a → f i ≡ true) → FirstNot f a e r → FirstNot f 0 e r
first_earlier {f} {a} {e} {r} all v =
    record { since = omega arith; until = v.until; before = λ i p q. go i q (dec_lt i a); stops = v.stops }
  where
    go : (i : ℕ) → i < r → Dec (i < a) → f i ≡ true
    go i q (yes l) = all i l
    go i q (no l) = v.before i (omega arith) q

-- the first member of which f does not hold stands at the first place of which it does not; FFFF where it holds of all
pub first_at : (f : ℕ → Bool) (l : List ℕ) (r : ℕ) → FirstNot (λ i. f (get_or l i FFFF)) 0 (length l) r
    → get_or l r FFFF ≡ entry (first (λ x. not (f x)) l)
unfolding first entry
first_at f [] r v = refl
first_at f (x ∷ xs) zero v = let e : f x ≡ false = v.stops (omega arith) in rw e
first_at f (x ∷ xs) (suc r) v =
    let e : f x ≡ true = v.before 0 (omega arith) (omega arith) in
    rw e (first_at f xs r (record {
      since = omega arith;
      until = omega (arith, v.until);
      before = λ i p q. v.before (suc i) (omega arith) (omega arith);
      stops = λ q. v.stops (omega arith);
    }))

-- tests that agree below the bound have the same lowest
pub lowest_same : (f g : ℕ → Bool) (n : ℕ) → ((i : ℕ) → i < n → f i ≡ g i) → lowest f n ≡ lowest g n
lowest_same f g n same = lowest_eq f n (lowest g n) (go (lowest g n) (lowest_is g n))
  where
    go : (o : Option ℕ) → IsLowest g n o → IsLowest f n o
    go none h = λ i l. rw (same i l) (h i l)
    go (some i) h = (h.0, rw (same i h.0) h.1, λ j l. rw (same j (omega (arith, h.0))) (h.2 j l))
