-- The test of a list, by what is read of it.
use mathlib.Core.Path.{◌≡◌, sym, ◌∙◌}
use mathlib.Core.Bool.{Bool, true, false, and-true, ◌&&◌}
use mathlib.Core.List.{List}
use Prim.Native.Nat.{ℕ, ◌+◌, ◌-◌, ◌<◌, ◌≤◌}
use native.Mathlib.Numerals.{add-one}
use native.Mathlib.Omega.{arith}
use native.Mathlib.Decide.{dec_le}
use borrow.Author.Tests.{lt-leb, le-leb, lt-ltb, le-ltb}
use lib.Dec.{leb, ltb}
use lib.ListN.{get_or}
use Rattle.laws.specs.Sets.{every}
use Rattle.laws.proofs.Tests.{and_false_right}
use Rattle.model.specs.Tables.{Lists}
use Rattle.model.specs.Places.{start_in}
use Rattle.model.specs.SoundTest.{rises_at, after, list_sound, entry_sound}
use Rattle.model.proofs.ListTable.{after_is}
use Rattle.tables.specs.Lasts.{last_below, rises_below, list_below}

-- two entries in a row, at the places j and j + 1
pub rises_test : (entries : List ℕ) (j x y : ℕ) → x ≡ get_or entries j 0 → y ≡ get_or entries (j + 1) 0 → rises_at entries j ≡ ltb x y
unfolding rises_at
rises_test entries j x y p q = rw (p, q, add-one j)

-- a list whose entries are from place a up to place e
pub list_test : (least n : ℕ) (L : Lists) (i a e : ℕ) → a ≡ start_in L i → e ≡ start_in L (i + 1)
    → list_below least n L i ≡ (leb (after least a) e && leb e L.end && every (λ k. rises_at L.entries (a + k)) (e - a - 1)
    && last_below n L.entries a e)
unfolding list_below list_sound
list_test least n L i a e p q = rw (p, q, add-one i)

-- which is long enough, and ends within the table
pub list_rises : (least n : ℕ) (L : Lists) (i a e : ℕ) → a ≡ start_in L i → e ≡ start_in L (i + 1) → leb (after least a) e ≡ true
    → leb e L.end ≡ true → {r : Bool} → r ≡ rises_below n L.entries a e → r ≡ list_below least n L i
unfolding rises_below
list_rises least n L i a e p q h k w = w ∙ sym (list_test least n L i a e p q ∙ rw (h, k))

-- entries from place a up to place e
module _ (n : ℕ) (entries : List ℕ) (a e : ℕ) where
  -- there are none
  pub rises_none : e ≤ a → true ≡ rises_below n entries a e
  unfolding rises_below last_below every
  rises_none h = let none : e - a - 1 ≡ 0 = omega arith in rw (none, le-leb e a h)

  -- the last is x
  module _ {x : ℕ} (h : a < e) (p : x ≡ get_or entries (e - 1) 0) where
    last_test : last_below n entries a e ≡ ltb x n
    unfolding last_below entry_sound
    last_test = rw (lt-leb e a h, p)

    pub rises_beyond : n ≤ x → false ≡ rises_below n entries a e
    unfolding rises_below
    rises_beyond k = sym (and_false_right (every (λ d. rises_at entries (a + d)) (e - a - 1)) _ (last_test ∙ le-ltb x n k))

    pub rises_within : x < n → {r : Bool} → r ≡ every (λ d. rises_at entries (a + d)) (e - a - 1) → r ≡ rises_below n entries a e
    unfolding rises_below
    rises_within k w = w ∙ rw (last_test ∙ lt-ltb x n k) (sym (and-true _))

-- how many places there are
module _ (least from to : ℕ) where
  pub least_order : to < from → leb (after least from) to ≡ false
  least_order h = rw (after_is least from) (lt-leb (least + from) to (omega arith))

  pub least_room : from ≤ to → leb least (to - from) ≡ leb (after least from) to
  least_room h = rw (after_is least from) (go (dec_le least (to - from)))
    where
      go : Dec (least ≤ to - from) → leb least (to - from) ≡ leb (least + from) to
      go (yes l) = le-leb least (to - from) l ∙ sym (le-leb (least + from) to (omega arith))
      go (no l) = lt-leb least (to - from) (omega arith) ∙ sym (lt-leb (least + from) to (omega arith))
