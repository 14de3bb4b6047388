-- A loop that writes one entry for each number from a up to e, by a rule, to the places from p on: the loop of Turns.antt, an entry a turn.
use mathlib.Core.Path.{◌≡◌}
use mathlib.Core.List.{List, [], ◌++◌, append-nil}
use Prim.Native.Nat.{ℕ, ◌+◌, ◌-◌, ◌<◌, ◌≤◌}
use native.Mathlib.Omega.{arith}
use lib.ListN.{length, set, length-append}
use Rattle.laws.specs.Lists.{tabulate}
use Rattle.laws.specs.Wrote.{Wrote}
use Rattle.laws.proofs.Lists.{length_tabulate}
use Rattle.laws.proofs.Wrote.{wrote_one}
use Rattle.laws.proofs.Spreads.{bytes_spread}
use Rattle.laws.proofs.Turns.{Turn, turn_start, turn_room, turn_next, turn_done}

-- l₀ is the table before; the loop has come to number i and place q
pub record Copies (f : ℕ → ℕ) (a e p : ℕ) (l₀ : List ℕ) (i q : ℕ) (l : List ℕ) : Type 0 where
  pub low : a ≤ i
  pub turn : Turn (λ (xs r : List ℕ). xs ++ r) f e a l₀ p l q i

module _ {f : ℕ → ℕ} {a e p : ℕ} {l₀ : List ℕ} where
  pub copies_start : p + (e - a) ≤ length l₀ → Copies f a e p l₀ a p l₀
  copies_start r = record {
    low = omega arith;
    turn = turn_start bytes_spread (omega (arith, length-append (tabulate f a (e - a)) [], length_tabulate f a (e - a)));
  }

  module _ {i q : ℕ} {l : List ℕ} (c : Copies f a e p l₀ i q l) where
    -- there is room for the next entry
    pub copies_room : i < e → q < length l
    copies_room h = omega (arith, turn_room bytes_spread c.turn h)

    pub copies_next : {x : ℕ} (l' : List ℕ) → i < e → x ≡ f i → l' ≡ set l q x → Copies f a e p l₀ (i + 1) (q + 1) l'
    copies_next l' h v w = record {
      low = omega (arith, c.low);
      turn = turn_next bytes_spread c.turn h (rw (w, v) (wrote_one l q (f i)));
    }

    pub copies_done : e ≤ i → Wrote l₀ p (tabulate f a (e - a)) l q
    copies_done h = rw (append-nil (tabulate f a (e - a))) at (turn_done bytes_spread c.turn h)
