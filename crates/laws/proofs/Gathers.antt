-- A loop over the numbers below n that lists those which pass a test, from the front of a table on.
use mathlib.Core.Path.{◌≡◌, refl, sym, ap, ◌∙◌}
use mathlib.Core.Bool.{Bool, true, false, cond}
use mathlib.Core.Logic.{⊎_elim}
use mathlib.Core.List.{List, [], ◌∷◌}
use Prim.Native.Nat.{ℕ, ◌+◌, ◌<◌, ◌≤◌}
use native.Mathlib.Nat.{zero-add}
use native.Mathlib.Numerals.{add-one}
use native.Mathlib.Omega.{arith}
use lib.ListN.{length, set, length-set}
use Rattle.laws.specs.Sets.{how_many}
use Rattle.laws.specs.Passing.{passing}
use Rattle.laws.specs.Writes.{put_all}
use Rattle.laws.proofs.Tests.{true_or_false}
use Rattle.laws.proofs.Counts.{many_yes, many_no, many_none_pass}
use Rattle.laws.proofs.Sets.{many_bound}
use Rattle.laws.proofs.Passing.{next_yes, next_no, length_passing}
use Rattle.laws.proofs.Writes.{put_append}

-- l₀ is the table before; the numbers below s are looked at, and i of them pass
pub record Gathers (f : ℕ → Bool) (n : ℕ) (l₀ : List ℕ) (i s : ℕ) (l : List ℕ) : Type 0 where
  pub same : length l ≡ length l₀
  pub gathered : l ≡ put_all l₀ 0 (passing f s)
  pub count : i ≡ how_many f s
  pub high : s ≤ n

module _ {f : ℕ → Bool} {n : ℕ} {l₀ : List ℕ} where
  pub gathers_start : Gathers f n l₀ 0 0 l₀
  unfolding put_all passing
  gathers_start = record { same = refl; gathered = refl; count = sym (many_none_pass f); high = omega arith }

  module _ {i s : ℕ} {l : List ℕ} (c : Gathers f n l₀ i s l) where
    -- there is room for the next number
    pub gathers_room : i ≤ s
    gathers_room = omega (arith, c.count, many_bound f s)

    gathers_yes : s < n → f s ≡ true → Gathers f n l₀ (i + 1) (s + 1) (set l i s)
    unfolding put_all
    gathers_yes h e = rw (add-one s) (record {
      same = length-set l i s ∙ c.same;
      gathered =
          rw (next_yes f s e)
          (ap (λ (m : List ℕ). set m i s) c.gathered
          ∙ ap (λ (j : ℕ). set (put_all l₀ 0 (passing f s)) j s)
          (c.count ∙ sym (length_passing f s) ∙ sym (zero-add (length (passing f s))))
          ∙ sym (put_append l₀ 0 (passing f s) (s ∷ [])));
      count = omega (arith, c.count, many_yes f s e);
      high = h;
    })

    gathers_no : s < n → f s ≡ false → Gathers f n l₀ i (s + 1) l
    gathers_no h e = rw (add-one s) (record {
      same = c.same;
      gathered = rw (next_no f s e) c.gathered;
      count = omega (arith, c.count, many_no f s e);
      high = h;
    })

    pub gathers_next : s < n → {i' : ℕ} {l' : List ℕ} → i' ≡ cond (f s) (i + 1) i → l' ≡ cond (f s) (set l i s) l
        → Gathers f n l₀ i' (s + 1) l'
    gathers_next h p q =
        rw (p, q)
        (⊎_elim (λ e. rw e (gathers_yes h e)) (λ e. rw e (gathers_no h e)) (true_or_false (f s)))
