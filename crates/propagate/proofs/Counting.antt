-- How many states have a rank, and the queue that is no longer than that.
use mathlib.Core.Path.{◌≡◌, refl, ap, ◌∙◌}
use mathlib.Core.Bool.{true, false, not}
use mathlib.Core.List.{List}
use Prim.Native.Nat.{ℕ, ◌+◌, ◌≤◌, ◌<◌}
use native.Mathlib.Decide.{dec_lt, ℕ_discrete}
use native.Mathlib.Omega.{arith}
use borrow.Author.Tests.{eq-eqb, ne_eqb}
use lib.Dec.{eqb}
use lib.ListN.{length, get_or, set}
use lib.Seq.{get_or-set_same, get_or-set_other}
use Rattle.laws.specs.Entry.{FFFF}
use Rattle.laws.proofs.Sets.{many_bound, many_lt}
use Rattle.propagate.specs.Progress.{progress, rank_count, QueueBound}

pub count_le : (n : ℕ) (r : List ℕ) → rank_count n r ≤ n
unfolding rank_count
count_le n r = many_bound _ n

pub has_rank : (x : ℕ) → (x ≡ FFFF → ⊥) → not (eqb x FFFF) ≡ true
has_rank x h = rw (ne_eqb x FFFF h)

pub no_rank : (x : ℕ) → x ≡ FFFF → not (eqb x FFFF) ≡ false
no_rank x h = rw (eq-eqb x FFFF h)

-- while some state has no rank there is room in the queue
pub queue_room : (n : ℕ) (r w q : List ℕ) (end : ℕ) → QueueBound n (progress r w q end) → (s : ℕ) → s < n → get_or r s 0 ≡ FFFF
    → end < n
unfolding rank_count
queue_room n r w q end v s h e =
    let l : rank_count n r < n =
    omega (
      arith,
      many_lt (λ i. not (eqb (get_or r i 0) FFFF)) (λ i. true) n (λ i g t. refl) s h (no_rank (get_or r s 0) e) refl,
      many_bound (λ i. true) n,
    ) in
    omega (arith, v.few)

module _ (n : ℕ) (r : List ℕ) (s x : ℕ) (h : s < n) (long : n ≤ length r) (small : x < FFFF) (e : get_or r s 0 ≡ FFFF) where
  -- one more has a rank
  pub count_more : rank_count n r < rank_count n (set r s x)
  unfolding rank_count
  count_more = many_lt _ _ n (λ i p t. keep i t (ℕ_discrete i s)) s h (no_rank (get_or r s 0) e) here
    where
      here : not (eqb (get_or (set r s x) s 0) FFFF) ≡ true
      here = has_rank (get_or (set r s x) s 0) (λ z. omega (arith, get_or-set_same r s x 0 (omega arith)))

      keep : (i : ℕ) → not (eqb (get_or r i 0) FFFF) ≡ true → Dec (i ≡ s) → not (eqb (get_or (set r s x) i 0) FFFF) ≡ true
      keep i t (yes y) = rw y here
      keep i t (no y) = ap (λ (z : ℕ). not (eqb z FFFF)) (get_or-set_other r s i x 0 y) ∙ t

  module _ (w q : List ℕ) (end : ℕ) (v : QueueBound n (progress r w q end)) (qlong : n ≤ length q) where
    room : end < n
    room = queue_room n r w q end v s h e

    pub bound_next : (w' : List ℕ) → QueueBound n (progress (set r s x) w' (set q end s) (end + 1))
    bound_next w' = record { few = omega (arith, v.few, count_more); states = λ i g. go i g (dec_lt i end) }
      where
        go : (i : ℕ) → i < end + 1 → Dec (i < end) → get_or (set q end s) i 0 < n
        go i g (yes y) = omega (arith, get_or-set_other q end i s 0 (omega arith), v.states i y)
        go i g (no y) = let z : i ≡ end = omega arith in rw z (omega (arith, get_or-set_same q end s 0 (omega (arith, room))))
