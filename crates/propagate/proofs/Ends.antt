-- Layer after layer, at layer k, and the ranks when a layer adds no state.
use mathlib.Core.Path.{◌≡◌, refl, sym, ◌∙◌}
use mathlib.Core.Bool.{Bool, true, false}
use mathlib.Core.Logic.{⊎_elim}
use mathlib.Core.List.{List}
use mathlib.Core.Option.{none, some}
use Prim.Native.Nat.{ℕ, suc, ◌≤◌, ◌<◌}
use native.Mathlib.Decide.{ℕ_discrete}
use native.Mathlib.Omega.{arith}
use borrow.Author.Tests.{le-leb, lt-leb}
use lib.ListN.{length, get_or}
use Rattle.laws.specs.Entry.{FFFF, entry}
use Rattle.laws.specs.Lists.{tabulate, overwrite}
use Rattle.laws.specs.Sets.{lowest}
use Rattle.laws.proofs.Tests.{clash, refute}
use Rattle.laws.proofs.Sets.{Part, lowest_eq}
use Rattle.laws.proofs.Grow.{grow_step, still_all}
use Rattle.laws.proofs.Overwrites.{overwrite_is}
use Rattle.model.specs.Tables.{Lists}
use Rattle.tables.specs.Ready.{Ready}
use Rattle.propagate.specs.Net.{Net, net_of, losing, net_layer, depth, seeds, Ranges}
use Rattle.propagate.specs.Progress.{Progress, progress, QueueBound, AtLayer}
use Rattle.propagate.proofs.Hits.{lose_mono}
use Rattle.propagate.proofs.Counting.{count_le}
use Rattle.propagate.proofs.LayerSteps.{none_waits, lost_waits}

-- when no state waits, the ranks are the depths
module _ (N : Net) (R : Ready N.states N.commands) (ends : Ranges N.states N.commands.count N.tos) (K : ℕ → Bool) (k lo : ℕ)
    (small : k ≤ N.states) (X : Progress)
    (u : AtLayer N K k lo X) (over : X.end ≤ lo) where
  abbrev n : ℕ
  n = N.states

  abbrev r : ℕ → ℕ
  r s = get_or X.ranks s 0

  -- the next layer adds no state
  still : Part n (net_layer N K (suc k)) (net_layer N K k)
  still s h t = ⊎_elim (λ e. e) (λ e. go e (ℕ_discrete (r s) FFFF)) (grow_step (losing N) K k s t)
    where
      go : losing N (net_layer N K k) s ≡ true → Dec (r s ≡ FFFF) → net_layer N K k s ≡ true
      go e (yes z) = absurd (none_waits N.commands X.queue lo X.end (get_or X.watch s 0) over
          (lost_waits N K _ k X.end X u.towards s h e z))
      go e (no z) = sym (u.towards.ranked k s (omega arith) h) ∙ le-leb (r s) k (u.low s h z)

  depth_is : (s : ℕ) → s < n → r s ≡ entry (depth N K s)
  unfolding depth entry
  depth_is s h = go (ℕ_discrete (r s) FFFF)
    where
      go : Dec (r s ≡ FFFF) → r s ≡ entry (lowest (λ j. net_layer N K j s) (suc n))
      go (yes z) = rw (lowest_eq (λ j. net_layer N K j s) (suc n) none (λ j l. never j)) z
        where
          never : (j : ℕ) → net_layer N K j s ≡ false
          never j =
              refute (net_layer N K j s) (λ t.
              clash (still_all (losing N) K n (lose_mono N R ends) k still j s h t)
              (sym (u.towards.ranked k s (omega arith) h) ∙ lt-leb (r s) k (omega arith)))
      go (no z) =
          let l : r s ≤ k = u.low s h z in
          rw (lowest_eq (λ j. net_layer N K j s) (suc n) (some (r s)) (omega arith, here l, before l)) refl
        where
          here : r s ≤ k → net_layer N K (r s) s ≡ true
          here l = sym (u.towards.ranked (r s) s l h) ∙ le-leb (r s) (r s) (omega arith)

          before : r s ≤ k → (j : ℕ) → j < r s → net_layer N K j s ≡ false
          before l j g = sym (u.towards.ranked j s (omega arith) h) ∙ lt-leb (r s) j g

-- The loop at layer k, from the tables r₀ and w₀. As many states wait or have waited as layers are done, so there are no more than n.
pub record Going (n : ℕ) (C : Lists) (tos r₀ w₀ r w q : List ℕ) (lo hi k : ℕ) : Type 0 where
  pub order : lo ≤ hi
  pub layers : k ≤ lo
  pub bound : QueueBound n (progress r w q hi)
  pub rest : (i : ℕ) → n ≤ i → get_or r i 0 ≡ get_or r₀ i 0
  pub at_layer : AtLayer (net_of n C w₀ tos) (seeds r₀) k lo (progress r w q hi)

module _ {n : ℕ} (C : Lists) (tos r₀ w₀ : List ℕ) where
  pub going_start : (q : List ℕ) (e : ℕ) → QueueBound n (progress r₀ w₀ q e)
      → AtLayer (net_of n C w₀ tos) (seeds r₀) 0 0 (progress r₀ w₀ q e) → Going n C tos r₀ w₀ r₀ w₀ q 0 e 0
  going_start q e bound u = record { order = omega arith; layers = omega arith; bound = bound; rest = λ i h. refl; at_layer = u }

  module _ (r w q : List ℕ) (lo hi k : ℕ) (v : Going n C tos r₀ w₀ r w q lo hi k) where
    pub going_few : hi ≤ n
    going_few = omega (arith, v.bound.few, count_le n r)

    pub going_done : Ready n C → Ranges n C.count tos → n ≤ length r₀ → length r ≡ length r₀ → hi ≤ lo
        → r ≡ overwrite (tabulate (λ (s : ℕ). entry (depth (net_of n C w₀ tos) (seeds r₀) s)) 0 n) r₀
    going_done R ends long same h =
        overwrite_is (λ (s : ℕ). entry (depth (net_of n C w₀ tos) (seeds r₀) s)) n r₀ long r same
        (depth_is (net_of n C w₀ tos) R ends (seeds r₀) k lo (omega (arith, v.layers, v.order, going_few)) (progress r w q hi)
        v.at_layer h)
        v.rest
