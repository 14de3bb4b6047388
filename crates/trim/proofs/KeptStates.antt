-- The list of the states that a walk has reached is the map, and what is known of the states that are kept.
use mathlib.Core.Path.{◌≡◌, sym, ap, ◌∙◌}
use mathlib.Core.Bool.{Bool}
use mathlib.Core.List.{List}
use Prim.Native.Nat.{ℕ, ◌<◌, ◌≤◌}
use native.Mathlib.Omega.{arith}
use lib.ListN.{length, get_or, take}
use Rattle.laws.specs.Sets.{how_many}
use Rattle.laws.specs.Passing.{passing}
use Rattle.laws.specs.Writes.{put_all}
use Rattle.laws.proofs.Sets.{many_bound}
use Rattle.laws.proofs.Lists.{take_overwritten}
use Rattle.laws.proofs.Passing.{length_passing, passing_same}
use Rattle.laws.proofs.Writes.{put_front}
use Rattle.model.specs.File.{Tree, max_states}
use Rattle.model.specs.Tables.{Tables}
use Rattle.model.specs.Held.{tree_of, state_of, plan_in}
use Rattle.model.specs.Trim.{entered, map_of, trim_tree}
use Rattle.model.proofs.HeldPlan.{tree_count}
use Rattle.model.proofs.Good.{Good}
use Rattle.model.proofs.GoodTables.{sound_good}
use Rattle.model.proofs.TrimGood.{trim_good}
use Rattle.model.proofs.TrimmedPlan.{kept as isKept, old_number, trim_long, old_inside, map_rises}
use Rattle.tables.specs.Meaning.{lent}
use Rattle.trim.specs.declared.kept_states.KeptStates.{KeptStates}
use Rattle.trim.specs.declared.stretches.Stretch.{Stretch}
use Rattle.trim.specs.Stretches.{stretch_at}
use Rattle.trim.proofs.Stretching.{InStretch, state_stretch}

-- f says which states are entered
pub listed_map : (T : Tables) (f : ℕ → Bool) → ((s : ℕ) → s < T.size.n → f s ≡ entered (plan_in T) s) → {r : ℕ} (l₀ : List ℕ) {l : List ℕ}
    → T.size.n ≤ length l₀ → r ≡ how_many f T.size.n → l ≡ put_all l₀ 0 (passing f T.size.n) → take r l ≡ map_of (tree_of T)
unfolding map_of plan_in
listed_map T f same {r} l₀ long e w =
    let n = T.size.n in
    let is : passing f n ≡ map_of (tree_of T) = passing_same f (isKept (tree_of T)) n same
    ∙ ap (passing (isKept (tree_of T))) (sym (tree_count T)) in
    let count : r ≡ length (passing f n) = e ∙ sym (length_passing f n) in
    let room : length (passing f n) ≤ length l₀ = omega (arith, e, count, many_bound f n) in
    ap (take r) (w ∙ put_front l₀ (passing f n) room) ∙ take_overwritten r (passing f n) l₀ (sym count) ∙ is

-- the plan that they are states of
abbrev pub tree_in : KeptStates → Tree
tree_in k = tree_of (lent k.checked.now.plan)

-- r is the stretch of new state i
abbrev pub StretchOf : KeptStates → ℕ → Stretch → Type 0
StretchOf k i r = InStretch k.checked.now.plan (state_of (tree_in k) (old_number (tree_in k) i)).commands r

module _ (k : KeptStates) where
  pub kept_good : Good (tree_in k)
  kept_good = sound_good (lent k.checked.now.plan) k.checked.now.sounds

  -- there are as many as the trimmed plan has states
  pub kept_count : length k.olds.now ≡ length (trim_tree (tree_in k)).states
  kept_count = ap length k.map ∙ sym (trim_long (tree_in k))

  pub kept_few : length k.olds.now ≤ max_states
  kept_few = omega (arith, kept_count, (trim_good (tree_in k) kept_good).few)

  -- each stands at its new number
  pub kept_old : (i : ℕ) → get_or k.olds.now i 0 ≡ old_number (tree_in k) i
  kept_old i = ap (λ (l : List ℕ). get_or l i 0) k.map

  -- it is a state of the plan, and they rise
  pub kept_inside : (i : ℕ) → i < length k.olds.now → get_or k.olds.now i 0 < k.checked.now.plan.size.n
  kept_inside i l =
      omega (arith, kept_old i, tree_count (lent k.checked.now.plan), old_inside (tree_in k) i (omega (arith, kept_count)))

  pub kept_rises : (i j : ℕ) → i < j → j < length k.olds.now → get_or k.olds.now i 0 < get_or k.olds.now j 0
  kept_rises i j h l = omega (arith, kept_old i, kept_old j, map_rises (tree_in k) i j h (omega (arith, ap length k.map)))

  -- what is read of it is its stretch
  pub kept_stretch : (i : ℕ) → i < length k.olds.now → {s : ℕ} → s ≡ get_or k.olds.now i 0 → {r : Stretch}
      → r ≡ stretch_at (lent k.checked.now.plan) s
      → StretchOf k i r
  kept_stretch i l is e =
      rw (is ∙ kept_old i) at (state_stretch k.checked.now _ (omega (arith, is, kept_inside i l)) e)
