-- The states that the walk over a sound plan ends with are the entered ones.
use mathlib.Core.Path.{◌≡◌}
use mathlib.Core.Bool.{true}
use mathlib.Core.List.{List, [], Memᴰ}
use Prim.Native.Nat.{ℕ, ◌<◌, ◌≤◌}
use native.Mathlib.Omega.{arith}
use lib.ListN.{length, get_or}
use Rattle.laws.specs.Lists.{joined}
use Rattle.laws.proofs.Tests.{same_test}
use Rattle.laws.proofs.Lists.{mem_get_or, get_or_mem}
use Rattle.laws.proofs.Parts.{all_mem, mem_all}
use Rattle.model.specs.File.{Tree}
use Rattle.model.specs.Tables.{Tables}
use Rattle.model.specs.SoundTest.{sound}
use Rattle.model.specs.Held.{tree_of, state_of, plan_of, plan_in}
use Rattle.model.specs.Trim.{entered}
use Rattle.model.proofs.HeldPlan.{tree_count}
use Rattle.model.proofs.Layouts.{by_command_lem}
use Rattle.model.proofs.Good.{Good}
use Rattle.model.proofs.GoodTables.{sound_good}
use Rattle.model.proofs.Valid.{good_valid}
use Rattle.model.proofs.Entered.{entered_all}
use Rattle.model.proofs.TrimmedPlan.{kept, start_kept, outcome_kept}
use Rattle.walks.specs.Flags.{walked_in}
use Rattle.walks.proofs.WholeWalks.{WholeWalk, whole_closed}

-- all outcomes of a state, whatever is commanded
abbrev pub outcomes_of : Tree → ℕ → List ℕ
outcomes_of p s = joined (state_of p s).commands

-- an outcome is one of some command
some_command : (p : Tree) (s x : ℕ) → Memᴰ x (outcomes_of p s)
    → (c : ℕ) × (c < length (state_of p s).commands) × Memᴰ x (get_or (state_of p s).commands c [])
some_command p s x m =
    let (os, k, h) = all_mem by_command_lem (state_of p s).commands m in
    let (c, l, e) = get_or_mem (state_of p s).commands [] k in
    (c, l, rw e h)

module _ (p : Tree) (g : Good p) where
  -- an outcome is a state, and kept with the state that it is one of
  pub outcome_inside : (s x : ℕ) → s < length p.states → Memᴰ x (outcomes_of p s) → x < length p.states
  unfolding plan_of
  outcome_inside s x l m = let (c, k, h) = some_command p s x m in (good_valid p g).inside s c x l k h

  pub outcome_entered : (s x : ℕ) → kept p s ≡ true → Memᴰ x (outcomes_of p s) → kept p x ≡ true
  outcome_entered s x e m = let (c, k, h) = some_command p s x m in (outcome_kept p g s c x e k h).1

module _ (T : Tables) (sounds : sound T ≡ true) {f₀ u₀ : List ℕ} {h q : ℕ} {f u : List ℕ}
    (w : WholeWalk T.size.n T.size.start (outcomes_of (tree_of T)) f₀ u₀ h q f u) where
  pub walked_entered : q ≤ h → (s : ℕ) → s < T.size.n → walked_in f s ≡ entered (plan_in T) s
  unfolding plan_in plan_of tree_of
  walked_entered k s l = same_test (walked_in f s) (kept p s)
      (w.sure (kept p) (start_kept p) (λ t x i e m. outcome_entered p g t x e m) s l) back
    where
      p : Tree
      p = tree_of T

      g : Good p
      g = sound_good T sounds

      back : kept p s ≡ true → walked_in f s ≡ true
      back = entered_all (plan_of p) (λ x. walked_in f x ≡ true) w.start
          (λ t c x i r o m n. whole_closed w k t x (omega (arith, tree_count T)) r
          (mem_all by_command_lem (mem_get_or (state_of p t).commands c [] m) n)) s
