-- A trimmed plan that is trimmed again is as it was, and every state keeps its number.
use mathlib.Core.Path.{◌≡◌, ap, ◌∙◌}
use mathlib.Core.Bool.{true}
use mathlib.Core.List.Memᴰ
use mathlib.Core.List.{[], map, Memᴰ}
use Prim.Native.Nat.{ℕ, ◌<◌}
use native.Mathlib.Omega.{arith}
use lib.ListN.{length, get_or, length-map, get_or-map}
use lib.Seq.{ext_get_or}
use Rattle.laws.specs.Lists.{tabulate}
use Rattle.laws.proofs.All.{all_member}
use Rattle.laws.proofs.Counts.{many_all_pass}
use Rattle.laws.proofs.Lists.{tabulate_at}
use Rattle.laws.proofs.Maps.{map_same}
use Rattle.laws.proofs.Passing.{passing_all}
use Rattle.model.specs.File.{State, Tree}
use Rattle.model.specs.Held.{state_of, plan_of}
use Rattle.model.specs.Trim.{map_of, new_number, with_commands, trim_state, trim_tree}
use Rattle.model.proofs.Good.{Good, good_state, rising_below}
use Rattle.model.proofs.Entered.{entered_all}
use Rattle.model.proofs.TrimmedPlan.{
  kept,
  old_number,
  trim_count,
  trim_state_lem,
  new_old,
  old_kept,
  new_inside,
  old_new,
  start_kept,
  kept_inside,
  outcome_kept,
}
use Rattle.model.proofs.TrimGood.{trim_good}

-- a plan of which every state is entered
module _ (q : Tree) (g : Good q) (all : (i : ℕ) → i < length q.states → kept q i ≡ true) where
  -- every state has its own number
  whole_map : map_of q ≡ tabulate (λ i. i) 0 (length q.states)
  unfolding map_of
  whole_map = passing_all (kept q) (length q.states) all

  whole_count : length (trim_tree q).states ≡ length q.states
  whole_count = trim_count q ∙ many_all_pass (kept q) (length q.states) all

  whole_old : (i : ℕ) → i < length q.states → old_number q i ≡ i
  whole_old i l = rw whole_map (tabulate_at (λ j. j) (length q.states) i 0 l)

  whole_new : (x : ℕ) → x < length q.states → new_number q x ≡ x
  unfolding new_number
  whole_new x l = many_all_pass (kept q) x (λ i k. all i (omega arith))

  whole_state : (s : ℕ) → s < length q.states → trim_state (new_number q) (state_of q s) ≡ state_of q s
  unfolding trim_state
  whole_state s l =
      ap (with_commands (state_of q s)) (map_same (map (new_number q)) (state_of q s).commands (λ os m.
      map_same (new_number q) os (λ x k. whole_new x (all_member (rising_below _ 0 os (all_member (good_state q g s l).good m).rise) k))))

  whole_states : (trim_tree q).states ≡ q.states
  unfolding state_of
  whole_states = ext_get_or _ (trim_tree q).states q.states whole_count (λ i l.
      let k : i < length q.states = omega (arith, whole_count) in
      trim_state_lem q i l ∙ ap (λ (s : ℕ). trim_state (new_number q) (state_of q s)) (whole_old i k) ∙ whole_state i k)

  whole_start : (trim_tree q).start ≡ q.start
  unfolding trim_tree
  whole_start = whole_new q.start g.inside

  whole_same : trim_tree q ≡ q
  whole_same = λ i. record { start = whole_start i; states = whole_states i }

module _ (p : Tree) (g : Good p) where
  -- the state of a kept state's new number
  kept_state : (s : ℕ) → kept p s ≡ true → state_of (trim_tree p) (new_number p s) ≡ trim_state (new_number p) (state_of p s)
  kept_state s e =
      let l = kept_inside p g s e in
      trim_state_lem p (new_number p s) (new_inside p s l e) ∙ ap (λ (t : ℕ). trim_state (new_number p) (state_of p t)) (old_new p s l e)

  -- an outcome of a state that is entered in both plans is entered in both
  both : (t c x : ℕ) → (kept p t ≡ true) × (kept (trim_tree p) (new_number p t) ≡ true) → c < length (state_of p t).commands
      → Memᴰ x (get_or (state_of p t).commands c []) → (kept p x ≡ true) × (kept (trim_tree p) (new_number p x) ≡ true)
  unfolding trim_state
  both t c x (k, e) n m =
      let cs = (state_of p t).commands in
      let new : (state_of (trim_tree p) (new_number p t)).commands ≡ map (map (new_number p)) cs
      = ap (λ (s : State). s.commands) (kept_state t k) in
      let own : c < length (state_of (trim_tree p) (new_number p t)).commands = rw (new, length-map cs (map (new_number p))) n in
      let out : Memᴰ (new_number p x) (get_or (state_of (trim_tree p) (new_number p t)).commands c [])
      = rw (new, get_or-map (map (new_number p)) cs c []) (Memᴰ.map (new_number p) m) in
      ((outcome_kept p g t c x k n m).1, (outcome_kept (trim_tree p) (trim_good p g) (new_number p t) c (new_number p x) e own out).1)

  start_both : (kept p p.start ≡ true) × (kept (trim_tree p) (new_number p p.start) ≡ true)
  unfolding trim_tree
  start_both = (start_kept p, start_kept (trim_tree p))

  -- in the trimmed plan every state is entered
  trim_entered : (i : ℕ) → i < length (trim_tree p).states → kept (trim_tree p) i ≡ true
  unfolding plan_of
  trim_entered i l =
      let reached = entered_all (plan_of p) (λ x. (kept p x ≡ true) × (kept (trim_tree p) (new_number p x) ≡ true)) start_both
      (λ t c x k e o n m. both t c x e n m) (old_number p i) (old_kept p i l) in
      rw (new_old p i l) at reached.1

  pub trim_again : trim_tree (trim_tree p) ≡ trim_tree p
  trim_again = whole_same (trim_tree p) (trim_good p g) trim_entered

  -- and every state keeps its number
  pub map_again : map_of (trim_tree p) ≡ tabulate (λ i. i) 0 (length (trim_tree p).states)
  map_again = whole_map (trim_tree p) (trim_good p g) trim_entered
