-- The trimmed tree by its numbers: its state i is the state that has the old number of i, and its commands land in it.
use mathlib.Core.Path.{◌≡◌, ap, ◌∙◌}
use mathlib.Core.Bool.{Bool, true}
use mathlib.Core.List.{[], map, Memᴰ}
use Prim.Native.Nat.{ℕ, ◌<◌, ◌≤◌}
use native.Mathlib.Omega.{arith}
use lib.ListN
use lib.ListN.{length, get_or, length-map}
use borrow.Author.Tests.{eq-eqb}
use Rattle.laws.specs.Lists.{joined}
use Rattle.laws.specs.Sets.{how_many}
use Rattle.laws.proofs.Sets.{many_bound}
use Rattle.laws.proofs.Maps.{get_or_map, length_joined_map}
use Rattle.laws.proofs.Passing.{Stands, many_above, length_passing, passing_at, at_passing, passing_rises}
use Rattle.model.specs.Plan.{ordinary}
use Rattle.model.specs.File.{State, Tree}
use Rattle.model.specs.Held.{state_of, plan_of}
use Rattle.model.specs.Trim.{entered, map_of, new_number, trim_state, trim_tree}
use Rattle.model.proofs.Good.{Good}
use Rattle.model.proofs.Valid.{good_valid}
use Rattle.model.proofs.Entered.{start_entered, enters_on, entered_inside}
use Rattle.model.proofs.Renumbered.{PartOf}

-- the kept states
abbrev pub kept : Tree → ℕ → Bool
kept p = entered (plan_of p)

-- the old number of a kept state
abbrev pub old_number : Tree → ℕ → ℕ
old_number p i = get_or (map_of p) i 0

-- a trimmed state has as many commands and outcomes
module _ (new : ℕ → ℕ) (s : State) where
  pub same_commands : length (trim_state new s).commands ≡ length s.commands
  unfolding trim_state
  same_commands = length-map s.commands _

  pub same_outcomes : length (joined (trim_state new s).commands) ≡ length (joined s.commands)
  unfolding trim_state
  same_outcomes = length_joined_map _ s.commands

module _ (p : Tree) where
  map_count : length (map_of p) ≡ how_many (kept p) (length p.states)
  unfolding map_of
  map_count = length_passing (kept p) (length p.states)

  pub trim_long : length (trim_tree p).states ≡ length (map_of p)
  unfolding trim_tree
  trim_long = length-map (map_of p) _

  pub trim_count : length (trim_tree p).states ≡ how_many (kept p) (length p.states)
  trim_count = trim_long ∙ map_count

  pub trim_few : length (trim_tree p).states ≤ length p.states
  trim_few = omega (arith, trim_count, many_bound (kept p) (length p.states))

  -- the map is strictly rising
  pub map_rises : (i j : ℕ) → i < j → j < length (map_of p) → old_number p i < old_number p j
  unfolding map_of
  map_rises i j h l = passing_rises (kept p) (length p.states) 0 i j h (omega (arith, map_count))

  -- a new number and its old one
  module _ (i : ℕ) (l : i < length (trim_tree p).states) where
    old_stands : Stands (kept p) (length p.states) i (old_number p i)
    unfolding map_of
    old_stands = at_passing (kept p) (length p.states) 0 i (omega (arith, trim_count))

    pub old_inside : old_number p i < length p.states
    old_inside = old_stands.low

    pub old_kept : kept p (old_number p i) ≡ true
    old_kept = old_stands.passes

    pub new_old : new_number p (old_number p i) ≡ i
    unfolding new_number
    new_old = old_stands.before

    pub trim_state_lem : state_of (trim_tree p) i ≡ trim_state (new_number p) (state_of p (old_number p i))
    unfolding state_of trim_tree
    trim_state_lem = get_or_map (λ s. trim_state (new_number p) (state_of p s)) (map_of p) i 0 _ (omega (arith, trim_long))

    trim_commands : length (state_of (trim_tree p) i).commands ≡ length (state_of p (old_number p i)).commands
    trim_commands = ap (λ (s : State). length s.commands) trim_state_lem ∙ same_commands (new_number p) _

  -- a kept state and its new number
  module _ (x : ℕ) (l : x < length p.states) (e : kept p x ≡ true) where
    pub new_inside : new_number p x < length (trim_tree p).states
    unfolding new_number
    new_inside = omega (arith, trim_count, many_above (kept p) x (length p.states) l e)

    pub old_new : old_number p (new_number p x) ≡ x
    unfolding new_number map_of
    old_new = passing_at (kept p) (length p.states) 0 x l e

  pub start_kept : kept p p.start ≡ true
  unfolding plan_of
  start_kept = start_entered (plan_of p)

  module _ (g : Good p) where
    pub kept_inside : (x : ℕ) → kept p x ≡ true → x < length p.states
    unfolding plan_of
    kept_inside = entered_inside (plan_of p) (good_valid p g) g.inside

    -- all outcomes of a kept state are kept
    pub outcome_kept : (s c x : ℕ) → kept p s ≡ true → c < length (state_of p s).commands → Memᴰ x (get_or (state_of p s).commands c [])
        → (x < length p.states) × (kept p x ≡ true)
    unfolding plan_of ordinary
    outcome_kept s c x e k m =
        let valid = good_valid p g in
        let l = kept_inside s e in
        (valid.inside s c x l k m, enters_on (plan_of p) valid s c x l e (eq-eqb (state_of p s).kind 0 (valid.idle s c l k)) k m)

    -- the trimmed plan is part of the plan, by the map or a table that agrees with it up to the trimmed count
    pub trim_part : (old : ℕ → ℕ) → ((i : ℕ) → i < length (trim_tree p).states → old i ≡ old_number p i)
        → PartOf (plan_of (trim_tree p)) (plan_of p) old (new_number p)
    unfolding plan_of trim_state
    trim_part old is = record {
      inside = λ i l. rw (is i l) (old_inside i l);
      kinds = λ i l. rw (is i l) (ap (λ (s : State). s.kind) (trim_state_lem i l));
      counts = λ i l. rw (is i l) (trim_commands i l);
      practices = λ i l. rw (is i l) (ap (λ (s : State). s.practice) (trim_state_lem i l));
      outcomes = λ i c l.
          rw (is i l)
          (ap (λ (s : State). get_or s.commands c []) (trim_state_lem i l)
          ∙ ListN.get_or-map (map (new_number p)) (state_of p (old_number p i)).commands c []);
      back = λ i c x l k m.
          let (n, e) = outcome_kept (old_number p i) c x (old_kept i l) (omega (arith, trim_commands i l)) (rw (is i l) at m) in
          (new_inside x n e, is (new_number p x) (new_inside x n e) ∙ old_new x n e);
    }
