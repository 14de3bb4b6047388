-- The loop that counts the commands and outcomes of the kept states, and the place of the start among them.
use mathlib.Core.Path.{◌≡◌, ap, ◌∙◌}
use mathlib.Core.List.{List, ◌++◌}
use Prim.Native.Nat.{ℕ, ◌+◌, ◌-◌, ◌<◌, ◌≤◌}
use native.Mathlib.Decide.{dec_lt}
use native.Mathlib.Omega.{arith}
use lib.ListN.{length, get_or, length-append}
use Rattle.laws.specs.Lists.{joined}
use Rattle.laws.proofs.Joins.{length_joined}
use Rattle.model.specs.File.{State, Tree, max_commands, max_outcomes}
use Rattle.model.specs.Tables.{all_commands, tables_of}
use Rattle.model.specs.Held.{state_of}
use Rattle.model.specs.Trim.{new_number, trim_tree, trimmed}
use Rattle.model.proofs.Good.{Good}
use Rattle.model.proofs.TrimmedPlan.{old_number, new_inside, old_new, start_kept}
use Rattle.model.proofs.TrimGood.{trim_good}
use Rattle.tables.specs.declared.Plan.{Plan}
use Rattle.tables.specs.declared.Size.{Size}
use Rattle.tables.specs.Meaning.{numbers}
use Rattle.trim.specs.declared.stretches.Stretch.{Stretch}
use Rattle.trim.specs.declared.kept_states.KeptStates.{KeptStates}
use Rattle.trim.proofs.KeptStates.{tree_in, kept_good, kept_count, kept_old, kept_rises}
use Rattle.trim.proofs.LeftStates.{trimmed_at, left_from, left_next, left_none, trimmed_commands, trimmed_outcomes}
use Rattle.trim.proofs.Stretching.{InStretch}

-- m commands and t outcomes are counted, of the kept states below i; with what is left they are all
pub record Counting (p : Tree) (i m t : ℕ) : Type 0 where
  pub high : i ≤ length (trim_tree p).states
  pub commands : m + length (all_commands (left_from p i)) ≡ length (all_commands (trim_tree p).states)
  pub outcomes : t + length (joined (all_commands (left_from p i))) ≡ length (joined (all_commands (trim_tree p).states))

module _ {p : Tree} {i m t : ℕ} (c : Counting p i m t) where
  module _ (l : i < length (trim_tree p).states) {q : Plan} {r : Stretch} (s : InStretch q (state_of p (old_number p i)).commands r) where
    -- all that is left are the commands of the next state, and the rest
    more : all_commands (left_from p i) ≡ (trimmed_at p i).commands ++ all_commands (left_from p (i + 1))
    unfolding all_commands
    more = ap all_commands (left_next p i l)

    pub counting_next : Counting p (i + 1) (m + (r.end - r.first)) (t + (r.to - r.from))
    counting_next =
        let rest = all_commands (left_from p (i + 1)) in
        let new = (trimmed_at p i).commands in
        record {
          high = omega arith;
          commands = omega (arith, c.commands, ap length more, length-append new rest, trimmed_commands p i, s.count);
          outcomes = omega (
            arith,
            c.outcomes,
            ap (λ (ds : List (List ℕ)). length (joined ds)) more,
            length_joined new rest,
            trimmed_outcomes p i,
            s.many,
          );
        }

  -- no count is above its limit
  module _ (g : Good p) where
    pub counting_commands : m ≤ max_commands
    counting_commands = omega (arith, c.commands, (trim_good p g).few_commands)

    pub counting_outcomes : t ≤ max_outcomes
    counting_outcomes = omega (arith, c.outcomes, (trim_good p g).few_outcomes)

  -- all are counted
  module _ (h : length (trim_tree p).states ≤ i) where
    pub all_commands_lem : m ≡ length (all_commands (trim_tree p).states)
    unfolding all_commands
    all_commands_lem = omega (arith, c.commands, ap (λ (ss : List State). length (all_commands ss)) (left_none p i h))

    pub all_outcomes : t ≡ length (joined (all_commands (trim_tree p).states))
    unfolding all_commands joined
    all_outcomes = omega (arith, c.outcomes, ap (λ (ss : List State). length (joined (all_commands ss))) (left_none p i h))

module _ (k : KeptStates) where
  -- the start has a place
  start_inside : new_number (tree_in k) (tree_in k).start < length k.olds.now
  start_inside = omega (arith, kept_count k, new_inside (tree_in k) (tree_in k).start (kept_good k).inside (start_kept (tree_in k)))

  start_placed : get_or k.olds.now (new_number (tree_in k) (tree_in k).start) 0 ≡ (tree_in k).start
  start_placed = kept_old k _ ∙ old_new (tree_in k) (tree_in k).start (kept_good k).inside (start_kept (tree_in k))

  pub start_has_place : (i : ℕ) × (i < length k.olds.now) × (get_or k.olds.now i 0 ≡ (tree_in k).start)
  start_has_place = (new_number (tree_in k) (tree_in k).start, start_inside, start_placed)

  -- and only one, its new number, since old numbers rise
  start_place : (r : ℕ) → r < length k.olds.now → get_or k.olds.now r 0 ≡ (tree_in k).start → r ≡ (trim_tree (tree_in k)).start
  unfolding trim_tree
  start_place r h there = go (dec_lt r x) (dec_lt x r)
    where
      x : ℕ
      x = new_number (tree_in k) (tree_in k).start

      go : Dec (r < x) → Dec (x < r) → r ≡ x
      go (yes l) d = absurd (omega (arith, kept_rises k r x l start_inside, start_placed, there))
      go (no l) (yes m) = absurd (omega (arith, kept_rises k x r m h, start_placed, there))
      go (no l) (no m) = omega arith

  -- what is answered
  pub counted : {i m t r : ℕ} {z : Size} → length k.olds.now ≤ i → Counting (tree_in k) i m t
      → z ≡ record { n = length k.olds.now; m = m; t = t; start = r } → r < length k.olds.now → get_or k.olds.now r 0 ≡ (tree_in k).start
      → numbers z ≡ (trimmed (tree_in k)).size
  unfolding tables_of
  counted {r = r} over c is h there =
      let all : length (trim_tree (tree_in k)).states ≤ _ = omega (arith, kept_count k, over) in
      rw (is, start_place r h there, all_commands_lem c all, all_outcomes c all, kept_count k)
