-- What is written once there is room, as the definitions have it: tables written from the front, and scratch that is zero again.
use mathlib.Core.Path.{◌≡◌, ap, ◌∙◌}
use mathlib.Core.Bool.{true}
use mathlib.Core.List.{List}
use Prim.Native.Nat.{ℕ, ◌≤◌}
use native.Mathlib.Omega.{arith}
use lib.ListN.{length, length-map}
use Rattle.laws.specs.Filled.{Filled}
use Rattle.laws.specs.Lists.{overwrite}
use Rattle.laws.specs.Writes.{put_all}
use Rattle.laws.proofs.Fills.{filled_from, filled_is, tabulate_constant}
use Rattle.laws.proofs.Parts.{length_heads}
use Rattle.laws.proofs.Writes.{put_front}
use Rattle.model.specs.File.{Tree}
use Rattle.model.specs.Tables.{Row as ModelRow, all_commands, enough, tables_of}
use Rattle.model.specs.Calls.{cleared}
use Rattle.model.specs.Trim.{trim_tree, trimmed}
use Rattle.model.proofs.Layouts.{by_state_lem, by_command_lem}
use Rattle.tables.specs.declared.Row.{Row}
use Rattle.tables.specs.Meaning.{row_of, rows_of}
use Rattle.trim.specs.declared.kept_states.KeptStates.{KeptStates}
use Rattle.trim.specs.Kept.{Numbered}
use Rattle.trim.proofs.KeptStates.{kept_inside}
use Rattle.trim.proofs.CopiedStates.{room_for}

-- the trimmed plan's tables
module _ (p : Tree) (rows : List Row) (firsts outcomes : List ℕ)
    (room : enough (trimmed p).size (length rows) (length firsts) (length outcomes) ≡ true) where
  pub rows_left : {l : List ModelRow} → l ≡ put_all (rows_of rows) 0 (trimmed p).rows → l ≡ overwrite (trimmed p).rows (rows_of rows)
  unfolding tables_of
  rows_left e =
      e
      ∙ put_front (rows_of rows) (trimmed p).rows
      (omega (arith, length_heads by_state_lem 0 (trim_tree p).states, length-map rows row_of, (room_for p _ _ _ room).0))

  pub firsts_left : {l : List ℕ} → l ≡ put_all firsts 0 (trimmed p).firsts → l ≡ overwrite (trimmed p).firsts firsts
  unfolding tables_of
  firsts_left e =
      e
      ∙ put_front firsts (trimmed p).firsts
      (omega (arith, length_heads by_command_lem 0 (all_commands (trim_tree p).states), (room_for p _ _ _ room).1))

  pub outcomes_left : {l : List ℕ} → l ≡ put_all outcomes 0 (trimmed p).outcomes → l ≡ overwrite (trimmed p).outcomes outcomes
  unfolding tables_of
  outcomes_left e = e ∙ put_front outcomes (trimmed p).outcomes (room_for p _ _ _ room).2

-- scratch has the new numbers in between, at places that are cleared
pub scratch_left : (k : KeptStates) {l₀ l l' : List ℕ} → k.checked.now.plan.size.n ≤ length l₀ → Numbered k.olds.now l₀ l
    → Filled k.checked.now.plan.size.n (λ _. 0) l l' → l' ≡ overwrite (cleared k.checked.now.plan.size.n) l₀
unfolding cleared
scratch_left k {l₀} long w f =
    filled_is long (filled_from w.same (λ x h. w.others x (λ i l q. omega (arith, kept_inside k i l))) f)
    ∙ ap (λ (xs : List ℕ). overwrite xs l₀) (tabulate_constant 0 0 k.checked.now.plan.size.n)

-- what the tables come to
pub ruleset filling = (rows_left, firsts_left, outcomes_left, scratch_left)
