-- The loop that copies the kept states: what is left to write are the trimmed states from i on.
use mathlib.Core.Path.{◌≡◌, ap, ◌∙◌}
use mathlib.Core.Bool.{true}
use mathlib.Core.List.{List}
use Prim.Native.Nat.{ℕ, ◌+◌, ◌<◌, ◌≤◌}
use native.Mathlib.Omega.{arith}
use lib.ListN.{length, set, length-map, length-append}
use Rattle.laws.specs.Lists.{joined}
use Rattle.laws.specs.Wrote.{Wrote}
use Rattle.laws.specs.Writes.{put_all}
use Rattle.laws.proofs.Joins.{length_joined}
use Rattle.laws.proofs.Parts.{length_heads}
use Rattle.laws.proofs.Writes.{length_put}
use Rattle.model.specs.File.{State, Tree, max_commands, max_outcomes}
use Rattle.model.specs.Tables.{all_commands, enough, rows_from, firsts_from, row_for, tables_of}
use Rattle.model.specs.Trim.{trim_tree, trimmed}
use Rattle.model.proofs.Answering.{enough_iff}
use Rattle.model.proofs.Layouts.{by_command_lem}
use Rattle.model.proofs.Good.{Good}
use Rattle.model.proofs.TrimGood.{trim_good}
use Rattle.tables.specs.declared.Row.{Row}
use Rattle.tables.specs.Meaning.{row_of, rows_of}
use Rattle.tables.proofs.Filling.{filling_long}
use Rattle.tables.proofs.StatesFilling.{StatesFilling, states_next, states_end, rows_long}
use Rattle.trim.proofs.LeftStates.{trimmed_at, left_from, left_next, left_none}

-- tables of so many places have one for each state, command and outcome
pub room_for : (p : Tree) (rows firsts outcomes : ℕ) → enough (trimmed p).size rows firsts outcomes ≡ true
    → (length (trim_tree p).states ≤ rows) × (length (all_commands (trim_tree p).states) ≤ firsts)
    × (length (joined (all_commands (trim_tree p).states)) ≤ outcomes)
unfolding tables_of
room_for p rows firsts outcomes e = let h = (enough_iff (trimmed p).size rows firsts outcomes).0 e in (h.0.0, h.0.1, h.1)

-- rows₀, firsts₀ and outs₀ are the tables before; the loop has come to row i, command m and outcome t
pub record Copying (p : Tree) (rows₀ : List Row) (firsts₀ outs₀ : List ℕ) (rows : List Row) (firsts outs : List ℕ) (i m t : ℕ)
    : Type 0 where
  pub left : let ss = (trim_tree p).states in
      let cs : List (List ℕ) = all_commands ss in
      StatesFilling (put_all (rows_of rows₀) 0 (rows_from 0 ss)) (put_all firsts₀ 0 (firsts_from 0 cs)) (put_all outs₀ 0 (joined cs))
      (0 + length ss) (0 + length cs) (0 + length (joined cs)) rows firsts outs i m t (left_from p i)

module _ {p : Tree} {rows₀ : List Row} {firsts₀ outs₀ : List ℕ} where
  module _ {rows : List Row} {firsts outs : List ℕ} {i m t : ℕ} (c : Copying p rows₀ firsts₀ outs₀ rows firsts outs i m t) where
    -- the tables are as long as before
    pub copying_rows : length rows ≡ length rows₀
    copying_rows = rows_long c.left ∙ length_put (rows_of rows₀) 0 _ ∙ length-map rows₀ row_of

    pub copying_firsts : length firsts ≡ length firsts₀
    copying_firsts = (filling_long c.left.lists).0 ∙ length_put firsts₀ 0 _

    pub copying_outs : length outs ≡ length outs₀
    copying_outs = (filling_long c.left.lists).1 ∙ length_put outs₀ 0 _

    -- no count is above its limit
    pub copying_few : Good p → (m ≤ max_commands) × (t ≤ max_outcomes)
    copying_few g =
        let after = trim_good p g in
        (omega (arith, c.left.lists.in_firsts, after.few_commands), omega (arith, c.left.lists.in_outs, after.few_outcomes))

    module _ (l : i < length (trim_tree p).states) where
      -- there is room for the next state's commands and outcomes
      pub copying_room : (m + length (trimmed_at p i).commands ≤ length (all_commands (trim_tree p).states))
          × (t + length (joined (trimmed_at p i).commands) ≤ length (joined (all_commands (trim_tree p).states)))
      unfolding all_commands
      copying_room =
          let e = left_next p i l in
          let rest = all_commands (left_from p (i + 1)) in (
            omega (
              arith,
              c.left.lists.in_firsts,
              ap (λ (ss : List State). length (all_commands ss)) e,
              length-append (trimmed_at p i).commands rest,
            ),
            omega (
              arith,
              c.left.lists.in_outs,
              ap (λ (ss : List State). length (joined (all_commands ss))) e,
              length_joined (trimmed_at p i).commands rest,
            ),
          )

      pub copying_next : {row : Row} {rows' : List Row} {firsts' outs' : List ℕ} {m' t' : ℕ}
          → row_of row ≡ row_for m (trimmed_at p i) → rows' ≡ set rows i row
          → Wrote firsts m (firsts_from t (trimmed_at p i).commands) firsts' m'
          → Wrote outs t (joined (trimmed_at p i).commands) outs' t'
          → Copying p rows₀ firsts₀ outs₀ rows' firsts' outs' (i + 1) m' t'
      copying_next {m' = m'} r w f o =
          let ss = left_from p (i + 1) in
          let next = states_next (trimmed_at p i) ss (rw (left_next p i l) at c.left) r w f.stored o.stored in
          let m_is : m + length (trimmed_at p i).commands
          ≡ m' = omega (arith, f.past, length_heads by_command_lem t (trimmed_at p i).commands) in
          record { left = rw (m_is, ← o.past) at next }

    pub copying_done : length (trim_tree p).states ≤ i
        → (rows_of rows ≡ put_all (rows_of rows₀) 0 (trimmed p).rows) × ((firsts ≡ put_all firsts₀ 0 (trimmed p).firsts)
        × (outs ≡ put_all outs₀ 0 (trimmed p).outcomes))
    unfolding tables_of
    copying_done h = let (r, f, o) = states_end (rw (left_none p i h) at c.left) in (r, (f, o))
