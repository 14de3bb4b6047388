-- All three tables of a plan that are filled with states: what is left to write, and where the tables end.
use mathlib.Core.Path.{◌≡◌, refl, sym, ap, ◌∙◌}
use mathlib.Core.List.{List, [], ◌∷◌}
use Prim.Native.Nat.{ℕ, ◌+◌}
use native.Mathlib.Omega.{arith}
use lib.ListN.{length, set, length-map}
use Rattle.laws.specs.Lists.{joined}
use Rattle.laws.specs.Writes.{put_all}
use Rattle.laws.proofs.Writes.{length_put}
use Rattle.model.specs.File.{State}
use Rattle.model.specs.Tables.{Row as ModelRow, all_commands, row_for, rows_from, firsts_from}
use Rattle.tables.specs.declared.Row.{Row}
use Rattle.tables.specs.Meaning.{row_of, rows_of}
use Rattle.tables.proofs.Filling.{Filling, filling_start, filling_some, filling_end}
use Rattle.tables.proofs.StoredRows.{row_stored}

-- the filling has come to row i as well; when the states left are written it has come to row I, and the rows are R
pub record StatesFilling (R : List ModelRow) (F O : List ℕ) (I M N : ℕ) (rows : List Row) (firsts outs : List ℕ) (i m t : ℕ)
    (ss : List State) : Type 0 where
  pub put_rows : put_all (rows_of rows) i (rows_from m ss) ≡ R
  pub in_rows : i + length ss ≡ I
  pub lists : Filling F O M N firsts outs m t (all_commands ss)

pub states_start : (rows : List Row) (firsts outs : List ℕ) (i m t : ℕ) (ss : List State)
    → let cs : List (List ℕ) = all_commands ss in
    StatesFilling (put_all (rows_of rows) i (rows_from m ss)) (put_all firsts m (firsts_from t cs)) (put_all outs t (joined cs))
    (i + length ss) (m + length cs) (t + length (joined cs)) rows firsts outs i m t ss
states_start rows firsts outs i m t ss = record { put_rows = refl; in_rows = refl; lists = filling_start firsts outs m t (all_commands ss) }

module _ {R : List ModelRow} {F O : List ℕ} {I M N : ℕ} {rows : List Row} {firsts outs : List ℕ} {i m t : ℕ} where
  pub rows_long : {ss : List State} → StatesFilling R F O I M N rows firsts outs i m t ss → length rows ≡ length R
  rows_long {ss} f = sym (length-map rows row_of) ∙ sym (length_put (rows_of rows) i (rows_from m ss)) ∙ ap length f.put_rows

  -- a state is written: its row, and its commands
  pub states_next : (s : State) (ss : List State) → StatesFilling R F O I M N rows firsts outs i m t (s ∷ ss)
      → {row : Row} {rows' : List Row} {firsts' outs' : List ℕ} → row_of row ≡ row_for m s → rows' ≡ set rows i row
      → firsts' ≡ put_all firsts m (firsts_from t s.commands) → outs' ≡ put_all outs t (joined s.commands)
      → StatesFilling R F O I M N rows' firsts' outs' (i + 1) (m + length s.commands) (t + length (joined s.commands)) ss
  unfolding all_commands put_all rows_from
  states_next s ss f {row} r p q o = record {
    put_rows = rw (p, row_stored rows i row, r) f.put_rows;
    in_rows = omega (arith, f.in_rows);
    lists = filling_some s.commands (all_commands ss) f.lists q o;
  }

  -- nothing is left
  pub states_end : StatesFilling R F O I M N rows firsts outs i m t [] → (rows_of rows ≡ R) × (firsts ≡ F) × (outs ≡ O)
  unfolding put_all rows_from all_commands
  states_end f = let (p, o, _, _) = filling_end f.lists in (f.put_rows, p, o)
