-- The bytes that the C program's reading leaves, lent to its other calls: they are the tables of the file.
use mathlib.Core.Path.{◌≡◌, refl, sym, ap, ◌∙◌}
use mathlib.Core.Bool.{true}
use mathlib.Core.List.{List, [], ◌∷◌, ◌++◌}
use Prim.Native.Nat.{ℕ, suc, ◌+◌, ◌-◌, ◌*◌, ◌/◌, ◌≤◌}
use native.Mathlib.Omega.{arith}
use lib.Dec.{leb}
use lib.ListN.{length, get_or, drop, length-append, length-drop}
use lib.Seq.{get_or-append-add, get_or-drop}
use borrow.Author.Tests.{le-leb, leb-true}
use Rattle.laws.specs.Lists.{tabulate, overwrite}
use Rattle.laws.specs.Entry.{twos}
use Rattle.laws.proofs.Entry.{be16_two, length_twos}
use Rattle.laws.proofs.Lists.{tabulate_ext, drop_tabulate}
use Rattle.laws.proofs.Parts.{length_heads}
use Rattle.model.specs.Refusal.{Cramped, Answer, given, need, ◌>>◌}
use Rattle.model.specs.File.{Tree, read}
use Rattle.model.specs.Tables.{Size, Row, Tables, Same, all_commands, tables_of}
use Rattle.model.specs.Calls.{left, reading, after_reading}
use Rattle.model.specs.Boundary.{
  entry_bytes,
  row_width,
  row_bytes,
  entries_in,
  bytes_for,
  row_from,
  entries_of,
  rows_in,
  row_entries,
  size_entries,
  size_bytes,
  size_in,
  tables_in,
  gate_read,
  gate_read_call,
}
use Rattle.model.proofs.Answers.{bind_inv, need_inv}
use Rattle.model.proofs.Answering.{reading_iff}
use Rattle.model.proofs.Layouts.{by_state_lem, by_command_lem}
use Rattle.model.proofs.Lent.{length_entries_in, length_rows_in}
use Rattle.model.proofs.RoundTrips.{after_same}
use Rattle.model.proofs.GateDemands.{written_entries, answered}

-- ---- rows written to entries

row_front : (w : Row) (rest : List ℕ) → rows_in (entries_of w ++ rest) ≡ w ∷ rows_in rest
unfolding rows_in tabulate
row_front w rest =
    let all : List ℕ = entries_of w ++ rest in
    let count : length all / row_width ≡ suc (length rest / row_width) = omega arith in
    let row : List ℕ → ℕ → Row = λ es s. row_from (λ i. get_or es (s * row_width + i) 0) in
    ap (tabulate (row all) 0) count
    ∙ ap (λ (r : List Row). w ∷ r) (tabulate_ext (row all) (row rest) 1 0 (length rest / row_width) (λ s l q. row_from (λ i. behind s i q)))
  where
    behind : (s i : ℕ) → get_or (entries_of w ++ rest) ((1 + s) * row_width + i) 0 ≡ get_or rest ((0 + s) * row_width + i) 0
    behind s i =
        let e : (1 + s) * row_width + i ≡ length (entries_of w) + ((0 + s) * row_width + i) = omega arith in
        ap (λ (j : ℕ). get_or (entries_of w ++ rest) j 0) e ∙ get_or-append-add (entries_of w) rest ((0 + s) * row_width + i) 0

rows_front : (ws : List Row) (rest : List ℕ) → rows_in (row_entries ws ++ rest) ≡ ws ++ rows_in rest
unfolding row_entries
rows_front [] rest = refl
rows_front (w ∷ ws) rest = row_front w (row_entries ws ++ rest) ∙ ap (λ (r : List Row). w ∷ r) (rows_front ws rest)

row_entries_lem : (ws : List Row) → length (row_entries ws) ≡ length ws * row_width
unfolding row_entries
row_entries_lem [] = refl
row_entries_lem (w ∷ ws) = let h = row_entries_lem ws in omega (arith, length-append (entries_of w) (row_entries ws))

rows_drop : (k : ℕ) (l : List ℕ) → rows_in (drop (k * row_width) l) ≡ drop k (rows_in l)
unfolding rows_in
rows_drop k l =
    let row : List ℕ → ℕ → Row = λ es s. row_from (λ i. get_or es (s * row_width + i) 0) in
    let count : length (drop (k * row_width) l) / row_width ≡ length l / row_width - k = omega (arith, length-drop (k * row_width) l) in
    ap (tabulate (row (drop (k * row_width) l)) 0) count
    ∙ tabulate_ext (row (drop (k * row_width) l)) (row l) 0 (0 + k) (length l / row_width - k) (λ s h q. row_from (λ i. behind s i q))
    ∙ sym (drop_tabulate (row l) 0 k (length l / row_width))
  where
    behind : (s i : ℕ) → get_or (drop (k * row_width) l) ((0 + s) * row_width + i) 0 ≡ get_or l ((0 + k + s) * row_width + i) 0
    behind s i =
        let e : k * row_width + ((0 + s) * row_width + i) ≡ (0 + k + s) * row_width + i = omega arith in
        get_or-drop (k * row_width) l ((0 + s) * row_width + i) 0 ∙ ap (λ (j : ℕ). get_or l j 0) e

rows_overwritten : (ws : List Row) (table : List ℕ) → rows_in (overwrite (row_entries ws) table) ≡ overwrite ws (rows_in table)
unfolding overwrite
rows_overwritten ws table =
    rows_front ws (drop (length (row_entries ws)) table)
    ∙ ap (λ (r : List Row). ws ++ r) (ap (λ (k : ℕ). rows_in (drop k table)) (row_entries_lem ws) ∙ rows_drop (length ws) table)

written_rows : (ws : List Row) (s : List ℕ) → length ws * row_bytes ≤ length s
    → rows_in (entries_in (overwrite (bytes_for (row_entries ws)) s)) ≡ overwrite ws (rows_in (entries_in s))
written_rows ws s h = ap rows_in (written_entries (row_entries ws) s (omega (arith, h, row_entries_lem ws))) ∙ rows_overwritten ws (entries_in s)

-- ---- the size record

module _ (z : Size) (s : List ℕ) (h : 8 ≤ length s) where
  after : List ℕ
  after = overwrite (bytes_for (size_entries z)) s

  size_long : leb 8 (length after) ≡ true
  unfolding after overwrite size_entries twos
  size_long =
      let es = twos (size_entries z) [] in
      le-leb 8 (length (es ++ drop (length es) s)) (omega (arith, h, length-append es (drop (length es) s), length_twos (size_entries z) []))

  size_back : size_in after ≡ z
  unfolding after overwrite size_entries twos
  size_back = λ i. record { n = be16_two z.n [] i; m = be16_two z.m [] i; t = be16_two z.t [] i; start = be16_two z.start [] i }

-- ---- the plan that was read

module _ (file size rows firsts outcomes : List ℕ) where
  -- what other calls are lent, as tables
  abbrev lent : Tables → Tables
  lent T = after_reading T.size file (rows_in (entries_in rows)) (entries_in firsts) (entries_in outcomes)

  module _ (T : Tables) (answers : reading (length (rows_in (entries_in rows))) (length (entries_in firsts)) (length (entries_in outcomes)) file
      ≡ given T)
      (long_size : size_bytes ≤ length size) (long_rows : length T.rows * row_bytes ≤ length rows)
      (long_firsts : length T.firsts * entry_bytes ≤ length firsts)
      (long_outcomes : length T.outcomes * entry_bytes ≤ length outcomes) where
    tables_back : tables_in (overwrite (bytes_for (size_entries T.size)) size) (overwrite (bytes_for (row_entries T.rows)) rows)
        (overwrite (bytes_for T.firsts) firsts) (overwrite (bytes_for T.outcomes) outcomes) ≡ given (lent T)
    unfolding tables_in left need ◌>>◌ after
    tables_back = rw (size_long T.size size long_size, answers) (λ i. given (record {
      size = size_back T.size size long_size i;
      rows = written_rows T.rows rows long_rows i;
      firsts = written_entries T.firsts firsts long_firsts i;
      outcomes = written_entries T.outcomes outcomes long_outcomes i;
    }))

    left_back : (x : Answer Tables) → x ≡ given T
        → tables_in (left (λ U. bytes_for (size_entries U.size)) x size) (left (λ U. bytes_for (row_entries U.rows)) x rows)
        (left (λ U. bytes_for U.firsts) x firsts) (left (λ U. bytes_for U.outcomes) x outcomes) ≡ given (lent T)
    unfolding left
    left_back x e = rw e tables_back

  -- of a call that returned 0, the slices that it left are the plan of the file, up to its counts
  pub gate_read_again : (gate_read_call file size rows firsts outcomes).returns ≡ 0
      → (p : Tree) × (read file ≡ given p)
      × (tables_in (gate_read_call file size rows firsts outcomes).size (gate_read_call file size rows firsts outcomes).rows
      (gate_read_call file size rows firsts outcomes).firsts (gate_read_call file size rows firsts outcomes).outcomes
      ≡ given (lent (tables_of p)))
      × Same (lent (tables_of p)) (tables_of p)
  unfolding gate_read tables_of
  gate_read_again e =
      let (T, t) = answered (gate_read file (length size) (length rows) (length firsts) (length outcomes)) e in
      let (U, r, f) = bind_inv (reading (length rows / row_bytes) (length firsts / entry_bytes) (length outcomes / entry_bytes) file) _ t in
      let (l, g) = need_inv Cramped (leb size_bytes (length size)) (given U) f in
      let a = (reading_iff (length rows / row_bytes) (length firsts / entry_bytes) (length outcomes / entry_bytes) file T).0 (r ∙ g) in
      let p = a.tree in
      let back : given T ≡ given (tables_of p) = ap given (sym a.is) in
      let size_is : T.size ≡ (tables_of p).size = ap (λ (W : Tables). W.size) (sym a.is) in
      let answers : reading (length (rows_in (entries_in rows))) (length (entries_in firsts)) (length (entries_in outcomes)) file
      ≡ given (tables_of p)
      = rw (length_rows_in rows, length_entries_in firsts, length_entries_in outcomes) (r ∙ g ∙ back) in (
        p,
        a.reads,
        left_back (tables_of p) answers (leb-true size_bytes (length size) l)
            (omega (arith, a.long_rows, ap (λ (z : Size). z.n) size_is, length_heads by_state_lem 0 p.states))
            (omega (arith, a.long_firsts, ap (λ (z : Size). z.m) size_is, length_heads by_command_lem 0 (all_commands p.states)))
            (omega (arith, a.long_outcomes, ap (λ (z : Size). z.t) size_is))
            (gate_read file (length size) (length rows) (length firsts) (length outcomes)) (t ∙ back),
        after_same file (rows_in (entries_in rows)) (entries_in firsts) (entries_in outcomes) (tables_of p) answers p refl,
      )
