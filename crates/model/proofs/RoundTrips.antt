-- Both round trips, over what the calls leave in the tables that they are lent.
use mathlib.Core.Path.{◌≡◌, refl, sym, ap, subst, ◌∙◌}
use mathlib.Core.List.{List}
use Prim.Native.Nat.{ℕ, ◌≤◌}
use lib.ListN.{length, take}
use Rattle.laws.specs.Entry.{Bytes}
use Rattle.laws.specs.Lists.{overwrite}
use Rattle.laws.proofs.Lists.{take_written, take_overwrite}
use Rattle.laws.proofs.Parts.{length_heads}
use Rattle.model.specs.Refusal.{Answer, given, answer}
use Rattle.model.specs.File.{Tree}
use Rattle.model.specs.Bytes.{bytes_of}
use Rattle.model.specs.Tables.{Size, Row, Tables, Same, all_commands, tables_of, file_length}
use Rattle.model.specs.Held.{tree_of}
use Rattle.model.specs.Calls.{left, reading, writing, read_call, after_reading, write_call}
use Rattle.model.proofs.Answers.{answer_inv}
use Rattle.model.proofs.Good.{read_good}
use Rattle.model.proofs.ReadBack.{read_back}
use Rattle.model.proofs.ReadForth.{read_forth}
use Rattle.model.proofs.FileLength.{length_bytes, length_same}
use Rattle.model.proofs.Layouts.{by_state_lem, by_command_lem}
use Rattle.model.proofs.SameTables.{held}
use Rattle.model.proofs.SameSound.{same_back, same_on}
use Rattle.model.proofs.TablesBack.{tables_back}
use Rattle.model.proofs.GoodTables.{sound_good, good_sound}
use Rattle.model.proofs.Answering.{reading_iff, writing_iff}

module _ (file : List ℕ) (rows : List Row) (firsts outcomes : List ℕ) where
  -- what a reading that answers leaves is the same as what the file gives
  pub after_same : (T : Tables) → reading (length rows) (length firsts) (length outcomes) file ≡ given T → (p : Tree) → tables_of p ≡ T
      → Same (after_reading T.size file rows firsts outcomes) (tables_of p)
  unfolding left tables_of
  after_same T e p q = rw e (rw (← q) (record {
    size = refl;
    rows = take_written (tables_of p).rows rows _ (length_heads by_state_lem 0 p.states);
    lists = record {
      firsts = take_written (tables_of p).firsts firsts _ (length_heads by_command_lem 0 (all_commands p.states));
      entries = take_written (tables_of p).outcomes outcomes _ refl;
    };
  }))

  -- rule D2c: the file's bytes stand at the front of what was lent, and their number is answered
  pub read_write : Bytes file → (z : Size) → (read_call file rows firsts outcomes).answers ≡ given z
      → (bytes : List ℕ) → length file ≤ length bytes
      → write_call (after_reading z file rows firsts outcomes) bytes ≡ record { answers = given (length file); bytes = overwrite file bytes }
  unfolding answer left
  read_write b z e bytes h =
      let (T, answered, size) = answer_inv (λ (U : Tables). U.size) _ z e in
      let r = (reading_iff (length rows) (length firsts) (length outcomes) file T).0 answered in
      let p = r.tree in
      let same : Same (after_reading z file rows firsts outcomes) (tables_of p) = rw size at (after_same T answered p r.is) in
      let back : bytes_of p ≡ file = read_back file p b r.reads in
      let count : file_length (after_reading z file rows firsts outcomes) ≡ length file = length_same same ∙ sym (length_bytes p)
      ∙ ap length back in
      let written = (writing_iff (after_reading z file rows firsts outcomes) (length bytes) file).1 (record {
        sounds = good_sound _ p (read_good file p r.reads) same;
        long = rw count h;
        is = ap bytes_of (held _ p same) ∙ back;
      }) in
      rw written

front_is : (x : Answer (List ℕ)) (file bytes : List ℕ) (k : ℕ) → x ≡ given file → length file ≡ k → take k (left (λ f. f) x bytes) ≡ file
unfolding left
front_is x file bytes k e count = rw (e, ← count) (take_overwrite file bytes)

-- rule D2d: the file is what stands at the front of the bytes lent
pub write_read : (T : Tables) (bytes : List ℕ) (k : ℕ) → (write_call T bytes).answers ≡ given k
    → (rows : List Row) (firsts outcomes : List ℕ) → T.size.n ≤ length rows → T.size.m ≤ length firsts → T.size.t ≤ length outcomes
    → ((read_call (take k (write_call T bytes).bytes) rows firsts outcomes).answers ≡ given T.size)
    × Same T (after_reading T.size (take k (write_call T bytes).bytes) rows firsts outcomes)
unfolding answer left
write_read T bytes k e rows firsts outcomes long_rows long_firsts long_outcomes =
    let (file, written, count) = answer_inv length (writing T (length bytes)) k e in
    let w = (writing_iff T (length bytes) file).0 written in
    let p = tree_of T in
    let same = tables_back T w.sounds in
    let size : T.size ≡ (tables_of p).size = same.size in
    let front : take k (left (λ f. f) (writing T (length bytes)) bytes)
    ≡ file = front_is (writing T (length bytes)) file bytes k written count in
    let again : reading (length rows) (length firsts) (length outcomes) file ≡ given (tables_of p)
    = (reading_iff (length rows) (length firsts) (length outcomes) file (tables_of p)).1 (record {
      tree = p;
      reads = rw (← w.is) (read_forth p (sound_good T w.sounds));
      is = refl;
      long_rows = rw size at long_rows;
      long_firsts = rw size at long_firsts;
      long_outcomes = rw size at long_outcomes;
    }) in
    let after : Same (after_reading T.size file rows firsts outcomes) (tables_of p)
    = subst (λ (z : Size). Same (after_reading z file rows firsts outcomes) (tables_of p)) (sym size)
    (after_same file rows firsts outcomes (tables_of p) again p refl) in
    subst (λ (f : List ℕ). ((read_call f rows firsts outcomes).answers ≡ given T.size)
    × Same T (after_reading T.size f rows firsts outcomes)) (sym front)
    (rw again (ap given (sym size)), same_on same (same_back after))

-- the length answered is the file's
pub written_length : (T : Tables) (bytes : ℕ) (file : List ℕ) → writing T bytes ≡ given file → length file ≡ file_length T
written_length T bytes file e =
    let w = (writing_iff T bytes file).0 e in
    sym (ap length w.is) ∙ length_bytes (tree_of T) ∙ sym (length_same (tables_back T w.sounds))
