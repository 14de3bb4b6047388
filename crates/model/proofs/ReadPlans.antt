-- The plan that a reading leaves in tables that are long enough for every plan.
use mathlib.Core.Path.{◌≡◌, refl, sym, ap, ◌∙◌}
use mathlib.Core.Bool.{true}
use mathlib.Core.Logic.{◌⊎◌, inl, inr}
use mathlib.Core.List.{List}
use Prim.Native.Nat.{ℕ, ◌≤◌}
use native.Mathlib.Omega.{arith}
use lib.ListN.{length}
use Rattle.model.specs.Refusal.{Refusal, given, refused, ◌>>=◌}
use Rattle.model.specs.File.{max_states, max_commands, max_outcomes, Tree, read}
use Rattle.model.specs.Tables.{Size, Row, Tables, Same, tables_of}
use Rattle.model.specs.SoundTest.{sound}
use Rattle.model.specs.Held.{tree_of}
use Rattle.model.specs.Calls.{reading, read_call, after_reading}
use Rattle.model.proofs.Answers.{not_both, refused_inj, answer_inv, one_answer}
use Rattle.model.proofs.Good.{read_good}
use Rattle.model.proofs.SameTables.{held}
use Rattle.model.proofs.GoodTables.{good_sound}
use Rattle.model.proofs.Answering.{reading_iff}
use Rattle.model.proofs.RoundTrips.{after_same}

-- the plan is sound, and its tree is the file's
pub reads_plan : (file : List ℕ) (rows : List Row) (firsts outcomes : List ℕ) (z : Size) → (read_call file rows firsts outcomes).answers
    ≡ given z
    → (sound (after_reading z file rows firsts outcomes) ≡ true) × (read file ≡ given (tree_of (after_reading z file rows firsts outcomes)))
reads_plan file rows firsts outcomes z e =
    let (T, answered, size) = answer_inv (λ (U : Tables). U.size) _ z e in
    let r = (reading_iff (length rows) (length firsts) (length outcomes) file T).0 answered in
    let same : Same (after_reading z file rows firsts outcomes) (tables_of r.tree) = rw size at
    (after_same file rows firsts outcomes T answered r.tree r.is) in
    (good_sound _ r.tree (read_good file r.tree r.reads) same, rw (held _ r.tree same) r.reads)

module _ (rows firsts outcomes : ℕ) (long_rows : max_states ≤ rows) (long_firsts : max_commands ≤ firsts)
    (long_outcomes : max_outcomes ≤ outcomes) where
  file_read : (file : List ℕ) (p : Tree) → read file ≡ given p → reading rows firsts outcomes file ≡ given (tables_of p)
  unfolding tables_of
  file_read file p e =
      let g = read_good file p e in
      (reading_iff rows firsts outcomes file (tables_of p)).1 (record {
        tree = p;
        reads = e;
        is = refl;
        long_rows = omega (arith, g.few);
        long_firsts = omega (arith, g.few_commands);
        long_outcomes = omega (arith, g.few_outcomes);
      })

  -- only the file itself is refused
  pub refuses_file : (file : List ℕ) (r : Refusal) → reading rows firsts outcomes file ≡ refused r → read file ≡ refused r
  unfolding reading ◌>>=◌
  refuses_file file r e = go (one_answer file)
    where
      go : ((p : Tree) × (read file ≡ given p)) ⊎ ((w : Refusal) × (read file ≡ refused w)) → read file ≡ refused r
      go (inl (p, q)) = absurd (not_both (sym e ∙ file_read file p q))
      go (inr (w, q)) = q ∙ ap refused (refused_inj (rw q at e))
