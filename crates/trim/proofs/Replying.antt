-- What the public call answers and leaves, for every input.
use mathlib.Core.Path.{◌≡◌, sym, ap, subst, ◌∙◌}
use mathlib.Core.Bool.{Bool, true, false, ◌&&◌}
use mathlib.Core.List.{List}
use Rattle.std.proofs.Common.{Result, Ok, Err}
use Prim.Native.Nat.{ℕ, ◌≤◌}
use lib.Dec.{leb}
use lib.ListN.{length, length-map}
use Rattle.laws.specs.Lists.{overwrite}
use Rattle.laws.proofs.TestFacts.{and_iff, leb_iff}
use Rattle.model.specs.Refusal.{Refusal as ModelRefusal, given, refused, answer, need, ◌>>◌}
use Rattle.model.specs.Tables.{Size as ModelSize, Tables, enough, tables_of}
use Rattle.model.specs.SoundTest.{sound}
use Rattle.model.specs.Held.{tree_of}
use Rattle.model.specs.Calls.{left, cleared}
use Rattle.model.specs.Trim.{map_of, trim_tree, trimmed, trim_room, trimming, AfterTrim, trim_call}
use Rattle.model.specs.Trimmed.{Trimmed}
use Rattle.model.proofs.TrimTables.{trimmed_tables}
use Rattle.tables.specs.declared.Size.{Size}
use Rattle.tables.specs.declared.Row.{Row}
use Rattle.tables.specs.declared.Refusal.{Refusal}
use Rattle.tables.specs.declared.Refusal.TheVariants.{Cramped, Unsound}
use Rattle.tables.specs.Meaning.{numbers, row_of, rows_of}
use Rattle.trim.specs.Answers.{answer_of, after_trim, leaves}

module _ (T : Tables) (rows : List Row) (firsts outs olds scratch : List ℕ) where
  -- what an answer means follows of the equation
  pub means : (r : Result Size Refusal) (rows' : List Row) (firsts' outs' olds' scratch' : List ℕ)
      → after_trim r rows' firsts' outs' olds' scratch' ≡ trim_call T (rows_of rows) firsts outs olds scratch
      → (z : ModelSize) → answer_of r ≡ given z → Trimmed T (leaves z rows' firsts' outs') olds'
  means r rows' firsts' outs' olds' scratch' e z q =
      subst (λ (x : AfterTrim). Trimmed T (record { size = z; rows = x.rows; firsts = x.firsts; outcomes = x.outcomes }) x.olds)
      (sym e)
      (trimmed_tables T (rows_of rows) firsts outs olds scratch z (sym (ap (λ (x : AfterTrim). x.answers) e) ∙ q))

  -- 10: every table is as it was
  pub refuses_unsound : sound T ≡ false
      → after_trim (Err Unsound) rows firsts outs olds scratch ≡ trim_call T (rows_of rows) firsts outs olds scratch
  unfolding trimming need ◌>>◌ answer left
  refuses_unsound e = rw e

  -- z is the trimmed size record, and r whether there is room for it
  module _ (sounds : sound T ≡ true) {z : Size} (is : numbers z ≡ (trimmed (tree_of T)).size) {r : Bool}
      (e : r ≡ trim_room (numbers z) T.size.n (length rows) (length firsts) (length outs) (length olds) (length scratch)) where
    judged : trimming T (length (rows_of rows)) (length firsts) (length outs) (length olds) (length scratch)
        ≡ (need ModelRefusal.Cramped r >> given (tree_of T))
    unfolding trimming need ◌>>◌
    judged =
        let same : r
        ≡ trim_room (trimmed (tree_of T)).size T.size.n (length (rows_of rows)) (length firsts) (length outs) (length olds)
        (length scratch)
        = e ∙ rw (← is, length-map rows row_of) in
        rw (sounds, same)

    -- 9: every table is as it was
    pub refuses_cramped : r ≡ false
        → after_trim (Err Cramped) rows firsts outs olds scratch ≡ trim_call T (rows_of rows) firsts outs olds scratch
    unfolding need ◌>>◌ answer left
    refuses_cramped f =
        let t : trimming T (length (rows_of rows)) (length firsts) (length outs) (length olds) (length scratch)
        ≡ refused ModelRefusal.Cramped
        = judged ∙ rw f in
        rw t

    -- what an answer asks for
    pub record Room : Type 0 where
      pub plan : enough (trimmed (tree_of T)).size (length rows) (length firsts) (length outs) ≡ true
      pub map : length (trim_tree (tree_of T)).states ≤ length olds
      pub space : T.size.n ≤ length scratch

    pub room : r ≡ true → Room
    unfolding tables_of
    room t =
        let plan = enough (numbers z) (length rows) (length firsts) (length outs) in
        let map = leb z.n (length olds) in
        let (b, c) = (and_iff (plan && map) (leb T.size.n (length scratch))).0 (sym e ∙ t) in
        let (d, f) = (and_iff plan map).0 b in
        record {
          plan = subst (λ (y : ModelSize). enough y (length rows) (length firsts) (length outs) ≡ true) is d;
          map = subst (λ (y : ModelSize). y.n ≤ length olds) is ((leb_iff z.n (length olds)).0 f);
          space = (leb_iff T.size.n (length scratch)).0 c;
        }

    -- an answer
    pub gives : r ≡ true → (rows' : List Row) {firsts' outs' olds' scratch' : List ℕ}
        → rows_of rows' ≡ overwrite (trimmed (tree_of T)).rows (rows_of rows) → firsts' ≡ overwrite (trimmed (tree_of T)).firsts firsts
        → outs' ≡ overwrite (trimmed (tree_of T)).outcomes outs → olds' ≡ overwrite (map_of (tree_of T)) olds
        → scratch' ≡ overwrite (cleared T.size.n) scratch
        → after_trim (Ok z) rows' firsts' outs' olds' scratch' ≡ trim_call T (rows_of rows) firsts outs olds scratch
    unfolding need ◌>>◌ answer left
    gives f rows' {firsts'} {outs'} {olds'} {scratch'} rows_are firsts-are outs-are olds-are scratch-is =
        let t : trimming T (length (rows_of rows)) (length firsts) (length outs) (length olds) (length scratch) ≡ given (tree_of T) = judged
        ∙ rw f in
        rw (t, is, rows_are, firsts-are, outs-are, olds-are, scratch-is)
