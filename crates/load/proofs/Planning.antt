-- What is asked of a lent plan before its tables are read, and what is known of one that passes.
use mathlib.Core.Path.{◌≡◌, ◌∙◌, subst}
use mathlib.Core.Bool.{true, false, ◌&&◌}
use mathlib.Core.List.{List}
use Prim.Native.Nat.{ℕ, ◌/◌, ◌<◌, ◌≤◌}
use lib.ListN.{length}
use borrow.Author.Tests.{le-leb, lt-leb}
use Rattle.laws.proofs.Tests.{and_false_left, and_false_right}
use Rattle.model.specs.Refusal.{Unsound, given, refused, answer, need, ◌>>=◌, ◌>>◌}
use Rattle.model.specs.Tables.{Size as ModelSize, Tables, enough}
use Rattle.model.specs.SoundTest.{tables_long}
use Rattle.model.specs.Boundary.{tables_in, entries_in, rows_in, size_in, entry_bytes, row_bytes, size_bytes}
use Rattle.model.proofs.Lent.{length_entries_in, length_rows_in}
use Rattle.tables.specs.declared.Size.{Size}
use Rattle.tables.specs.Meaning.{numbers}
use Rattle.load.specs.Loading.{few, loading}

-- the size record that is answered
abbrev pub size_of : Tables → ModelSize
size_of T = T.size

module _ (S R F O : List ℕ) where
  -- the plan that is lent
  abbrev pub lent : Tables
  lent = record { size = size_in S; rows = rows_in (entries_in R); firsts = entries_in F; outcomes = entries_in O }

  pub lent_short : length S < size_bytes → tables_in S R F O ≡ refused Unsound
  unfolding tables_in need ◌>>◌
  lent_short h = rw (lt-leb size_bytes (length S) h)

  pub lent_is : size_bytes ≤ length S → tables_in S R F O ≡ given lent
  unfolding tables_in need ◌>>◌
  lent_is h = rw (le-leb size_bytes (length S) h)

  long_is : tables_long lent ≡ enough (size_in S) (length R / row_bytes) (length F / entry_bytes) (length O / entry_bytes)
  unfolding tables_long
  long_is = rw (length_rows_in R, length_entries_in F, length_entries_in O)

  loading_is : size_bytes ≤ length S → loading S R F O
      ≡ (need Unsound (few (size_in S) && enough (size_in S) (length R / row_bytes) (length F / entry_bytes) (length O / entry_bytes)) >> given
      lent)
  unfolding loading ◌>>=◌
  loading_is h = rw (lent_is h, long_is)

  pub loading_short : length S < size_bytes → loading S R F O ≡ refused Unsound
  unfolding loading ◌>>=◌
  loading_short h = rw (lent_short h)

  module _ (h : size_bytes ≤ length S) (z : Size) (e : numbers z ≡ size_in S) where
    pub loading_many : few (numbers z) ≡ false → loading S R F O ≡ refused Unsound
    unfolding need ◌>>◌
    loading_many f =
        let f' : few (size_in S) ≡ false = rw e at f in
        loading_is h ∙ rw (and_false_left (few (size_in S))
        (enough (size_in S) (length R / row_bytes) (length F / entry_bytes) (length O / entry_bytes)) f')

    pub loading_long : enough (numbers z) (length R / row_bytes) (length F / entry_bytes) (length O / entry_bytes) ≡ false → loading S R F O
        ≡ refused Unsound
    unfolding need ◌>>◌
    loading_long f =
        let f' : enough (size_in S) (length R / row_bytes) (length F / entry_bytes) (length O / entry_bytes) ≡ false =
        subst (λ (q : ModelSize). enough q (length R / row_bytes) (length F / entry_bytes) (length O / entry_bytes) ≡ false) e f in
        loading_is h ∙ rw (and_false_right (few (size_in S))
        (enough (size_in S) (length R / row_bytes) (length F / entry_bytes) (length O / entry_bytes)) f')

    pub loading_whole : few (numbers z) ≡ true → enough (numbers z) (length R / row_bytes) (length F / entry_bytes) (length O / entry_bytes)
        ≡ true → loading S R F O ≡ given lent
    unfolding need ◌>>◌
    loading_whole f g =
        let f' : few (size_in S) ≡ true = rw e at f in
        let g' : enough (size_in S) (length R / row_bytes) (length F / entry_bytes) (length O / entry_bytes) ≡ true =
        subst (λ (q : ModelSize). enough q (length R / row_bytes) (length F / entry_bytes) (length O / entry_bytes) ≡ true) e g in
        loading_is h ∙ rw (f', g')

    pub size_answered : loading S R F O ≡ given lent → given (numbers z) ≡ answer size_of (loading S R F O)
    unfolding answer
    size_answered f = rw (f, e)

  pub size_refused : loading S R F O ≡ refused Unsound → refused Unsound ≡ answer size_of (loading S R F O)
  unfolding answer
  size_refused f = rw f
