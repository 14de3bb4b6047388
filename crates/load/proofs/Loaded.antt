-- What a plan answer says of the lent plan, and what is left in the tables by it.
use mathlib.Core.Path.{◌≡◌, sym, ap, ◌∙◌}
use mathlib.Core.Bool.{true, ◌&&◌}
use mathlib.Core.List.{List}
use Prim.Native.Nat.{ℕ, ◌*◌, ◌≤◌}
use native.Mathlib.Omega.{arith}
use lib.Dec.{leb}
use lib.ListN.{length}
use Rattle.laws.specs.Lists.{overwrite}
use Rattle.laws.proofs.TestFacts.{and_iff, leb_iff}
use Rattle.model.specs.File.{max_states, max_commands, max_outcomes}
use Rattle.model.specs.Refusal.{Refusal as ModelRefusal, Unsound, given, refused, answer}
use Rattle.model.specs.Tables.{Size as ModelSize, Tables}
use Rattle.model.specs.SoundTest.{tables_long}
use Rattle.model.specs.Calls.{left}
use Rattle.model.specs.Boundary.{tables_in, entries_in, rows_in, entry_bytes, row_bytes, size_bytes}
use Rattle.model.proofs.Answers.{given_inj, need_inv, bind_inv, answer_inv, answer_refused}
use Rattle.model.proofs.Gates.{given_left, refused_left}
use Rattle.model.proofs.Lent.{length_entries_in, length_rows_in}
use Rattle.tables.specs.declared.Size.{Size}
use Rattle.tables.specs.declared.Refusal.{Refusal}
use Rattle.tables.specs.Meaning.{numbers, refusal_of}
use Rattle.std.specs.Prelude.{Result, Ok, Err}
use Rattle.load.specs.Loading.{answer_of, few, loading}
use Rattle.load.proofs.Planning.{size_of}

module _ (S R F O : List ℕ) where
  -- the lent plan with its size record
  abbrev pub lent_with : ModelSize → Tables
  lent_with z = record { size = z; rows = rows_in (entries_in R); firsts = entries_in F; outcomes = entries_in O }

  -- the plan is given: its counts are within the limits, and within the slices
  pub record Within (z : Size) : Type 0 where
    pub lends : tables_in S R F O ≡ given (lent_with (numbers z))
    pub loads : loading S R F O ≡ given (lent_with (numbers z))
    pub few_states : z.n ≤ max_states
    pub few_commands : z.m ≤ max_commands
    pub few_outcomes : z.t ≤ max_outcomes
    pub rows : z.n * row_bytes ≤ length R
    pub firsts : z.m * entry_bytes ≤ length F
    pub outcomes : z.t * entry_bytes ≤ length O

  lent_size : (T : Tables) → tables_in S R F O ≡ given T → lent_with T.size ≡ T
  unfolding tables_in
  lent_size T e = let q = given_inj (need_inv Unsound (leb size_bytes (length S)) _ e).1 in rw (← q)

  loading_inv : (T : Tables) → loading S R F O ≡ given T → (tables_in S R F O ≡ given T) × (few T.size && tables_long T ≡ true)
  unfolding loading
  loading_inv T e =
      let (U, lends, f) = bind_inv (tables_in S R F O) _ e in
      let (fits, q) = need_inv Unsound (few U.size && tables_long U) _ f in
      let same : U ≡ T = given_inj q in
      (rw same at lends, rw same at fits)

  module _ (p : Result Size Refusal) (says : answer_of p ≡ answer size_of (loading S R F O)) where
    pub within : (z : Size) → p ≡ Ok z → Within z
    unfolding few tables_long
    within z e =
        let (T, loads, is) = answer_inv size_of (loading S R F O) (numbers z) (sym says ∙ ap answer_of e) in
        let (lends, fits) = loading_inv T loads in
        let same : lent_with (numbers z) ≡ T = rw is at (lent_size T lends) in
        let h = simp (and_iff, leb_iff) at (rw (← same) at fits) in
        record {
          lends = rw same lends;
          loads = rw same loads;
          few_states = h.0.0.0;
          few_commands = h.0.0.1;
          few_outcomes = h.0.1;
          rows = omega (arith, h.1.0.0, length_rows_in R);
          firsts = omega (arith, h.1.0.1, length_entries_in F);
          outcomes = omega (arith, h.1.1, length_entries_in O);
        }

    pub no_plan : (r : Refusal) → p ≡ Err r → loading S R F O ≡ refused (refusal_of r)
    no_plan r e = answer_refused size_of (loading S R F O) (refusal_of r) (sym says ∙ ap answer_of e)

  -- what is answered, and what is left in a table
  module _ {z : Size} (w : Within z) where
    pub answers : given (numbers z) ≡ answer size_of (loading S R F O)
    unfolding answer
    answers = rw w.loads

    pub fills : {A : Type 0} (f : Tables → List A) (l : List A) {l' : List A} → l' ≡ overwrite (f (lent_with (numbers z))) l → l'
        ≡ left f (loading S R F O) l
    fills f l e = given_left w.loads f l e

  module _ {r : ModelRefusal} (e : loading S R F O ≡ refused r) where
    pub keeps : {A : Type 0} (f : Tables → List A) (l : List A) → l ≡ left f (loading S R F O) l
    keeps f l = refused_left e f l
