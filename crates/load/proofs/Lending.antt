-- What the callers of `load_plan` learn: a plan that is refused is unsound, and the tables read agree with those lent.
use mathlib.Core.Path.{◌≡◌, refl, sym, ap, ◌∙◌}
use mathlib.Core.Bool.{true, false, ◌&&◌}
use mathlib.Core.List.{List}
use mathlib.Core.Logic.{⊎_elim}
use Prim.Native.Nat.{ℕ, ◌≤◌}
use native.Mathlib.Omega.{arith}
use lib.ListN.{length, take}
use lib.Seq.{length-take-le}
use Rattle.laws.proofs.Lists.{take_overwritten}
use Rattle.laws.proofs.Tests.{refute, clash, true_or_false}
use Rattle.laws.proofs.TestFacts.{and_iff, leb_iff}
use Rattle.model.specs.Refusal.{Refusal as ModelRefusal, Unsound, Answer, given, refused, answer, need, ◌>>=◌, ◌>>◌}
use Rattle.model.specs.Tables.{Row as ModelRow, Tables, Same}
use Rattle.model.specs.SoundTest.{tables_long, sound}
use Rattle.model.specs.Calls.{left}
use Rattle.model.specs.Boundary.{tables_in, entries_in, rows_in}
use Rattle.model.proofs.Answers.{not_both, refused_inj}
use Rattle.model.proofs.Lent.{length_entries_in, length_rows_in}
use Rattle.model.proofs.SoundFacts.{sound_facts}
use Rattle.tables.specs.declared.Size.{Size}
use Rattle.tables.specs.declared.Row.{Row}
use Rattle.tables.specs.declared.Refusal.{Refusal}
use Rattle.tables.specs.Meaning.{numbers, refusal_of, rows_of, held}
use Rattle.std.specs.Prelude.{Result, Ok, Err}
use Rattle.load.specs.Loading.{answer_of, few, loading}
use Rattle.load.proofs.Planning.{size_of}
use Rattle.load.proofs.Loaded.{Within, within, no_plan, lent_with}

-- a call that comes to the plan lent first, refuses an unsound one with 10 and answers the same on tables that agree
pub record PlanCall {A : Type 0} (call : Answer Tables → Answer A) : Type 0 where
  pub first : (lent : Answer Tables) → call lent ≡ (lent >>= λ T. call (given T))
  pub unsound : (T : Tables) → sound T ≡ false → call (given T) ≡ refused Unsound
  pub same : {T U : Tables} → Same T U → call (given T) ≡ call (given U)

-- a sound plan is within the limits, and its tables are long enough
sound_held : (T : Tables) → sound T ≡ true → few T.size && tables_long T ≡ true
unfolding few tables_long
sound_held T e =
    let f = (sound_facts T).0 e in
    simp (and_iff, leb_iff)
    (((f.size.few, f.size.few_commands), f.size.few_outcomes), ((f.long.rows, f.long.lists.firsts), f.long.lists.entries))

-- what is made of the lent plan, where that is refused with 10 if the plan is unsound
module _ {A : Type 0} (make : Tables → Answer A) (unsound : (T : Tables) → sound T ≡ false → make T ≡ refused Unsound) (r : ModelRefusal)
  where
    refused_with_lem : (lent : Answer Tables) → (lent >>= λ T. need Unsound (few T.size && tables_long T) >> given T) ≡ refused r
        → (lent >>= make) ≡ refused r
    unfolding ◌>>=◌ ◌>>◌ need
    refused_with_lem (refused q) e = ap refused (refused_inj e)
    refused_with_lem (given T) e =
        ⊎_elim
        (λ h. absurd (not_both (sym (rw h at e))))
        (λ h. unsound T (refute (sound T) (λ s. clash (sound_held T s) h)) ∙ ap refused (refused_inj (rw h at e)))
        (true_or_false (few T.size && tables_long T))

module _ (S R F O : List ℕ) (p : Result Size Refusal) (says : answer_of p ≡ answer size_of (loading S R F O)) where
  lent_refused : {A : Type 0} (make : Tables → Answer A) → ((T : Tables) → sound T ≡ false → make T ≡ refused Unsound)
      → (r : Refusal) → p ≡ Err r → (tables_in S R F O >>= make) ≡ refused (refusal_of r)
  unfolding loading
  lent_refused make unsound r e = refused_with_lem make unsound (refusal_of r) (tables_in S R F O) (no_plan S R F O p says r e)

  module _ (z : Size) (e : p ≡ Ok z) where
    w : Within S R F O z
    w = within S R F O p says z e

    lent_given : tables_in S R F O ≡ given (lent_with S R F O (numbers z))
    lent_given = w.lends

    -- the first places of a table that was filled
    front : {A : Type 0} (f : Tables → List A) (n : ℕ) (xs l l' : List A) → n ≤ length xs → f (lent_with S R F O (numbers z)) ≡ take n xs
        → l' ≡ left f (loading S R F O) l → take n l' ≡ take n xs
    unfolding left
    front f n xs l l' h is g =
        rw (rw (w.loads, is) at g) (take_overwritten n (take n xs) l (length-take-le n xs h))

    lent_same : (rows₀ : List ModelRow) (rows₁ : List Row) (firsts₀ firsts₁ outcomes₀ outcomes₁ : List ℕ)
        → rows_of rows₁ ≡ left (λ (T : Tables). take T.size.n T.rows) (loading S R F O) rows₀
        → firsts₁ ≡ left (λ (T : Tables). take T.size.m T.firsts) (loading S R F O) firsts₀
        → outcomes₁ ≡ left (λ (T : Tables). take T.size.t T.outcomes) (loading S R F O) outcomes₀
        → Same (held z rows₁ firsts₁ outcomes₁) (lent_with S R F O (numbers z))
    lent_same rows₀ rows₁ firsts₀ firsts₁ outcomes₀ outcomes₁ rs fs os = record {
      size = refl;
      rows = front (λ T. take T.size.n T.rows) z.n (rows_in (entries_in R)) rows₀ (rows_of rows₁)
          (omega (arith, w.rows, length_rows_in R)) refl rs;
      lists = record {
        firsts = front (λ T. take T.size.m T.firsts) z.m (entries_in F) firsts₀ firsts₁
            (omega (arith, w.firsts, length_entries_in F)) refl fs;
        entries = front (λ T. take T.size.t T.outcomes) z.t (entries_in O) outcomes₀ outcomes₁
            (omega (arith, w.outcomes, length_entries_in O)) refl os;
      };
    }

  module _ {A : Type 0} {call : Answer Tables → Answer A} (calls : PlanCall call) where
    pub call_refused : (r : Refusal) → p ≡ Err r → call (tables_in S R F O) ≡ refused (refusal_of r)
    call_refused r e = calls.first (tables_in S R F O) ∙ lent_refused (λ T. call (given T)) calls.unsound r e

    pub call_given : (z : Size) → p ≡ Ok z → (rows₀ : List ModelRow) (rows₁ : List Row) (firsts₀ firsts₁ outcomes₀ outcomes₁ : List ℕ)
        → rows_of rows₁ ≡ left (λ (T : Tables). take T.size.n T.rows) (loading S R F O) rows₀
        → firsts₁ ≡ left (λ (T : Tables). take T.size.m T.firsts) (loading S R F O) firsts₀
        → outcomes₁ ≡ left (λ (T : Tables). take T.size.t T.outcomes) (loading S R F O) outcomes₀
        → call (given (held z rows₁ firsts₁ outcomes₁)) ≡ call (tables_in S R F O)
    call_given z e rows₀ rows₁ firsts₀ firsts₁ outcomes₀ outcomes₁ rs fs os =
        rw (lent_given z e) (calls.same (lent_same z e rows₀ rows₁ firsts₀ firsts₁ outcomes₀ outcomes₁ rs fs os))
