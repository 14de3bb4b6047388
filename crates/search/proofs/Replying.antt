-- What the public call answers, for every input.
use mathlib.Core.Path.{◌≡◌, refl, ◌∙◌, ap, subst, sym}
use mathlib.Core.Bool.{Bool, true, false}
use mathlib.Core.Logic.{◌⊎◌, ⊎_elim}
use mathlib.Core.List.{List}
use Prim.Native.Nat.{ℕ, ◌<◌, ◌≤◌}
use lib.ListN.{length}
use borrow.Author.Tests.{le-leb, lt-leb}
use Rattle.std.specs.Prelude.{Result, Ok, Err}
use Rattle.laws.specs.Lists.{overwrite}
use Rattle.laws.proofs.Fills.{filled_is, tabulate_constant}
use Rattle.model.specs.Search.{Result as ModelResult, search}
use Rattle.model.specs.Refusal.{Answer, Cramped as ModelCramped, given, refused, answer}
use Rattle.model.specs.Tables.{Tables}
use Rattle.model.specs.SoundTest.{sound}
use Rattle.model.specs.Held.{plan_in}
use Rattle.model.specs.Calls.{left, searching, result_table, cleared, AfterSearch, search_call}
use Rattle.model.specs.Demand3.{SearchDemand3}
use Rattle.model.proofs.Answering.{searching_iff}
use Rattle.model.proofs.StateCalls.{room_test, searching_tests, state_unsound, state_stranger, state_own}
use Rattle.model.proofs.Delivered.{search_demand3}
use Rattle.tables.specs.declared.Refusal.{Refusal}
use Rattle.tables.specs.declared.Refusal.TheVariants.{Unsound, Stranger, Cramped}
use Rattle.tables.specs.Meaning.{refusal_of}
use Rattle.search.specs.declared.Found.{Found}
use Rattle.search.specs.Ends.{Answered}
use Rattle.search.specs.Answers.{answer_of, after_search}

module _ (T : Tables) (a : ℕ) (c s : List ℕ) where
  abbrev found : Answer ModelResult
  found = searching T a (length c) (length s)

  -- the contract, clause by clause
  abbrev pub Replied : Result Found Refusal → List ℕ → List ℕ → Type 0
  Replied r c' s' =
      (after_search r c' s' ≡ search_call T a c s)
      × ((lost : Bool) (rounds : ℕ) → answer_of r ≡ given (lost, rounds) → SearchDemand3 T a lost rounds c')

  -- demand 3 follows of the equation
  replied : (r : Result Found Refusal) (c' s' : List ℕ) → after_search r c' s' ≡ search_call T a c s → Replied r c' s'
  replied r c' s' e = (
    e,
    λ lost rounds g. subst (SearchDemand3 T a lost rounds) (sym (ap (λ (x : AfterSearch). x.commands) e))
        (search_demand3 T a c s lost rounds (sym (ap (λ (x : AfterSearch). x.answers) e) ∙ g)),
  )

  -- refused: every table is as it was
  refuses : (w : Refusal) → found ≡ refused (refusal_of w) → Replied (Err w) c s
  unfolding answer left
  refuses w z = replied (Err w) c s (rw z)

  pub replies_unsound : sound T ≡ false → (r : Result Found Refusal) → r ≡ Err Unsound → Replied r c s
  replies_unsound e r q = rw q (refuses Unsound (searching_tests T a (length c) (length s) ∙ state_unsound T a ModelCramped _ _ e))

  module _ (e : sound T ≡ true) where
    pub replies_stranger : T.size.n ≤ a → Replied (Err Stranger) c s
    replies_stranger h = refuses Stranger (searching_tests T a (length c) (length s) ∙ state_stranger T a ModelCramped _ _ e h)

    module _ (l : a < T.size.n) where
      pub replies_cramped : (length c < T.size.n) ⊎ ((T.size.n ≤ length c) × (length s < T.size.n)) → Replied (Err Cramped) c s
      replies_cramped h = refuses Cramped (searching_tests T a (length c) (length s) ∙ state_own T a ModelCramped _ _ e l no_room)
        where
          no_room : room_test T (length c) (length s) ≡ false
          no_room = ⊎_elim (λ t. rw (lt-leb T.size.n (length c) t)) (λ t. rw (le-leb T.size.n (length c) t.0, lt-leb T.size.n (length s) t.1)) h

      pub replies_found : T.size.n ≤ length c → T.size.n ≤ length s → (f : Found) (c' s' : List ℕ)
          → Answered (plan_in T) T.size.n a c s f c' s' → Replied (Ok f) c' s'
      unfolding answer left result_table cleared
      replies_found lc ls f c' s' w =
          let z : found ≡ given (search (plan_in T) a) = (searching_iff T a (length c) (length s) (search (plan_in T) a)).1
          (record { sounds = e; inside = l; long_commands = lc; long_scratch = ls; is = refl }) in
          let cs : c' ≡ overwrite (result_table T.size.n (search (plan_in T) a)) c = filled_is lc w.takes in
          let ss : s' ≡ overwrite (cleared T.size.n) s = filled_is ls w.clean
          ∙ ap (λ (r : List ℕ). overwrite r s) (tabulate_constant 0 0 T.size.n) in
          replied (Ok f) c' s' (rw (z, w.verdict, w.counted, cs, ss))
