-- The search on tables of the limit's length, delivered, is the call on the plan that they hold.
use mathlib.Core.Path.{◌≡◌, refl, sym, ap, ◌∙◌}
use mathlib.Core.Bool.{Bool}
use mathlib.Core.List.{List}
use Prim.Native.Nat.{ℕ, ◌<◌, ◌≤◌}
use native.Mathlib.Omega.{arith}
use lib.ListN.{length, take, length-take, length-replicate}
use Rattle.std.specs.Prelude.{Result as CodeResult}
use Rattle.laws.proofs.Lists.{length_tabulate, take_overwritten}
use Rattle.model.specs.Search.{Result, search}
use Rattle.model.specs.Refusal.{Answer, given, answer}
use Rattle.model.specs.File.{max_states}
use Rattle.model.specs.Tables.{Tables}
use Rattle.model.specs.Held.{tree_of, plan_in}
use Rattle.model.specs.Calls.{left, result_table, cleared, AfterSearch}
use Rattle.model.specs.Boundary.{bytes_for, result_entries, code, gate_search, gate_search_call}
use Rattle.model.proofs.Answers.{answer_inv}
use Rattle.model.proofs.Answering.{searching_iff}
use Rattle.model.proofs.HeldPlan.{states_held}
use Rattle.model.proofs.GoodTables.{sound_good}
use Rattle.model.proofs.Valid.{sound_valid, few_states, few_commands}
use Rattle.model.proofs.Widths.{rounds_fit}
use Rattle.model.proofs.Gates.{whole_search, gate_search_lem, code_from, left_from_lem}
use Rattle.search.specs.declared.Found.{Found}
use Rattle.tables.specs.declared.Refusal.{Refusal}
use Rattle.search.specs.Answers.{answer_of, after_search}
use Rattle.gate_searching.specs.Delivery.{delivery, delivered}

-- what is answered of a search
abbrev verdict : Result → Bool × ℕ
verdict R = (R.lost, R.rounds)

-- a list that begins with n entries is that long
long_front : (n : ℕ) (l xs : List ℕ) → take n l ≡ xs → length xs ≡ n → n ≤ length l
long_front n l xs e h = omega (arith, length-take n l, ap length e, h)

module _ (T : Tables) (start : ℕ) (zeros : List ℕ) where
  -- what the search answers and leaves, with tables of the limit's length
  abbrev whole_call : AfterSearch
  whole_call = record {
    answers = answer verdict (whole_search T start);
    commands = left (result_table T.size.n) (whole_search T start) zeros;
    scratch = left (λ R. cleared T.size.n) (whole_search T start) zeros;
  }

  module _ (found : CodeResult Found Refusal) (takes clean : List ℕ) (says : after_search found takes clean ≡ whole_call) where
    answers : answer_of found ≡ answer verdict (whole_search T start)
    answers = ap (λ (x : AfterSearch). x.answers) says

    -- what the tables begin with where the search answers
    module _ (R : Result) (f : whole_search T start ≡ given R) where
      commands_taken : take T.size.n takes ≡ result_table T.size.n R
      unfolding left result_table
      commands_taken = let took = ap (λ (x : AfterSearch). x.commands) says in
          rw (rw f at took) (take_overwritten T.size.n (result_table T.size.n R) zeros (length_tabulate _ 0 T.size.n))

      scratch_taken : take T.size.n clean ≡ cleared T.size.n
      unfolding left cleared
      scratch_taken = let cleans = ap (λ (x : AfterSearch). x.scratch) says in
          rw (rw f at cleans) (take_overwritten T.size.n (cleared T.size.n) zeros (length-replicate T.size.n 0))

    pub deliverable : (w : Bool × ℕ) → answer_of found ≡ given w
        → (T.size.n ≤ length takes) × (T.size.n ≤ length clean) × (w.1 < 65536)
    unfolding plan_in result_table cleared
    deliverable w e =
        let (R, f, is) = answer_inv verdict (whole_search T start) w (sym answers ∙ e) in
        let q = (searching_iff T start max_states max_states R).0 f in
        let good = sound_good T q.sounds in
        let fits = rounds_fit (plan_in T) (sound_valid T q.sounds) (omega (arith, few_states (tree_of T) good))
        (λ x l. omega (arith, few_commands (tree_of T) good x l)) start (rw (states_held T) q.inside) in
        let rounds : (search (plan_in T) start).rounds ≡ w.1 = ap (λ (R : Result). R.rounds) q.is ∙ ap (λ (u : Bool × ℕ). u.1) is in (
          long_front _ _ _ (commands_taken R f) (length_tabulate _ 0 T.size.n),
          long_front _ _ _ (scratch_taken R f) (length-replicate T.size.n 0),
          rw rounds at fits,
        )

    module _ (C X A : List ℕ) where
      -- what is delivered, and what the call answers
      abbrev out : Answer (Bool × ℕ)
      out = delivery (answer_of found) T.size.n (length C) (length X) (length A)

      abbrev call : Answer (ℕ × Result)
      call = gate_search (given T) start (length C) (length X) (length A)

      returns : code out ≡ code call
      unfolding delivery
      returns =
          code_from (whole_search T start) verdict (answer_of found) answers (λ R. (T.size.n, R)) _
          ∙ sym (ap code (gate_search_lem T start (length C) (length X) (length A)))

      leaves : (f : Bool × ℕ → List ℕ) (g : ℕ × Result → List ℕ)
          → ((R : Result) → whole_search T start ≡ given R → f (verdict R) ≡ g (T.size.n, R)) → (l : List ℕ)
          → left f out l ≡ left g call l
      unfolding delivery
      leaves f g same l =
          left_from_lem (whole_search T start) verdict (answer_of found) answers (λ R. (T.size.n, R)) _ f g same l
          ∙ sym (ap (λ (q : Answer (ℕ × Result)). left g q l) (gate_search_lem T start (length C) (length X) (length A)))

      pub search_delivered : delivered (answer_of found) T.size.n takes clean C X A ≡ gate_search_call (given T) start C X A
      search_delivered = λ i. record {
        returns = returns i;
        commands = leaves (λ _. bytes_for (take T.size.n takes)) (λ y. bytes_for (result_table y.0 y.1))
            (λ R f. ap bytes_for (commands_taken R f)) C i;
        scratch = leaves (λ _. bytes_for (take T.size.n clean)) (λ y. bytes_for (cleared y.0)) (λ R f. ap bytes_for (scratch_taken R f))
            X i;
        answer = leaves (λ w. bytes_for (result_entries w)) (λ y. bytes_for (result_entries (y.1.lost, y.1.rounds))) (λ R f. refl) A i;
      }
