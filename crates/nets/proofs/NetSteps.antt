-- A propagation's step is the plan's: with all commands counting it is what layers add (rule V2), with the practice alone what the
-- practice risks.
use mathlib.Core.Path.{◌≡◌, sym, ap, ap₂, ◌∙◌}
use mathlib.Core.Bool.{Bool, true, false, ◌&&◌}
use mathlib.Core.Logic.{⊎_elim}
use mathlib.Core.List.{List}
use Prim.Native.Nat.{ℕ, zero, suc, ◌+◌, ◌-◌, ◌<◌}
use native.Mathlib.Nat.{add-zero}
use native.Mathlib.Numerals.{add-one}
use native.Mathlib.Omega.{arith}
use lib.Dec.{ltb}
use lib.ListN.{get_or}
use borrow.Author.Tests.{lt-ltb, le-ltb, ltb-true}
use Rattle.laws.specs.Sets.{every}
use Rattle.laws.proofs.Agree.{Agree, every_same}
use Rattle.laws.proofs.Tests.{same_test, true_or_false}
use Rattle.model.specs.Plan.{Plan, active, has_practice}
use Rattle.model.specs.Verdict.{hits, forced}
use Rattle.model.specs.Practice.{practice_hits}
use Rattle.model.specs.Tables.{Tables, lists_in}
use Rattle.model.specs.Places.{row_at, first_command, command_count}
use Rattle.model.specs.Held.{plan_in}
use Rattle.model.proofs.StateKinds.{active_is, command_active}
use Rattle.model.proofs.PracticeHits.{practice_hits_words}
use Rattle.model.proofs.HeldPlan.{states_held, practice_held, commands_held}
use Rattle.model.proofs.Valid.{sound_valid}
use Rattle.tables.specs.declared.sound_plan.SoundPlan.{SoundPlan}
use Rattle.tables.specs.Meaning.{lent}
use Rattle.tables.specs.Spans.{span_at}
use Rattle.propagate.specs.Net.{Net, net_of, from, to, losing}
use Rattle.choice.specs.Within.{command_hits}
use Rattle.nets.specs.Nets.{practised, practice_place, one_end}
use Rattle.nets.proofs.Keeping.{end_one, end_none}
use Rattle.nets.proofs.PlanHits.{hits_agree, hits_place}

-- whether a practice is given, by what was read
pub practised_is : (T : Tables) (s : ℕ) → s < T.size.n → practised (span_at T s) ≡ has_practice (plan_in T) s
unfolding has_practice command_count
practised_is T s l = rw (practice_held T s l, commands_held T s l, add-one s)

-- a practice that is given is a command
pub practice_below : (T : Tables) (s : ℕ) → s < T.size.n → has_practice (plan_in T) s ≡ true → (row_at T s).practice < (plan_in T).commands s
unfolding has_practice
practice_below T s l e = rw (← practice_held T s l) (ltb-true ((plan_in T).practice s) ((plan_in T).commands s) e)

module _ (p : SoundPlan) (watch ends : List ℕ) (A B : ℕ → Bool) (same : Agree p.plan.size.n A B) (s : ℕ) (l : s < p.plan.size.n) where
  abbrev T : Tables
  T = lent p.plan

  abbrev N : Net
  N = net_of p.plan.size.n (lists_in T) watch ends

  abbrev P : Plan
  P = plan_in T

  -- an outcome in A at a place is an outcome in B of the command
  hit_is : (c : ℕ) → c < P.commands s → command_hits (lists_in T) A (first_command T s + c) ≡ hits P B s c
  hit_is c m = hits_place T A s c l m ∙ hits_agree T p.sounds A B same s l c m

  -- of a net whose range at s is known
  losing_words : (a b : ℕ) → get_or watch s 0 ≡ a → get_or ends s 0 ≡ b
      → losing N A s
      ≡ (ltb a b && every (λ i. command_hits (lists_in T) A (a + i)) (b - a))
  unfolding losing from to
  losing_words a b e f = rw (e, f)

  -- ---- all commands

  active_test : ltb (first_command T s) (first_command T (suc s)) ≡ active P s
  unfolding command_count
  active_test =
      same_test (ltb (first_command T s) (first_command T (suc s))) (active P s)
      (λ e. command_active P s (sound_valid T p.sounds) (rw (states_held T) l) 0
      (omega (arith, ltb-true (first_command T s) (first_command T (suc s)) e, commands_held T s l)))
      (λ e. lt-ltb (first_command T s) (first_command T (suc s)) (omega (arith, (active_is P s e).1, commands_held T s l)))

  pub losing_all : get_or watch s 0 ≡ (span_at T s).first → get_or ends s 0 ≡ (span_at T s).end
      → losing N A s ≡ forced P B s
  unfolding forced command_count
  losing_all begins stops =
      losing_words (first_command T s) (first_command T (suc s)) begins (stops ∙ rw (add-one s))
      ∙ ap₂ (λ (a b : Bool). a && b) active_test
      (every_same _ _ _ (λ c m. hit_is c (rw (commands_held T s l) m)) ∙ ap (every (hits P B s)) (sym (commands_held T s l)))

  -- ---- the practice alone

  module _ (begins : get_or watch s 0 ≡ practice_place (span_at T s))
      (stops : get_or ends s 0 ≡ one_end (practice_place (span_at T s)) (span_at T s).end) where
    none : practised (span_at T s) ≡ false → losing N A s
        ≡ (has_practice P s && hits P B s (P.practice s))
    unfolding practice_place
    none e =
        let f = (span_at T s).end in
        losing_words f f (begins ∙ rw e) (stops ∙ rw e (sym (end_none f f (omega arith))))
        ∙ rw (le-ltb f f (omega arith), ← practised_is T s l, e)

    given : practised (span_at T s) ≡ true → losing N A s
        ≡ (has_practice P s && hits P B s (P.practice s))
    unfolding practice_place every command_count
    given e =
        let i = (row_at T s).practice in
        let f = first_command T s in
        let one : f + i + 1 - (f + i) ≡ suc zero = omega arith in
        let below = practice_below T s l (sym (practised_is T s l) ∙ e) in
        let inside : f + i < (span_at T s).end = rw (add-one s) (omega (arith, below, commands_held T s l)) in
        losing_words (f + i) (f + i + 1) (begins ∙ rw e) (stops ∙ rw e (sym (end_one (f + i) (span_at T s).end inside)))
        ∙ rw (lt-ltb (f + i) (f + i + 1) (omega arith), one, add-zero (f + i), ← practised_is T s l, e, practice_held T s l)
        (hit_is i below)

    pub losing_practice : losing N A s ≡ practice_hits P B s
    losing_practice = rw (practice_hits_words P B s) (⊎_elim given none (true_or_false (practised (span_at T s))))
