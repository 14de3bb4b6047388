-- The practice is the command chosen exactly if it has no outcome in the set, by the words of the choice.
use mathlib.Core.Path.{◌≡◌, refl, ap, sym, ◌∙◌}
use mathlib.Core.Bool.{Bool, true, false, not}
use mathlib.Core.Logic.{⊎_elim, ◌↔◌}
use mathlib.Core.Option.{Option, none, some}
use Prim.Native.Nat.{ℕ, ◌<◌}
use native.Mathlib.Omega.{arith}
use lib.Dec.{eqb}
use borrow.Author.Tests.{eqb-true, eq-eqb, ltb-true, ne_eqb}
use Rattle.laws.specs.Entry.{FFFF, entry}
use Rattle.laws.proofs.Tests.{clash, true_or_false}
use Rattle.model.specs.Plan.{Plan, active, has_practice}
use Rattle.model.specs.Verdict.{hits}
use Rattle.model.specs.Command.{choice}
use Rattle.model.specs.Tables.{Tables}
use Rattle.model.specs.Places.{command_count}
use Rattle.model.specs.SoundTest.{sound}
use Rattle.model.specs.Held.{plan_in}
use Rattle.model.proofs.Choices.{choice_some, choice_words}
use Rattle.model.proofs.HeldPlan.{states_held, commands_held}
use Rattle.model.proofs.SoundFacts.{sound_facts}
use Rattle.model.proofs.StateKinds.{command_active}
use Rattle.model.proofs.Valid.{sound_valid}
use Rattle.std.specs.Prelude.{Option as CodeOption, Some, None}
use Rattle.tables.specs.Meaning.{option_of}
use Rattle.decide.specs.Verdicts.{is_other}

module _ (P : Plan) (s : ℕ) (act : active P s ≡ true) (given : has_practice P s ≡ true) (K : ℕ → Bool) where
  pub practice_chosen : (choice P K s ≡ some (P.practice s)) ↔ (hits P K s (P.practice s) ≡ false)
  practice_chosen = (λ e. (choice_some P K s (P.practice s) e).2, λ e. choice_words P K s act ∙ rw (given, e))

-- of what is chosen of a sound plan
module _ (T : Tables) (sounds : sound T ≡ true) (s : ℕ) (l : s < T.size.n) (given : has_practice (plan_in T) s ≡ true) (K : ℕ → Bool) where
  practice_number : (plan_in T).practice s < (plan_in T).commands s
  unfolding has_practice
  practice_number = ltb-true ((plan_in T).practice s) ((plan_in T).commands s) given

  -- it is not the entry for none
  practice_low : (plan_in T).practice s < FFFF
  unfolding command_count
  practice_low =
      let f = (sound_facts T).0 sounds in
      let r = f.rows s l in
      omega (arith, practice_number, commands_held T s l, r.rises, r.below, f.size.few_commands)

  practice_active : active (plan_in T) s ≡ true
  practice_active = command_active (plan_in T) s (sound_valid T sounds) (rw (states_held T) l) ((plan_in T).practice s) practice_number

  -- so what is chosen is not the practice exactly if its entry is not
  pub other_entry : (o : CodeOption ℕ) → is_other o ((plan_in T).practice s) ≡ not (eqb (entry (option_of o)) ((plan_in T).practice s))
  unfolding entry
  other_entry None = sym (ap not (ne_eqb FFFF ((plan_in T).practice s) (λ w. omega (arith, practice_low, w))))
  other_entry (Some c) = refl

  pub not_practice : (c : ℕ) → c ≡ entry (choice (plan_in T) K s)
      → not (eqb c ((plan_in T).practice s)) ≡ hits (plan_in T) K s ((plan_in T).practice s)
  unfolding entry
  not_practice c e = ⊎_elim hit clear (true_or_false (hits (plan_in T) K s p))
    where
      p : ℕ
      p = (plan_in T).practice s

      chosen : (choice (plan_in T) K s ≡ some p) ↔ (hits (plan_in T) K s p ≡ false)
      chosen = practice_chosen (plan_in T) s practice_active given K

      clear : hits (plan_in T) K s p ≡ false → not (eqb c p) ≡ hits (plan_in T) K s p
      clear z =
          let is : c ≡ p = e ∙ ap entry (chosen.1 z) in
          rw (eq-eqb c p is, z)

      -- only a command has its number for an entry
      read : (o : Option ℕ) → p ≡ entry o → o ≡ some p
      read none q = absurd (omega (arith, practice_low, q))
      read (some d) q = ap some (sym q)

      hit : hits (plan_in T) K s p ≡ true → not (eqb c p) ≡ hits (plan_in T) K s p
      hit z =
          ⊎_elim (λ t. clash z (chosen.0 (read _ (sym (eqb-true c p t) ∙ e)))) (λ t. ap not t ∙ sym z) (true_or_false (eqb c p))

  pub other_hits : (o : CodeOption ℕ) → option_of o ≡ choice (plan_in T) K s
      → is_other o ((plan_in T).practice s) ≡ hits (plan_in T) K s ((plan_in T).practice s)
  other_hits o e = other_entry o ∙ not_practice _ (ap entry e)
