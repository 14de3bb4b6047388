-- The plan's steps on sets that agree below n, and its commands' outcomes as the propagation reads them.
use mathlib.Core.Path.{◌≡◌, sym, ap, ◌∙◌}
use mathlib.Core.Bool.{Bool, true}
use mathlib.Core.Logic.{⊎_elim}
use Prim.Native.Nat.{ℕ, ◌+◌, ◌<◌}
use lib.Dec.{ltb}
use borrow.Author.Tests.{ltb-true}
use Rattle.laws.specs.Sets.{found}
use Rattle.laws.proofs.Agree.{Agree}
use Rattle.laws.proofs.Least.{least_same}
use Rattle.laws.proofs.Tests.{true_or_false}
use Rattle.model.specs.Plan.{has_practice}
use Rattle.model.specs.Verdict.{hit, hits}
use Rattle.model.specs.Practice.{practice_hits}
use Rattle.model.specs.Command.{choice}
use Rattle.model.specs.Places.{first_command}
use Rattle.model.specs.SoundTest.{sound}
use Rattle.model.specs.Held.{plan_in}
use Rattle.model.specs.Tables.{Tables, lists_in}
use Rattle.model.proofs.Choices.{choice_some, choice_same}
use Rattle.model.proofs.PracticeHits.{practice_hits_words}
use Rattle.model.proofs.HeldPlan.{states_held, commands_held}
use Rattle.model.proofs.Valid.{sound_valid}
use Rattle.choice.proofs.Choices.{hits_held}
use Rattle.choice.proofs.Outcomes.{command_hits_any}
use Rattle.choice.specs.Within.{command_hits}

module _ (T : Tables) (sounds : sound T ≡ true) (A B : ℕ → Bool) (same : Agree T.size.n A B) (s : ℕ) (l : s < T.size.n) where
  -- outcomes are states
  pub hits_agree : (c : ℕ) → c < (plan_in T).commands s → hits (plan_in T) A s c ≡ hits (plan_in T) B s c
  unfolding hits hit
  hits_agree c m = ap found (least_same A B _
      (λ x mem. same x (rw (states_held T) at ((sound_valid T sounds).inside s c x (rw (states_held T) l) m mem))))

  pub choice_agree : choice (plan_in T) A s ≡ choice (plan_in T) B s
  choice_agree = choice_same (plan_in T) A B s (λ c m e. sym (hits_agree c m) ∙ e)
      (λ c e. let t = choice_some (plan_in T) A s c e in sym (hits_agree c t.1) ∙ t.2)

  pub practice_hits_agree : practice_hits (plan_in T) A s ≡ practice_hits (plan_in T) B s
  unfolding has_practice
  practice_hits_agree =
      rw (practice_hits_words (plan_in T) A s, practice_hits_words (plan_in T) B s)
      (⊎_elim (λ e. rw e (hits_agree _ (ltb-true _ _ e))) (λ e. rw e)
      (true_or_false (ltb ((plan_in T).practice s) ((plan_in T).commands s))))

-- a state's command, by its place
pub hits_place : (T : Tables) (A : ℕ → Bool) (s c : ℕ) → s < T.size.n → c < (plan_in T).commands s
    → command_hits (lists_in T) A (first_command T s + c) ≡ hits (plan_in T) A s c
hits_place T A s c l m = command_hits_any (lists_in T) A _ ∙ sym (hits_held T A s l c (rw (commands_held T s l) at m))
