-- One state judged: its command, whether it is a fault, its mark and its place in the tally.
use mathlib.Core.Path.{◌≡◌, refl, ap, ◌∙◌}
use mathlib.Core.Bool.{Bool, true, false, not, ◌&&◌}
use mathlib.Core.List.{List}
use mathlib.Core.Option.{Option}
use Prim.Native.Nat.{ℕ, ◌<◌}
use lib.ListN.{set}
use Rattle.std.specs.Prelude.{Option as CodeOption, Some, None, IfSome}
use Rattle.laws.specs.Entry.{entry}
use Rattle.model.specs.Plan.{has_practice}
use Rattle.model.specs.Command.{choice}
use Rattle.model.specs.Practice.{practice_hits, mark_of}
use Rattle.model.specs.Tables.{Tables}
use Rattle.model.specs.SoundTest.{sound}
use Rattle.model.specs.Held.{plan_in}
use Rattle.model.proofs.PracticeHits.{practice_hits_words}
use Rattle.model.proofs.HeldPlan.{practice_held}
use Rattle.choice.proofs.Taken.{choice_fits}
use Rattle.tables.specs.declared.spans.Span.{Span}
use Rattle.tables.specs.Meaning.{option_of}
use Rattle.tables.specs.Spans.{span_at}
use Rattle.nets.specs.Nets.{practised}
use Rattle.nets.proofs.NetSteps.{practised_is}
use Rattle.decide.specs.declared.verdicts.Practice.{Practice}
use Rattle.decide.specs.Verdicts.{unless_lost, is_other, mark_at, practice_of, StateJudged}
use Rattle.decide.proofs.PracticeChosen.{other_hits}

and_when : (a b x y : Bool) → a ≡ b → (b ≡ true → x ≡ y) → (a && x) ≡ (b && y)
and_when a true x y e h = rw e (h refl)
and_when a false x y e h = rw e

module _ (T : Tables) (sounds : sound T ≡ true) (s : ℕ) (l : s < T.size.n) (q : Span) (is : q ≡ span_at T s) (L : ℕ → Bool) where
  -- the command fits an entry
  pub command_fits : (lost : Bool) (r : CodeOption ℕ) → option_of r ≡ unless_lost lost (choice (plan_in T) L s) → IfSome r (λ c. c < 65536)
  unfolding unless_lost
  command_fits true None e = tt
  command_fits true (Some c) e = absurd cc
  command_fits false r e = choice_fits T sounds s l L r e

  given_is : practised q ≡ has_practice (plan_in T) s
  given_is = ap practised is ∙ practised_is T s l

  practice_is : q.practice ≡ (plan_in T).practice s
  practice_is = rw (is, practice_held T s l)

  -- the fault is read off the command chosen
  pub fault_read : (lost : Bool) (r : CodeOption ℕ) → option_of r ≡ unless_lost lost (choice (plan_in T) L s)
      → (not lost && (practised q && is_other r q.practice)) ≡ (not lost && practice_hits (plan_in T) L s)
  unfolding unless_lost
  fault_read true r e = refl
  fault_read false r e = rw (practice_hits_words (plan_in T) L s) (and_when (practised q) (has_practice (plan_in T) s) _ _ given_is
      (λ g. rw practice_is (other_hits T sounds s l g L r e)))

  -- all that is said of the state
  module _ (F lost fails fault given : Bool) (a : lost ≡ L s) (b : fails ≡ F) where
    pub judged : (r : CodeOption ℕ) (m : ℕ) (v : Practice) → option_of r ≡ unless_lost lost (choice (plan_in T) L s)
        → fault ≡ (not lost && (practised q && is_other r q.practice)) → given ≡ practised q
        → m ≡ mark_of fails fault → v ≡ practice_of given fails
        → (cs ms cs' ms' : List ℕ) → cs' ≡ set cs s (entry (option_of r)) → ms' ≡ set ms s m
        → StateJudged (plan_in T) L F s cs ms (record { lost = lost; practice = v }) cs' ms'
    unfolding mark_at
    judged r m v ec f g em ev cs ms cs' ms' x y = record {
      took = x ∙ ap (λ (o : Option ℕ). set cs s (entry o)) (ec ∙ rw a);
      marked = y ∙ ap (set ms s) (em ∙ rw (f ∙ fault_read lost r ec, a, b));
      row = a;
      column = ev ∙ rw (g, given_is, b);
    }
