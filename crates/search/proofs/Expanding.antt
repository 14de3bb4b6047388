-- Going on from one state: the command taken there, and where it may land.
use mathlib.Core.Path.{◌≡◌, sym, ◌∙◌, ap}
use mathlib.Core.Bool.{true}
use mathlib.Core.List.{List}
use mathlib.Core.Option.{Option as ModelOption, none, some}
use Prim.Native.Nat.{ℕ, ◌+◌, ◌<◌}
use lib.Dec.{eqb}
use lib.ListN.{set}
use lib.Seq.{slice}
use Rattle.laws.specs.Sets.{any}
use Rattle.std.specs.Prelude.{Option, Some, None}
use Rattle.laws.specs.Entry.{entry}
use Rattle.model.specs.Command.{choice}
use Rattle.model.specs.Search.{lands}
use Rattle.model.specs.Tables.{Tables, lists_in}
use Rattle.model.specs.Places.{first_command, first_outcome, outcomes_at}
use Rattle.model.specs.SoundTest.{sound}
use Rattle.model.specs.Held.{plan_in}
use Rattle.model.proofs.Choices.{choice_some}
use Rattle.model.proofs.HeldPlan.{commands_held, outcomes_held}
use Rattle.tables.specs.declared.spans.Span.{Span}
use Rattle.tables.specs.Meaning.{option_of}
use Rattle.tables.specs.Spans.{span_at}
use Rattle.choice.proofs.Outcomes.{outcomes_read}
use Rattle.choice.proofs.Taken.{taken_place}
use Rattle.walks.specs.Flags.{known_in}
use Rattle.walks.specs.Queued.{Queued}
use Rattle.walks.specs.Spread.{Spread}
use Rattle.search.specs.Walked.{Expanded}
use Rattle.walks.proofs.FlagValues.{not_taken}
use Rattle.walks.proofs.Spreads.{spread_none, spread_as}

-- `taken` is what choosing answered at s, of which `span` was read
module _ (T : Tables) (sounds : sound T ≡ true) (s : ℕ) (l : s < T.size.n) (scratch : List ℕ) (taken : Option ℕ)
    (known : option_of taken ≡ choice (plan_in T) (known_in scratch) s) where
  -- none is left: the walk does not pass s
  pub expand_none : taken ≡ None → {n q : ℕ} (mark : ℕ) {u : List ℕ} (cs cs' : List ℕ) → cs' ≡ set cs s (entry (option_of taken))
      → Queued n q scratch u
      → Expanded (plan_in T) n q s mark cs scratch u q cs' scratch u
  unfolding lands
  expand_none h mark cs cs' p L = record {
    took = p ∙ ap (λ (o : ModelOption ℕ). set cs s (entry o)) known;
    spreads = spread_none mark L _ (λ y. not_taken scratch y (lands (plan_in T) s (choice (plan_in T) (known_in scratch) s)) (rw none_is));
  }
    where
      none_is : choice (plan_in T) (known_in scratch) s ≡ none
      none_is = sym known ∙ ap option_of h

  module _ (c : ℕ) (h : taken ≡ Some c) (span : Span) (is : span ≡ span_at T s) where
    choice_is : choice (plan_in T) (known_in scratch) s ≡ some c
    choice_is = sym known ∙ ap option_of h

    first_is : span.first ≡ first_command T s
    first_is = ap (λ (q : Span). q.first) is

    pub expand_place : span.first + c < T.size.m
    expand_place = rw first_is (taken_place T sounds s l (known_in scratch) c choice_is)

    module _ (from end : ℕ) (p : from ≡ first_outcome T (span.first + c)) (q : end ≡ first_outcome T (span.first + c + 1)) where
      part_is : slice from end T.outcomes ≡ outcomes_at T (first_command T s + c)
      part_is = outcomes_read (lists_in T) (span.first + c) from end p q ∙ ap (λ (f : ℕ). outcomes_at T (f + c)) first_is

      lands_are : (y : ℕ) → any (eqb y) (slice from end T.outcomes) ≡ lands (plan_in T) s (choice (plan_in T) (known_in scratch) s) y
      unfolding lands
      lands_are y =
          let own = (choice_some (plan_in T) (known_in scratch) s c choice_is).1 in
          rw choice_is (ap (any (eqb y)) (part_is ∙ sym (outcomes_held T s l c (rw (commands_held T s l) at own))))

      pub expand_some : {n k k' mark : ℕ} {u scratch' u' : List ℕ} (cs cs' : List ℕ) → cs' ≡ set cs s (entry (option_of taken))
          → Spread n k (λ y. any (eqb y) (slice from end T.outcomes)) mark scratch u k' scratch' u'
          → Expanded (plan_in T) n k s mark cs scratch u k' cs' scratch' u'
      expand_some cs cs' z w = record {
        took = z ∙ ap (λ (o : ModelOption ℕ). set cs s (entry o)) known;
        spreads = spread_as lands_are w;
      }
