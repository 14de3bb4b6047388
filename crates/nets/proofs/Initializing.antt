-- What is read off the rows for the propagations, state by state.
use mathlib.Core.Path.{◌≡◌, refl, ◌∙◌}
use mathlib.Core.Bool.{Bool, true, false, cond}
use mathlib.Core.Logic.{⊎_elim}
use Prim.Native.Nat.{ℕ, ◌+◌, ◌<◌, ◌≤◌}
use native.Mathlib.Omega.{arith}
use borrow.Author.Tests.{ltb-true}
use Rattle.std.specs.Prelude.{Option, Some, None, IfSome}
use Rattle.std.specs.Bool.{then_some}
use Rattle.laws.specs.Entry.{FFFF, entry}
use Rattle.laws.proofs.Tests.{true_or_false}
use Rattle.tables.specs.declared.spans.Span.{Span}
use Rattle.tables.specs.Meaning.{option_of}
use Rattle.tables.specs.Spans.{failing_span}
use Rattle.nets.specs.Nets.{practised, practice_place, seed_of}

-- 0 or none, as an entry
pub zero_entry : (b : Bool) → entry (option_of (then_some b 0)) ≡ cond b 0 FFFF
unfolding entry
zero_entry true = refl
zero_entry false = refl

pub entry_fits : (x : Option ℕ) → entry (option_of x) < 65536 → IfSome x (λ v. v < 65536)
unfolding entry
entry_fits None h = tt
entry_fits (Some v) h = h

module _ (q : Span) where
  module _ (t : Bool) (e : t ≡ practised q) where
    pub place_none : t ≡ false → q.end ≡ practice_place q
    unfolding practice_place
    place_none h = rw (← e, h)

    pub place_given : t ≡ true → q.first + q.practice ≡ practice_place q
    unfolding practice_place
    place_given h = rw (← e, h)

  pub seed_is : (t : Bool) → t ≡ failing_span q → entry (option_of (then_some t 0)) ≡ seed_of q
  unfolding seed_of
  seed_is t e = zero_entry t ∙ rw e

  pub seed_small : seed_of q < 65536
  unfolding seed_of
  seed_small = ⊎_elim (λ e. rw e (omega arith)) (λ e. rw e (omega arith)) (true_or_false (failing_span q))

  pub place_inside : q.first ≤ q.end → (q.first ≤ practice_place q) × (practice_place q ≤ q.end)
  unfolding practice_place
  place_inside l =
      ⊎_elim (λ e. rw e (omega (arith, ltb-true q.practice _ e))) (λ e. rw e (omega arith)) (true_or_false (practised q))
