-- The tally counts the bugs: they are the safe states whose practice is given and fails.
use mathlib.Core.Path.{◌≡◌, sym, ◌∙◌}
use mathlib.Core.Bool.{true, false, ◌&&◌}
use mathlib.Core.List.{[]}
use Prim.Native.Nat.{ℕ}
use native.Mathlib.Nat.{le_antisymm}
use lib.ListN.{get_or}
use Rattle.laws.specs.Sets.{how_many}
use Rattle.laws.proofs.Tests.{clash, and_both, and_join}
use Rattle.laws.proofs.Sets.{many_le}
use Rattle.laws.proofs.Grow.{grow_all}
use Rattle.model.specs.Plan.{Plan, Valid, failing, has_practice}
use Rattle.model.specs.Verdict.{hits, lost, safe}
use Rattle.model.specs.Practice.{practice_hits, practice_fails, bug, tally_row, tally}
use Rattle.model.proofs.Layers.{safe_stands}
use Rattle.model.proofs.PracticeHits.{practice_hits_words}
use borrow.Author.Tests.{not-true}

module _ (P : Plan) (S : Valid P) where
  -- a practice that fails from a state that does not fail is given there
  given_there : (s : ℕ) → failing P s ≡ false → practice_fails P s ≡ true → has_practice P s ≡ true
  unfolding practice_fails
  given_there s stands e =
      grow_all (practice_hits P) (failing P) (λ x. failing P x ≡ false → has_practice P x ≡ true) (λ x f g. clash f g)
      (λ A below x r g. (and_both (has_practice P x) (hits P A x (P.practice x)) (sym (practice_hits_words P A x) ∙ r)).0)
      P.states s e stands

  pub bugs_tallied : get_or (get_or (tally P) 0 []) 1 0 ≡ how_many (bug P) P.states
  unfolding tally tally_row bug safe
  bugs_tallied = le_antisymm
      (many_le (λ s. safe P s && has_practice P s && practice_fails P s) (bug P) P.states (λ s l e.
      let (a, f) = and_both (safe P s && has_practice P s) (practice_fails P s) e in
      and_join (safe P s) (practice_fails P s) (and_both (safe P s) (has_practice P s) a).0 f))
      (many_le (bug P) (λ s. safe P s && has_practice P s && practice_fails P s) P.states (λ s l e.
      let (a, f) = and_both (safe P s) (practice_fails P s) e in
      let given = given_there s (safe_stands P S s l (not-true (lost P s) a)) f in
      and_join (safe P s && has_practice P s) (practice_fails P s) (and_join (safe P s) (has_practice P s) a given) f))
