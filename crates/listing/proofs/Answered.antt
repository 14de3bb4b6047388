-- A call that is known to answer.
use mathlib.Core.Path.{◌≡◌, refl, sym, ap, ◌∙◌}
use Rattle.std.specs.Prelude.{Result, Ok, Err, IsOk}
use Rattle.model.specs.Refusal.{given}
use Rattle.model.proofs.Answers.{given_inj, not_both}
use Rattle.tables.specs.declared.Refusal.{Refusal}
use Rattle.tables.specs.Meaning.{answered}

module _ {A B : Type 0} (f : A → B) {b : B} where
  pub answers : (r : Result A Refusal) → answered f r ≡ given b → IsOk r
  answers (Ok a) e = refl
  answers (Err w) e = absurd (not_both e)

  pub answer : {r : Result A Refusal} {a : A} → answered f r ≡ given b → r ≡ Ok a → f a ≡ b
  answer e q = given_inj (sym (ap (answered f) q) ∙ e)
