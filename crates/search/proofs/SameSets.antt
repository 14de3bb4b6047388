-- Sets that agree on the states of a plan: the same commands are taken.
use mathlib.Core.Path.{◌≡◌, sym, ◌∙◌}
use mathlib.Core.Bool.{Bool, true}
use Prim.Native.Nat.{ℕ, ◌<◌}
use Rattle.laws.proofs.Tests.{clash, refute}
use Rattle.model.specs.Plan.{Plan, Valid}
use Rattle.model.specs.Verdict.{hits}
use Rattle.model.specs.Command.{choice}
use Rattle.model.proofs.Choices.{hits_is, hits_of, choice_some, choice_same}

-- K and L agree on the states
abbrev pub Alike : Plan → (ℕ → Bool) → (ℕ → Bool) → Type 0
Alike P K L = (x : ℕ) → x < P.states → K x ≡ L x

module _ (P : Plan) (S : Valid P) where
  hits_over : (K L : ℕ → Bool) → Alike P K L → (s c : ℕ) → s < P.states → c < P.commands s → hits P K s c ≡ true → hits P L s c ≡ true
  hits_over K L same s c l k e =
      let (x, m, t) = hits_is P K s c e in
      hits_of P L s c x m (sym (same x (S.inside s c x l k m)) ∙ t)

  pub choice_over : (K L : ℕ → Bool) → Alike P K L → (s : ℕ) → s < P.states → choice P K s ≡ choice P L s
  choice_over K L same s l =
      choice_same P K L s (λ c k. hits_over K L same s c l k)
      (λ c e.
      let (act, k, t) = choice_some P K s c e in
      refute (hits P L s c) (λ h. clash (hits_over L K (λ x m. sym (same x m)) s c l k h) t))
