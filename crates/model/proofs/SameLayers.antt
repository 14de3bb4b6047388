-- States of two plans that the same layers hold have the same rank, and so the same verdict.
use mathlib.Core.Path.{◌≡◌, refl, sym, ap, ◌∙◌}
use mathlib.Core.Option.{Option, none, some}
use Prim.Native.Nat.{ℕ, ◌<◌, ◌≤◌}
use native.Mathlib.Nat.{le_antisymm}
use Rattle.laws.specs.Sets.{found}
use Rattle.laws.proofs.Tests.{clash}
use Rattle.model.specs.Plan.{Plan, Valid}
use Rattle.model.specs.Verdict.{layer, rank, lost}
use Rattle.model.proofs.Layers.{rank_some, rank_safe, layer_lost, layer_rank}

-- layers of Q hold the state t wherever those of P hold s: t is lost where s is, and no later
module _ (P Q : Plan) (S : Valid Q) (s t : ℕ) (l : t < Q.states) (held : (k : ℕ) → layer P k s ≡ layer Q k t) where
  layers_lost : (r : ℕ) → rank P s ≡ some r → rank Q t ≡ none → ⊥
  layers_lost r e f = clash (layer_lost Q S r t l (sym (held r) ∙ (rank_some P s r e).0)) (rank_safe Q t f)

  layers_later : (r q : ℕ) → rank P s ≡ some r → rank Q t ≡ some q → q ≤ r
  layers_later r q e f =
      let (j, h, g) = layer_rank Q S r t l (sym (held r) ∙ (rank_some P s r e).0) in
      let z : q ≡ j = cc in
      rw z h

module _ (P Q : Plan) (R : Valid P) (S : Valid Q) (s t : ℕ) (k : s < P.states) (l : t < Q.states)
    (held : (i : ℕ) → layer P i s ≡ layer Q i t) where
  pub layers_rank : rank P s ≡ rank Q t
  layers_rank = go (rank P s) (rank Q t) refl refl
    where
      back : (i : ℕ) → layer Q i t ≡ layer P i s
      back i = sym (held i)

      go : (a b : Option ℕ) → rank P s ≡ a → rank Q t ≡ b → a ≡ b
      go none none e f = refl
      go none (some q) e f = absurd (layers_lost Q P R t s k back q f e)
      go (some r) none e f = absurd (layers_lost P Q S s t l held r e f)
      go (some r) (some q) e f = ap some (le_antisymm (layers_later Q P R t s k back q r f e) (layers_later P Q S s t l held r q e f))

  pub layers_verdict : lost P s ≡ lost Q t
  unfolding lost
  layers_verdict = ap found layers_rank
