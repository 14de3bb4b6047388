-- Laws of plans that differ in their outcomes only: with fewer outcomes no more states are lost, and none sooner; with the same ones, in
-- whatever order they are listed, the same states at the same rank.
use mathlib.Core.Path.{◌≡◌, refl, sym, ◌∙◌}
use mathlib.Core.Bool.{Bool, true}
use mathlib.Core.Logic.{⊎_elim}
use mathlib.Core.List.{List}
use mathlib.Core.Option.{some}
use Prim.Native.Nat.{ℕ, zero, suc, ◌<◌, ◌≤◌}
use native.Mathlib.Omega.{arith}
use borrow.Author.Tests.{not-true}
use Rattle.laws.specs.Sets.{grow}
use Rattle.laws.proofs.Tests.{clash, refute, same_test}
use Rattle.laws.proofs.Sets.{Part}
use Rattle.laws.proofs.Grow.{grow_more, grow_add}
use Rattle.model.specs.Plan.{Plan, Valid, ordinary, failing, active}
use Rattle.model.specs.Finer.{with_outcomes, SameShape, Finer, SameGame}
use Rattle.model.specs.Verdict.{forced, layer, rank, lost, safe}
use Rattle.model.proofs.Choices.{hits_is, hits_of, forced_is, forced_of}
use Rattle.model.proofs.Layers.{layer_step, rank_some, lost_layer, layer_lost, layer_rank}
use Rattle.model.proofs.SameLayers.{layers_rank, layers_verdict}

-- ---- what counts as failing or active goes by kind and count

module _ (P Q : Plan) (E : SameShape P Q) (s : ℕ) (l : s < P.states) where
  pub failing_shape : failing P s ≡ failing Q s
  unfolding failing
  failing_shape = rw (E.kinds s l, E.counts s l)

  pub active_shape : active P s ≡ active Q s
  unfolding active ordinary
  active_shape = rw (E.kinds s l, E.counts s l)

-- other outcomes leave the shape
pub outcomes_shape : (P : Plan) (os : ℕ → ℕ → List ℕ) → SameShape P (with_outcomes P os)
outcomes_shape P os = record { states = refl; kinds = λ s l. refl; counts = λ s l. refl }

-- a shape is had in common
pub shape_back : (P Q : Plan) → SameShape P Q → SameShape Q P
shape_back P Q E = record {
  states = sym E.states;
  kinds = λ s l. sym (E.kinds s (omega (arith, E.states)));
  counts = λ s l. sym (E.counts s (omega (arith, E.states)));
}

-- ---- fewer outcomes

module _ (P Q : Plan) (F : Finer P Q) (S : Valid Q) where
  -- the outcomes of P are states too
  pub finer_valid : Valid P
  finer_valid = record {
    kinds = λ s l. rw (F.shape.kinds s l) (S.kinds s (rw (← F.shape.states) l));
    idle = λ s c l m. F.shape.kinds s l ∙ S.idle s c (omega (arith, F.shape.states)) (omega (arith, F.shape.counts s l));
    inside = λ s c x l m out.
        omega (
          arith,
          F.shape.states,
          S.inside s c x (omega (arith, F.shape.states)) (omega (arith, F.shape.counts s l))
              (F.among s c x l m out),
        );
  }

  -- what P forces by a set, Q forces by a larger one
  forced_finer : (K L : ℕ → Bool) → Part P.states K L → Part P.states (forced P K) (forced Q L)
  forced_finer K L h s l e =
      let (act, hit) = forced_is P K s e in
      forced_of Q L s (sym (active_shape P Q F.shape s l) ∙ act) (λ c m.
      let own : c < P.commands s = omega (arith, F.shape.counts s l) in
      let (x, out, k) = hits_is P K s c (hit c own) in
      hits_of Q L s c x (F.among s c x l own out) (h x (finer_valid.inside s c x l own out) k))

  -- the layers of P are within those of Q
  pub layer_finer : (k : ℕ) → Part P.states (layer P k) (layer Q k)
  unfolding grow
  layer_finer zero = λ s l e. sym (failing_shape P Q F.shape s l) ∙ e
  layer_finer (suc k) = λ s l e.
      ⊎_elim
      (λ h. grow_more (forced Q) (failing Q) k s (layer_finer k s l h))
      (λ h. grow_add (forced Q) (failing Q) k s (forced_finer (layer P k) (layer Q k) (layer_finer k) s l h))
      (layer_step P k s e)

  module _ (s : ℕ) (l : s < P.states) where
    there : s < Q.states
    there = omega (arith, F.shape.states)

    -- lost with fewer outcomes is lost with more
    pub lost_finer : lost P s ≡ true → lost Q s ≡ true
    lost_finer e = layer_lost Q S P.states s there (layer_finer P.states s l (lost_layer P s e))

    -- safe with more outcomes is safe with fewer
    pub safe_finer : safe Q s ≡ true → safe P s ≡ true
    unfolding safe
    safe_finer e = rw (refute (lost P s) (λ t. clash (lost_finer t) (not-true (lost Q s) e)))

    -- and the rank is no higher with more
    pub rank_finer : (r : ℕ) → rank P s ≡ some r → (q : ℕ) × (q ≤ r) × (rank Q s ≡ some q)
    rank_finer r e = layer_rank Q S r s there (layer_finer r s l (rank_some P s r e).0)

-- ---- the same outcomes

-- each has no more outcomes than the other
same_finer : (P Q : Plan) → SameGame P Q → Finer P Q
same_finer P Q G = record { shape = G.shape; among = λ s c x l m. (G.outcomes s c x l m).0 }

pub same_back : (P Q : Plan) → SameGame P Q → SameGame Q P
same_back P Q G = record {
  shape = shape_back P Q G.shape;
  outcomes = λ s c x l m.
      let k : s < P.states = omega (arith, G.shape.states) in
      let both = G.outcomes s c x k (omega (arith, G.shape.counts s k)) in
      (both.1, both.0);
}

module _ (P Q : Plan) (G : SameGame P Q) (S : Valid Q) where
  pub same_valid : Valid P
  same_valid = finer_valid P Q (same_finer P Q G) S

  module _ (s : ℕ) (l : s < P.states) where
    same_inside : s < Q.states
    same_inside = omega (arith, G.shape.states)

    pub same_layer : (k : ℕ) → layer P k s ≡ layer Q k s
    same_layer k =
        same_test (layer P k s) (layer Q k s) (layer_finer P Q (same_finer P Q G) S k s l)
        (layer_finer Q P (same_finer Q P (same_back P Q G)) same_valid k s same_inside)

    -- the same rank and the same verdict
    pub same_rank : rank P s ≡ rank Q s
    same_rank = layers_rank P Q same_valid S s s l same_inside same_layer

    pub same_lost : lost P s ≡ lost Q s
    same_lost = layers_verdict P Q same_valid S s s l same_inside same_layer
