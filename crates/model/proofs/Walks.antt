-- What a walk reaches: the start, and with a state all outcomes of the command that the walk takes there, and nothing else.
use mathlib.Core.Path.{◌≡◌, refl}
use mathlib.Core.Bool.{Bool, true, ◌&&◌}
use mathlib.Core.List.Memᴰ
use mathlib.Core.List.{Memᴰ}
use mathlib.Core.Option.{Option, none, some}
use Prim.Native.Nat.{ℕ, ◌<◌}
use lib.Dec.{eqb}
use borrow.Author.Tests.{eqb-true, eq-eqb}
use Rattle.laws.proofs.Tests.{clash, and_both, and_join}
use Rattle.laws.proofs.Sets.{any_hit, any_of, exists_at, exists_of}
use Rattle.laws.proofs.Grow.{Monotone, grow_first, grow_all, closed}
use Rattle.model.specs.Plan.{Plan, Valid}
use Rattle.model.specs.Command.{choice}
use Rattle.model.specs.Search.{lands, next, reached}
use Rattle.model.proofs.Choices.{choice_some}

pub lands_is : (P : Plan) (t x : ℕ) (o : Option ℕ) → lands P t o x ≡ true → (c : ℕ) × (o ≡ some c) × Memᴰ x (P.outcomes t c)
unfolding lands
lands_is P t x none e = clash e refl
lands_is P t x (some c) e =
    let (y, m, q) = any_hit (eqb x) (P.outcomes t c) e in
    (c, refl, Memᴰ.cast (eqb-true x y q) m)

pub lands_of : (P : Plan) (t c x : ℕ) → Memᴰ x (P.outcomes t c) → lands P t (some c) x ≡ true
unfolding lands
lands_of P t c x m = any_of (eqb x) (P.outcomes t c) m (eq-eqb x x refl)

module _ (P : Plan) (K : ℕ → Bool) where
  next_is : (W : ℕ → Bool) (x : ℕ) → next P K W x ≡ true
      → (t : ℕ) × (c : ℕ) × (t < P.states) × (W t ≡ true) × (choice P K t ≡ some c) × Memᴰ x (P.outcomes t c)
  unfolding next
  next_is W x e =
      let (t, l, b) = exists_at (λ i. W i && lands P i (choice P K i) x) P.states e in
      let (w, n) = and_both (W t) (lands P t (choice P K t) x) b in
      let (c, q, m) = lands_is P t x (choice P K t) n in
      (t, c, l, w, q, m)

  next_of : (W : ℕ → Bool) (t c x : ℕ) → t < P.states → W t ≡ true → choice P K t ≡ some c
      → Memᴰ x (P.outcomes t c) → next P K W x ≡ true
  unfolding next
  next_of W t c x l w q m =
      exists_of (λ i. W i && lands P i (choice P K i) x) P.states t l
      (and_join (W t) (lands P t (choice P K t) x) w (rw q (lands_of P t c x m)))

  next_more : Monotone P.states (next P K)
  next_more U W h s l e = let (t, c, k, v, q, m) = next_is U s e in next_of W t c s k (h t k v) q m

module _ (P : Plan) (K : ℕ → Bool) (a : ℕ) where
  pub start_reached : reached P K a a ≡ true
  start_reached = grow_first (next P K) (eqb a) P.states a (eq-eqb a a refl)

  pub goes_on : Valid P → (t c x : ℕ) → t < P.states → reached P K a t ≡ true → choice P K t ≡ some c
      → Memᴰ x (P.outcomes t c) → reached P K a x ≡ true
  goes_on S t c x l w q m =
      closed (next P K) (eqb a) P.states (next_more P K) x (S.inside t c x l (choice_some P K t c q).1 m)
      (next_of P K (reached P K a) t c x l w q m)

  -- what holds of the start and goes over to the outcomes of the commands taken holds of all that is reached
  pub reached_all : (Q : ℕ → Type 0) → Q a
      → ((t c x : ℕ) → t < P.states → Q t → choice P K t ≡ some c → Memᴰ x (P.outcomes t c) → Q x)
      → (x : ℕ) → reached P K a x ≡ true → Q x
  reached_all Q first step =
      grow_all (next P K) (eqb a) Q (λ x e. rw (eqb-true a x e) at first)
      (λ W h x e. let (t, c, l, w, q, m) = next_is P K W x e in step t c x l (h t w) q m) P.states
