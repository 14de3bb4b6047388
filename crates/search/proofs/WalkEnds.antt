-- A walk that has gone on from all it has reached: that is what a round reaches, and its commands are those that the round takes.
use mathlib.Core.Path.{◌≡◌, refl, subst}
use mathlib.Core.Bool.{Bool, true, false, cond}
use mathlib.Core.List.{List}
use Prim.Native.Nat.{ℕ, zero, suc, ◌<◌, ◌≤◌}
use native.Mathlib.Decide.{dec_lt}
use native.Mathlib.Omega.{arith}
use lib.ListN.{get_or}
use Rattle.laws.specs.Entry.{FFFF, entry}
use Rattle.laws.proofs.Tests.{same_test}
use Rattle.laws.proofs.Sets.{below_suc}
use Rattle.model.specs.Plan.{Plan, Valid}
use Rattle.model.specs.Command.{choice}
use Rattle.model.specs.Search.{reached}
use Rattle.model.proofs.Choices.{choice_some}
use Rattle.model.proofs.Walks.{lands_is, lands_of, start_reached, goes_on, reached_all}
use Rattle.walks.specs.Flags.{walked_in}
use Rattle.search.specs.Underway.{leads, Underway}

-- the entry of x in the command table after a round from a
unfoldable pub taken : Plan → (ℕ → Bool) → ℕ → ℕ → ℕ
taken P K a x = cond (reached P K a x) (entry (choice P K x)) FFFF

module _ {P : Plan} {n : ℕ} {K : ℕ → Bool} {a h q : ℕ} {cs s u : List ℕ} (w : Underway P n K a h q cs s u) (S : Valid P)
    (count : P.states ≡ n) where
  -- every place holds a state that the round reaches: the start, or one that an earlier place leads to
  sofar : (m i : ℕ) → i < m → i < q → reached P K a (get_or u i 0) ≡ true
  unfolding leads
  sofar zero i l k = absurd (omega arith)
  sofar (suc m) i l k =
      let below = sofar m in below_suc (λ j. j < q → reached P K a (get_or u j 0) ≡ true) m below (λ z. last below z (dec_lt 0 m)) i l k
    where
      last : ((j : ℕ) → j < m → j < q → reached P K a (get_or u j 0) ≡ true) → m < q → Dec (0 < m) → reached P K a (get_or u m 0) ≡ true
      last below z (no b) = let e : m ≡ 0 = omega arith in rw (e, w.start) (start_reached P K a)
      last below z (yes b) =
          let (j, before, gone, e, t) = w.from m b z in
          let (c, is, in_it) = lands_is P (get_or u j 0) (get_or u m 0) (choice P K (get_or u j 0)) t in
          goes_on P K a S (get_or u j 0) c (get_or u m 0) (rw count (w.queued.states j (omega arith))) (below j before (omega arith)) is in_it

  underway_only : (x : ℕ) → x < n → walked_in s x ≡ true → reached P K a x ≡ true
  underway_only x k t = let (i, l, e) = w.queued.listed x k t in subst (λ y. reached P K a y ≡ true) e (sofar q i l l)

  -- all places are gone on from
  module _ (done : q ≤ h) where
    covers : (x : ℕ) → reached P K a x ≡ true → (x < n) × (walked_in s x ≡ true)
    unfolding leads
    covers =
        reached_all P K a (λ x. (x < n) × (walked_in s x ≡ true)) (first_in, first_walked)
        (λ t c x k g e m.
        let (i, l, z) = w.queued.listed t g.0 g.1 in
        (rw count at (S.inside t c x k (choice_some P K t c e).1 m), (w.closed i x (omega arith) (rw (z, e) (lands_of P t c x m))).0))
      where
        first_in : a < n
        first_in = rw (← w.start) (w.queued.states 0 w.begun)

        first_walked : walked_in s a ≡ true
        first_walked = rw (← w.start) (w.queued.placed 0 w.begun)

    pub reached_state : (x : ℕ) → reached P K a x ≡ true → x < n
    reached_state x e = (covers x e).0

    pub reached_is : (x : ℕ) → x < n → reached P K a x ≡ walked_in s x
    reached_is x k = same_test (reached P K a x) (walked_in s x) (λ e. (covers x e).1) (underway_only x k)

    entry_is : (x : ℕ) → x < n → (t : Bool) → walked_in s x ≡ t → get_or cs x 0 ≡ cond t (entry (choice P K x)) FFFF
    entry_is x k true f =
        let (i, l, z) = w.queued.listed x k f in subst (λ y. get_or cs y 0 ≡ entry (choice P K y)) z (w.took i (omega arith))
    entry_is x k false f = w.blank x k f

    pub takes_is : (x : ℕ) → x < n → get_or cs x 0 ≡ taken P K a x
    unfolding taken
    takes_is x k = rw (reached_is x k) (entry_is x k (walked_in s x) refl)
