-- The states that are entered from the start, whatever is commanded, are those at which some run from the start ends.
use mathlib.Core.Path.{◌≡◌, refl}
use mathlib.Core.Bool.{Bool, true, ◌&&◌}
use mathlib.Core.Logic.{◌↔◌}
use mathlib.Core.List.Memᴰ
use mathlib.Core.List.{Memᴰ}
use Prim.Native.Nat.{ℕ, ◌<◌}
use lib.Dec.{eqb}
use borrow.Author.Tests.{eqb-true, eq-eqb}
use Rattle.laws.specs.Sets.{any, exists}
use Rattle.laws.proofs.Tests.{and_both, and_join}
use Rattle.laws.proofs.Sets.{any_hit, any_of, exists_at, exists_of}
use Rattle.laws.proofs.Grow.{Monotone, grow_first, grow_all, closed}
use Rattle.model.specs.Plan.{Plan, Valid, ordinary}
use Rattle.model.specs.Run.{Move, Run, no_moves, ◌▸◌, present, CanMove, IsRun}
use Rattle.model.specs.Trim.{enters_from, entered}
use Rattle.model.specs.Trimmed.{Enters}
use Rattle.model.proofs.Deciding.{run_inside}

module _ (P : Plan) where
  some_lands : ℕ → ℕ → Bool
  some_lands t x = exists (λ c. any (eqb x) (P.outcomes t c)) (P.commands t)

  -- a state of W from which a move enters x
  enters_is : (W : ℕ → Bool) (x : ℕ) → enters_from P W x ≡ true
      → (t : ℕ) × (c : ℕ) × (t < P.states) × (W t ≡ true) × (ordinary P t ≡ true) × (c < P.commands t) × Memᴰ x (P.outcomes t c)
  unfolding enters_from some_lands
  enters_is W x e =
      let (t, l, b) = exists_at (λ i. W i && ordinary P i && some_lands i x) P.states e in
      let (wo, s) = and_both (W t && ordinary P t) (some_lands t x) b in
      let (w, o) = and_both (W t) (ordinary P t) wo in
      let (c, k, h) = exists_at (λ c. any (eqb x) (P.outcomes t c)) (P.commands t) s in
      let (y, m, q) = any_hit (eqb x) (P.outcomes t c) h in
      (t, c, l, w, o, k, Memᴰ.cast (eqb-true x y q) m)

  enters_of : (W : ℕ → Bool) (t c x : ℕ) → t < P.states → W t ≡ true → ordinary P t ≡ true → c < P.commands t
      → Memᴰ x (P.outcomes t c) → enters_from P W x ≡ true
  unfolding enters_from some_lands
  enters_of W t c x l w o k m =
      exists_of (λ i. W i && ordinary P i && some_lands i x) P.states t l
      (and_join (W t && ordinary P t) (some_lands t x) (and_join (W t) (ordinary P t) w o)
      (exists_of (λ d. any (eqb x) (P.outcomes t d)) (P.commands t) c k (any_of (eqb x) (P.outcomes t c) m (eq-eqb x x refl))))

  enters_more : Monotone P.states (enters_from P)
  enters_more U W h s l e = let (t, c, k, v, o, n, m) = enters_is U s e in enters_of W t c s k (h t k v) o n m

  pub start_entered : entered P P.start ≡ true
  unfolding entered
  start_entered = grow_first (enters_from P) (eqb P.start) _ P.start (eq-eqb P.start P.start refl)

  -- what holds of the start and goes over to all outcomes holds of all that is entered
  pub entered_all : (Q : ℕ → Type 0) → Q P.start
      → ((t c x : ℕ) → t < P.states → Q t → ordinary P t ≡ true → c < P.commands t → Memᴰ x (P.outcomes t c) → Q x)
      → (x : ℕ) → entered P x ≡ true → Q x
  unfolding entered
  entered_all Q first step =
      grow_all (enters_from P) (eqb P.start) Q (λ x e. rw (eqb-true P.start x e) at first)
      (λ W h x e. let (t, c, l, w, o, k, m) = enters_is W x e in step t c x l (h t w) o k m) _

  module _ (S : Valid P) where
    -- with a state, all outcomes of its commands are entered
    pub enters_on : (t c x : ℕ) → t < P.states → entered P t ≡ true → ordinary P t ≡ true → c < P.commands t
        → Memᴰ x (P.outcomes t c) → entered P x ≡ true
    unfolding entered
    enters_on t c x l e o k m =
        closed (enters_from P) (eqb P.start) P.states enters_more x (S.inside t c x l k m) (enters_of (entered P) t c x l e o k m)

    module _ (in_plan : P.start < P.states) where
      pub entered_inside : (x : ℕ) → entered P x ≡ true → x < P.states
      entered_inside = entered_all (λ x. x < P.states) in_plan (λ t c x l q o k m. S.inside t c x l k m)

      run_entered : (w : Run) → IsRun P P.start w → entered P (present P.start w) ≡ true
      unfolding present
      run_entered no_moves i = start_entered
      run_entered (w ▸ m) i =
          let can = i.1 in
          enters_on (present P.start w) m.command m.landing (run_inside P S P.start in_plan w i.0) (run_entered w i.0)
          can.leaves can.issued can.landed

      -- rule X1
      pub entered_iff : (x : ℕ) → (entered P x ≡ true) ↔ Enters P x
      unfolding present
      entered_iff x = (
        entered_all (Enters P) (record { run = no_moves; is_run = tt; ends = refl }) (λ t c y l q o k m.
            let v : Move = record { command = c; landing = y } in
            let can : CanMove P (present P.start q.run) v = rw q.ends (record { leaves = o; issued = k; landed = m }) in
            record { run = q.run ▸ v; is_run = (q.is_run, can); ends = refl }) x,
        λ r. rw r.ends at (run_entered r.run r.is_run),
      )
