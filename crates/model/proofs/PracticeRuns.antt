-- The practice is said to fail exactly from the states from which a run under it fails (rule V8).
use mathlib.Core.Path.{◌≡◌, refl, sym, ◌∙◌}
use mathlib.Core.Bool.{Bool, true, false}
use mathlib.Core.Logic.{⊎_elim, ◌↔◌}
use mathlib.Core.Option.{none, some}
use Prim.Native.Nat.{ℕ, ◌<◌}
use borrow.Author.Tests.{ltb-true}
use Rattle.laws.specs.Sets.{grow}
use Rattle.laws.proofs.Tests.{true_or_false, and_both, and_join}
use Rattle.laws.proofs.Grow.{Monotone, grow_first, grow_all, closed}
use Rattle.model.specs.Plan.{Plan, Valid, failing, has_practice}
use Rattle.model.specs.Verdict.{hits}
use Rattle.model.specs.Practice.{followed, practice_hits, practice_fails}
use Rattle.model.specs.Run.{Move, Run, no_moves, ◌▸◌, present, CanMove, IsRun}
use Rattle.model.specs.Rule.{Rule, Under, Fails, positional}
use Rattle.model.proofs.PracticeHits.{practice_hits_words}
use Rattle.model.proofs.StateKinds.{active_is, command_active}
use Rattle.model.proofs.Choices.{hits_is, hits_of}
use Rattle.model.proofs.Deciding.{run_inside}

module _ (P : Plan) where
  followed_is : (t c : ℕ) → followed P t ≡ some c → (P.practice t ≡ c) × (has_practice P t ≡ true)
  unfolding followed
  followed_is t c e = ⊎_elim given lacking (true_or_false (has_practice P t))
    where
      given : has_practice P t ≡ true → (P.practice t ≡ c) × (has_practice P t ≡ true)
      given g = let q : some (P.practice t) ≡ some c = rw g at e in (cc, g)

      lacking : has_practice P t ≡ false → (P.practice t ≡ c) × (has_practice P t ≡ true)
      lacking g = let q : none ≡ some c = rw g at e in (cc, cc)

  practice_followed : (t : ℕ) → has_practice P t ≡ true → followed P t ≡ some (P.practice t)
  unfolding followed
  practice_followed t g = rw g

  practice_hits_is : (K : ℕ → Bool) (t : ℕ) → practice_hits P K t ≡ true
      → (has_practice P t ≡ true) × (P.practice t < P.commands t) × (hits P K t (P.practice t) ≡ true)
  unfolding has_practice
  practice_hits_is K t e =
      let (g, h) = and_both (has_practice P t) (hits P K t (P.practice t)) (sym (practice_hits_words P K t) ∙ e) in
      (g, ltb-true (P.practice t) (P.commands t) g, h)

  practice_hits_of : (K : ℕ → Bool) (t : ℕ) → has_practice P t ≡ true → hits P K t (P.practice t) ≡ true → practice_hits P K t ≡ true
  practice_hits_of K t g h = practice_hits_words P K t ∙ and_join (has_practice P t) (hits P K t (P.practice t)) g h

module _ (P : Plan) (S : Valid P) where
  practice_hits_more : Monotone P.states (practice_hits P)
  practice_hits_more A B h s l e =
      let (g, own, k) = practice_hits_is P A s e in
      let (x, m, a) = hits_is P A s (P.practice s) k in
      practice_hits_of P B s g (hits_of P B s (P.practice s) x m (h x (S.inside s (P.practice s) x l own m) a))

  module _ (s : ℕ) (in_plan : s < P.states) where
    ρ : Rule
    ρ = positional (followed P) s

    -- from where the practice is said to fail, a run under it goes on into failure
    onward : (k x : ℕ) → grow (practice_hits P) (failing P) k x ≡ true
        → (w : Run) → IsRun P s w → Under ρ w → present s w ≡ x → Fails P s ρ
    unfolding ρ positional present
    onward =
        grow_all (practice_hits P) (failing P) (λ x. (w : Run) → IsRun P s w → Under ρ w → present s w ≡ x → Fails P s ρ)
        (λ x e w i u q. record { run = w; is_run = i; under = u; fails = rw q e })
        (λ A below x e w i u q.
        let t = present s w in
        let (g, own, k) = practice_hits_is P A t (rw q e) in
        let (y, m, a) = hits_is P A t (P.practice t) k in
        let v : Move = record { command = P.practice t; landing = y } in
        let act = command_active P t S (run_inside P S s in_plan w i) (P.practice t) own in
        let can : CanMove P t v = record { leaves = (active_is P t act).0; issued = own; landed = m } in
        below y a (w ▸ v) (i, can) (u, practice_followed P t g) refl)

    -- where a run under it has come to a state from which it is said to fail, it is said to fail from s
    back : (w : Run) → IsRun P s w → Under ρ w → practice_fails P (present s w) ≡ true → practice_fails P s ≡ true
    unfolding ρ positional present practice_fails
    back no_moves i u e = e
    back (w ▸ m) i u e =
        let t = present s w in
        let (q, g) = followed_is P t m.command u.1 in
        let hit = hits_of P (practice_fails P) t m.command m.landing i.1.landed e in
        let l = run_inside P S s in_plan w i.0 in
        back w i.0 u.0 (closed (practice_hits P) (failing P) P.states practice_hits_more t l
        (practice_hits_of P (practice_fails P) t g (rw q hit)))

    pub practice_judged : (practice_fails P s ≡ true) ↔ Fails P s (positional (followed P) s)
    unfolding ρ present practice_fails
    practice_judged = (
      λ e. onward P.states s e no_moves tt tt refl,
      λ f. back f.run f.is_run f.under (grow_first (practice_hits P) (failing P) P.states (present s f.run) f.fails),
    )
