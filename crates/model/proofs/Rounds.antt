-- One round of the search: it reaches nothing known, and where it marks nothing it takes the chosen commands.
use mathlib.Core.Path.{◌≡◌, sym, ◌∙◌}
use mathlib.Core.Bool.{Bool, true, false, not, ◌&&◌}
use mathlib.Core.Option.{none, some}
use Prim.Native.Nat.{ℕ, ◌<◌}
use borrow.Author.Tests.{not-true}
use Rattle.laws.specs.Sets.{found}
use Rattle.laws.proofs.Tests.{clash, refute, and_both}
use Rattle.laws.proofs.Sets.{is_some, found_none}
use Rattle.laws.proofs.Grow.{grow_all}
use Rattle.model.specs.Plan.{Plan, Valid, failing, active}
use Rattle.model.specs.Verdict.{hits, forced, layer, lost}
use Rattle.model.specs.Command.{choice, chosen}
use Rattle.model.specs.Search.{reached, marked}
use Rattle.model.proofs.Choices.{hits_is, hits_of, misses, forced_is, forced_of, choice_some, choice_none, choice_same}
use Rattle.model.proofs.Layers.{lost_layer, chosen_choice}
use Rattle.model.proofs.Walks.{goes_on, reached_all}

module _ (P : Plan) (K : ℕ → Bool) (a s : ℕ) where
  -- what is marked is reached and forced
  pub marked_is : marked P K a s ≡ true → (reached P K a s ≡ true) × (forced P K s ≡ true)
  unfolding marked
  marked_is e =
      let (b, n) = and_both (reached P K a s && active P s) (not (found (choice P K s))) e in
      let (w, act) = and_both (reached P K a s) (active P s) b in
      let left = found_none (choice P K s) (not-true (found (choice P K s)) n) in
      (w, forced_of P K s act (choice_none P K s act left))

  pub marked_of : reached P K a s ≡ true → active P s ≡ true → choice P K s ≡ none → marked P K a s ≡ true
  unfolding marked found
  marked_of w act e = rw (w, act, e)

module _ (P : Plan) (S : Valid P) (K : ℕ → Bool) (a : ℕ) (in_plan : a < P.states)
    (fails : (x : ℕ) → failing P x ≡ true → K x ≡ true) (fresh : K a ≡ false) where
  -- a walk reaches nothing that is known
  pub reached_unknown : (x : ℕ) → reached P K a x ≡ true → (x < P.states) × (K x ≡ false)
  reached_unknown = reached_all P K a (λ x. (x < P.states) × (K x ≡ false)) (in_plan, fresh) (λ t c x l q p m.
      let (act, own, out) = choice_some P K t c p in
      (S.inside t c x l own m, misses P K t c x out m))

  module _ (unmarked : (x : ℕ) → x < P.states → marked P K a x ≡ false) where
    -- where no state is marked the walk takes a command at each active state
    takes : (x : ℕ) → reached P K a x ≡ true → active P x ≡ true → (c : ℕ) × (choice P K x ≡ some c)
    takes x w act =
        is_some (choice P K x) (λ q. clash (marked_of P K a x w act q) (unmarked x (reached_unknown x w).0))

    -- so it reaches no lost state
    outside : (k x : ℕ) → layer P k x ≡ true → reached P K a x ≡ true → ⊥
    outside =
        grow_all (forced P) (failing P) (λ x. reached P K a x ≡ true → ⊥) (λ x e w. clash (fails x e) (reached_unknown x w).1)
        (λ A below x t w.
        let (act, hit) = forced_is P A x t in
        let (c, q) = takes x w act in
        let (y, m, e) = hits_is P A x c (hit c (choice_some P K x c q).1) in
        below y e (goes_on P K a S x c y (reached_unknown x w).0 w q m))

    pub reached_safe : (x : ℕ) → reached P K a x ≡ true → lost P x ≡ false
    reached_safe x w = refute (lost P x) (λ t. outside P.states x (lost_layer P x t) w)

    -- and what it takes is the chosen command
    pub reached_same : ((x : ℕ) → x < P.states → K x ≡ true → lost P x ≡ true)
        → (x : ℕ) → reached P K a x ≡ true → choice P K x ≡ chosen P x
    reached_same within x w = choice_same P K (lost P) x more out ∙ sym (chosen_choice P S x l)
      where
        l : x < P.states
        l = (reached_unknown x w).0

        more : (c : ℕ) → c < P.commands x → hits P K x c ≡ true → hits P (lost P) x c ≡ true
        more c m e =
            let (y, o, k) = hits_is P K x c e in
            hits_of P (lost P) x c y o (within y (S.inside x c y l m o) k)

        out : (c : ℕ) → choice P K x ≡ some c → hits P (lost P) x c ≡ false
        out c q = refute (hits P (lost P) x c) (λ e.
            let (y, o, k) = hits_is P (lost P) x c e in
            clash k (reached_safe y (goes_on P K a S x c y l w q o)))
