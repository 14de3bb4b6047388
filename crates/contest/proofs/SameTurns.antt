-- Plans that agree on their states below n have the same turns there.
use mathlib.Core.Path.{◌≡◌, ap}
use mathlib.Core.Bool.{Bool, not, ◌&&◌, ◌||◌}
use mathlib.Core.List.{Memᴰ}
use Prim.Native.Nat.{ℕ, zero, suc, ◌<◌}
use Rattle.laws.proofs.Agree.{Agree, exists_same, each_same}
use Rattle.model.specs.Plan.{Plan, failing, resting}
use Rattle.model.specs.Contest.{works_turn, keeper_turn}

-- what the turns look at
pub record Alike (P Q : Plan) (n : ℕ) : Type 0 where
  pub fails : (s : ℕ) → s < n → failing Q s ≡ failing P s
  pub rests : (s : ℕ) → s < n → resting Q s ≡ resting P s
  pub many : (s : ℕ) → s < n → Q.commands s ≡ P.commands s
  pub outs : (s c : ℕ) → s < n → c < P.commands s → Q.outcomes s c ≡ P.outcomes s c
  pub inside : (s c x : ℕ) → s < n → c < P.commands s → Memᴰ x (P.outcomes s c) → x < n

module _ {P Q : Plan} {n : ℕ} (w : Alike P Q n) where
  works_same : (A B : ℕ → Bool) → Agree n A B → (s c : ℕ) → s < n → c < P.commands s → works_turn Q A s c ≡ works_turn P B s c
  unfolding works_turn
  works_same A B h s c l m = rw (w.outs s c l m) (each_same A B (P.outcomes s c) (λ x o. h x (w.inside s c x l m o)))

  pub turn_same : (k s : ℕ) → s < n → keeper_turn Q k s ≡ keeper_turn P k s
  unfolding keeper_turn
  turn_same zero s l = ap not (w.fails s l)
  turn_same (suc k) s l =
      rw (w.fails s l, w.rests s l, w.many s l)
      (ap (λ (t : Bool). not (failing P s) && (resting P s || t))
      (exists_same _ _ (P.commands s) (λ c m. works_same _ _ (turn_same k) s c l m)))
