-- Whether the practice has an outcome in a set, and what a fault is, in words that the rest of the theory cites.
use mathlib.Core.Path.{◌≡◌, refl, ap, ◌∙◌}
use mathlib.Core.Bool.{Bool, true, false, cond, ◌&&◌}
use mathlib.Core.Option.{Option, none}
use Prim.Native.Nat.{ℕ}
use Rattle.laws.specs.Sets.{found}
use Rattle.model.specs.Plan.{Plan, has_practice}
use Rattle.model.specs.Verdict.{hit, hits, lost, safe}
use Rattle.model.specs.Practice.{practice_hit, practice_hits, fault_outcome, fault}

-- what is asked for only where a test holds is found where both are so
found_if : (b : Bool) (o : Option ℕ) → found (cond b o none) ≡ (b && found o)
unfolding found
found_if true o = refl
found_if false o = refl

pub practice_hits_words : (P : Plan) (K : ℕ → Bool) (s : ℕ) → practice_hits P K s ≡ (has_practice P s && hits P K s (P.practice s))
unfolding practice_hits practice_hit hits
practice_hits_words P K s = found_if (has_practice P s) (hit P K s (P.practice s))

pub fault_hits : (P : Plan) (s : ℕ) → fault P s ≡ (safe P s && practice_hits P (lost P) s)
unfolding fault fault_outcome practice_hits
fault_hits P s = found_if (safe P s) (practice_hit P (lost P) s)

-- rule V11
pub fault_words : (P : Plan) (s : ℕ) → fault P s ≡ (safe P s && (has_practice P s && hits P (lost P) s (P.practice s)))
fault_words P s = fault_hits P s ∙ ap (λ (b : Bool). safe P s && b) (practice_hits_words P (lost P) s)
