-- Layers, verdicts and ranks (docs/SPECIFICATION.md, part V).
use Rattle.std.specs.Prelude.{◌≡◌, Bool, true, false, not, ◌&&◌, ℕ, suc, ◌<◌}
use mathlib.Core.List.{Memᴰ}
use Rattle.std.proofs.Math.Option.{Option}
use Rattle.laws.specs.Sets.{least, every, lowest, found, grow}
use Rattle.model.specs.Plan.{Plan, failing, active}

-- rule V16: the lowest outcome in K that the command c of s has
unfoldable pub hit : Plan → (ℕ → Bool) → ℕ → ℕ → Option ℕ
hit P K s c = least K (P.outcomes s c)

-- the command c of s has an outcome in K
unfoldable pub hits : Plan → (ℕ → Bool) → ℕ → ℕ → Bool
hits P K s c = found (hit P K s c)

-- what is meant: it is an outcome of the command and in K, and no lower one is in K
pub record LowestHit (P : Plan) (K : ℕ → Bool) (s c x : ℕ) : Type 0 where
  pub outcome : Memᴰ x (P.outcomes s c)
  pub inside : K x ≡ true
  pub lowest : (y : ℕ) → y < x → Memᴰ y (P.outcomes s c) → K y ≡ false

-- rule V2: an active state of which each command has an outcome in K
unfoldable pub forced : Plan → (ℕ → Bool) → ℕ → Bool
forced P K s = active P s && every (hits P K s) (P.commands s)

-- Layers 0 to k together (rules V1, V2): the failing states, and at each further layer the states that those before it force.
abbrev pub layer : Plan → ℕ → ℕ → Bool
layer P = grow (forced P) (failing P)

-- rule V4. No layer past n adds a state (proofs/Layers.antt, `layer_rank`), so none is looked at.
unfoldable pub rank : Plan → ℕ → Option ℕ
rank P s = lowest (λ k. layer P k s) (suc P.states)

-- rule V3: what is in a layer is lost, and all else safe
unfoldable pub lost : Plan → ℕ → Bool
lost P s = found (rank P s)

unfoldable pub safe : Plan → ℕ → Bool
safe P s = not (lost P s)
