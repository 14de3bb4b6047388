-- Plans that differ in their outcomes only: for plans with outcomes in doubt, and for plans whose practice is another.
use Rattle.std.specs.Prelude.{◌≡◌, ◌↔◌, ℕ, ◌<◌}
use mathlib.Core.List.{List, Memᴰ}
use Rattle.model.specs.Plan.{Plan}

-- the plan with other outcomes
abbrev pub with_outcomes : Plan → (ℕ → ℕ → List ℕ) → Plan
with_outcomes P os = record {
  states = P.states;
  start = P.start;
  kind = P.kind;
  commands = P.commands;
  outcomes = os;
  practice = P.practice;
}

-- the same states, of the same kinds and with as many commands; nothing is said of the start and of the practice
pub record SameShape (P Q : Plan) : Type 0 where
  pub states : P.states ≡ Q.states
  pub kinds : (s : ℕ) → s < P.states → P.kind s ≡ Q.kind s
  pub counts : (s : ℕ) → s < P.states → P.commands s ≡ Q.commands s

-- P is Q with the same or fewer outcomes: each outcome of a command of P is one of the same command of Q
pub record Finer (P Q : Plan) : Type 0 where
  pub shape : SameShape P Q
  pub among : (s c x : ℕ) → s < P.states → c < P.commands s → Memᴰ x (P.outcomes s c) → Memᴰ x (Q.outcomes s c)

-- P is Q with the same outcomes, in whatever order they are listed
pub record SameGame (P Q : Plan) : Type 0 where
  pub shape : SameShape P Q
  pub outcomes : (s c x : ℕ) → s < P.states → c < P.commands s → Memᴰ x (P.outcomes s c) ↔ Memᴰ x (Q.outcomes s c)
