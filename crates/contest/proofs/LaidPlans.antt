-- A laid plan's states, by the entries that were read, and its works' turn, by the places of a command's outcomes.
use mathlib.Core.Path.{◌≡◌, refl, ap}
use mathlib.Core.Bool.{Bool, true, false}
use mathlib.Core.Logic.{◌⊎◌, inl, inr}
use mathlib.Core.List.{List}
use Prim.Native.Nat.{ℕ, ◌+◌, ◌-◌, ◌<◌, ◌≤◌}
use native.Mathlib.Omega.{arith}
use lib.Dec.{ltb}
use lib.ListN.{length, get_or}
use lib.Seq.{slice}
use borrow.Author.Tests.{eq-eqb, ne_eqb, lt-ltb, le-ltb, ltb-true}
use Rattle.laws.specs.Sets.{each}
use Rattle.laws.proofs.Tests.{true_or_false}
use Rattle.model.specs.Plan.{Plan, ordinary, failing, resting}
use Rattle.model.specs.Places.{start_in}
use Rattle.model.specs.Contest.{works_turn}
use Rattle.model.proofs.StateKinds.{active_of, active_stands}
use Rattle.tables.specs.declared.Size.{Size}
use Rattle.tables.specs.Spans.{commands_of}
use Rattle.choice.proofs.Outcomes.{outcomes_read, outcomes_inside}
use Rattle.contest.specs.Laid.{laid_plan, Laid}

module _ (size : Size) (seeds froms tos firsts outcomes : List ℕ) (s : ℕ) where
  abbrev P : Plan
  P = laid_plan size seeds froms tos firsts outcomes

  pub laid_commands : P.commands s ≡ get_or tos s 0 - get_or froms s 0
  unfolding laid_plan
  laid_commands = refl

  module _ (seed : ℕ) (e : seed ≡ get_or seeds s 0) where
    pub laid_fails : seed ≡ 0 → failing P s ≡ true
    unfolding failing laid_plan
    laid_fails z = rw (← e, eq-eqb seed 0 z)

    -- a failing state is not at rest
    pub laid_fails_on : seed ≡ 0 → resting P s ≡ false
    unfolding resting laid_plan
    laid_fails_on z = rw (← e, eq-eqb seed 0 z)

    module _ (h : seed ≡ 0 → ⊥) where
      -- with commands it is active, and else at rest
      pub laid_stands : failing P s ≡ false
      unfolding failing ordinary laid_plan
      laid_stands = by (true_or_false (ltb (get_or froms s 0) (get_or tos s 0)))
        where
          by : (ltb (get_or froms s 0) (get_or tos s 0) ≡ true) ⊎ (ltb (get_or froms s 0) (get_or tos s 0) ≡ false) → failing P s ≡ false
          by (inl t) = active_stands P s
              (active_of P s (rw (← e, ne_eqb seed 0 h, t)) (omega (arith, ltb-true (get_or froms s 0) (get_or tos s 0) t, laid_commands)))
          by (inr t) = rw (← e, ne_eqb seed 0 h, t)

      module _ (from to : ℕ) (p : from ≡ get_or froms s 0) (q : to ≡ get_or tos s 0) where
        pub laid_rests : to ≤ from → resting P s ≡ true
        unfolding resting laid_plan
        laid_rests l = rw (← e, ne_eqb seed 0 h, ← p, ← q, le-ltb from to l)

        pub laid_tries : from < to → resting P s ≡ false
        unfolding resting laid_plan
        laid_tries l = rw (← e, ne_eqb seed 0 h, ← p, ← q, lt-ltb from to l)

  -- the command's outcomes are at the places from `from` up to `end`
  pub laid_works : (held : ℕ → Bool) (c place from end : ℕ) → place ≡ get_or froms s 0 + c
      → from ≡ start_in (commands_of size firsts outcomes) place → end ≡ start_in (commands_of size firsts outcomes) (place + 1)
      → each held (slice from end outcomes) ≡ works_turn P held s c
  unfolding works_turn laid_plan
  laid_works held c place from end p a b = rw (← p) (ap (each held) (outcomes_read (commands_of size firsts outcomes) place from end a b))

-- they are in range, and they are states
pub laid_inside : {size : Size} {seeds froms tos firsts outcomes : List ℕ} → Laid size seeds froms tos firsts outcomes
    → (s c : ℕ) → s < size.n → c < get_or tos s 0 - get_or froms s 0 → (place from end : ℕ) → place ≡ get_or froms s 0 + c
    → from ≡ start_in (commands_of size firsts outcomes) place → end ≡ start_in (commands_of size firsts outcomes) (place + 1)
    → (from ≤ end) × (end ≤ length outcomes) × ((j : ℕ) → j < end → get_or outcomes j 0 < size.n)
laid_inside {size} w s c l m place from end p a b =
    outcomes_inside w.ready place from end size.n (omega (arith, w.inside s l)) a b (omega arith)
