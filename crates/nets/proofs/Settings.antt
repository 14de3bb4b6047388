-- What sound tables and the ranges read off them give to the propagations.
use mathlib.Core.Path.{◌≡◌, sym, ◌∙◌}
use mathlib.Core.List.{List}
use Prim.Native.Nat.{ℕ, suc, ◌+◌, ◌<◌, ◌≤◌}
use native.Mathlib.Decide.{dec_lt}
use native.Mathlib.Numerals.{add-one}
use native.Mathlib.Omega.{arith}
use lib.ListN.{length}
use borrow.Author.Tests.{le-ltb}
use Rattle.laws.specs.Filled.{Filled}
use Rattle.laws.specs.Starts.{start_of, Parts}
use Rattle.laws.proofs.Starts.{start_in_lem, start_out}
use Rattle.model.specs.Tables.{Tables}
use Rattle.model.specs.Places.{row_at, first_command}
use Rattle.model.proofs.SoundFacts.{Fits, sound_facts}
use Rattle.tables.specs.declared.sound_plan.SoundPlan.{SoundPlan}
use Rattle.tables.specs.Meaning.{lent}
use Rattle.tables.specs.Spans.{span_at}
use Rattle.tables.proofs.SoundPlans.{plan_ready, plan_rows}
use Rattle.propagate.specs.Net.{Seeded}
use Rattle.nets.specs.Nets.{Spans, Initialized}
use Rattle.nets.specs.Found.{OwnRanges}
use Rattle.nets.proofs.Initializing.{place_inside}
use Rattle.nets.proofs.Depths.{sown_seeded}

-- past the last state, where the last commands end
first_past : (T : Tables) (s : ℕ) → T.size.n ≤ s → first_command T s ≡ T.size.m
unfolding first_command
first_past T s h = rw (le-ltb s T.size.n h)

module _ (p : SoundPlan) where
  abbrev T : Tables
  T = lent p.plan

  abbrev n : ℕ
  n = p.plan.size.n

  abbrev m : ℕ
  m = p.plan.size.m

  facts : Fits T
  facts = (sound_facts T).0 p.sounds

  -- the places of a state's commands are in range
  pub own_span : (s : ℕ) → s < n → ((span_at T s).first ≤ (span_at T s).end) × ((span_at T s).end ≤ m)
  own_span s l = let r = facts.rows s l in rw (add-one s) (r.rises, r.below)

  -- whatever stands in the other tables, on which where commands begin does not depend
  pub sound_spans : Spans p.plan.size p.plan.rows.now
  unfolding first_command row_at
  sound_spans = record { few = (plan_ready p).few; few_commands = (plan_ready p).few_commands; long = plan_rows p; inside = λ F O s l. own_span s l }

  module _ {r₀ w₀ e₀ m₀ r starts e places : List ℕ} (v : Initialized T n r₀ w₀ e₀ m₀ r starts e places) where
    -- the layout of all commands, by which the index is made
    starts_are : (s : ℕ) → start_of starts n m s ≡ first_command T s
    starts_are s = go (dec_lt s n)
      where
        go : Dec (s < n) → start_of starts n m s ≡ first_command T s
        go (yes l) = start_in_lem starts n m s l ∙ v.begins.low s l
        go (no l) = start_out starts n m s (omega arith) ∙ sym (first_past T s (omega arith))

    pub initialized_parts : Parts starts n m
    initialized_parts = record {
      zero = starts_are 0 ∙ facts.commands_start;
      rises = λ s l. rw (starts_are s, starts_are (suc s)) (facts.rows s l).rises;
    }

    -- ranges from a place among the state's own commands on
    initialized_own : {x₀ x : List ℕ} {f : ℕ → ℕ} → Filled n f x₀ x
        → ((s : ℕ) → s < n → (first_command T s ≤ f s) × (f s ≤ first_command T (s + 1)))
        → n ≤ length x₀ → n ≤ length e₀ → OwnRanges n m starts x e
    initialized_own w among lx le = record {
      long_froms = omega (arith, w.same);
      long_tos = omega (arith, v.stops.same);
      inside = λ s l.
          let i = own_span s l in
          rw (starts_are s, starts_are (suc s), ← add-one s, w.low s l, v.stops.low s l) ((among s l).0, (among s l).1, omega arith);
    }

    pub initialized_all : n ≤ length w₀ → n ≤ length e₀ → OwnRanges n m starts starts e
    initialized_all = initialized_own v.begins (λ s l. (omega arith, (own_span s l).0))

    pub initialized_practice : n ≤ length m₀ → n ≤ length e₀ → OwnRanges n m starts places e
    initialized_practice = initialized_own v.placed (λ s l. place_inside (span_at T s) (own_span s l).0)

    pub initialized_seeds : n ≤ length r₀ → (n ≤ length r) × Seeded n r
    initialized_seeds l =
        let long : n ≤ length r = omega (arith, v.seeded.same) in
        (long, sown_seeded p r long v.seeded.low)
