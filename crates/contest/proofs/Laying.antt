-- The tables in which a sound plan is laid out: they are what the turns ask for, and their plan has the plan's own turns.
use mathlib.Core.Path.{◌≡◌, refl, sym, ◌∙◌}
use mathlib.Core.Bool.{true, false}
use mathlib.Core.List.{List}
use Prim.Native.Nat.{ℕ, ◌-◌, ◌<◌, ◌≤◌}
use native.Mathlib.Numerals.{add-one}
use native.Mathlib.Omega.{arith}
use lib.ListN.{length, get_or}
use Rattle.laws.specs.Entry.{FFFF}
use Rattle.model.specs.Plan.{Plan, failing, resting}
use Rattle.model.specs.Contest.{keeper_turn}
use Rattle.model.specs.Tables.{Tables}
use Rattle.model.specs.Places.{command_count}
use Rattle.model.specs.SoundTest.{sound}
use Rattle.model.specs.Held.{plan_in}
use Rattle.model.proofs.StateKinds.{Kind, fails, rests, acts, kind_of, active_is, idle_none}
use Rattle.model.proofs.HeldPlan.{states_held, commands_held, outcomes_held}
use Rattle.model.proofs.Valid.{sound_valid}
use Rattle.tables.specs.declared.Size.{Size}
use Rattle.tables.specs.declared.Row.{Row}
use Rattle.tables.specs.Meaning.{held}
use Rattle.tables.specs.Spans.{span_at}
use Rattle.tables.proofs.Readiness.{sound_ready}
use Rattle.tables.proofs.SpanFacts.{span_failing}
use Rattle.choice.proofs.Taken.{span_inside}
use Rattle.nets.specs.Nets.{seed_of, Initialized}
use Rattle.contest.specs.Laid.{laid_plan, Laid}
use Rattle.contest.proofs.LaidPlans.{laid_commands, laid_fails, laid_fails_on, laid_stands, laid_rests, laid_tries}
use Rattle.contest.proofs.SameTurns.{Alike, turn_same}

module _ (size : Size) (rows : List Row) (firsts outcomes : List ℕ) (sounds : sound (held size rows firsts outcomes) ≡ true)
    {r₀ w₀ e₀ p₀ seeds froms tos places : List ℕ}
    (v : Initialized (held size rows firsts outcomes) size.n r₀ w₀ e₀ p₀ seeds froms tos places) where
  abbrev T : Tables
  T = held size rows firsts outcomes

  abbrev P : Plan
  P = plan_in T

  abbrev Q : Plan
  Q = laid_plan size seeds froms tos firsts outcomes

  pub laid : size.n ≤ length r₀ → size.n ≤ length w₀ → size.n ≤ length e₀ → Laid size seeds froms tos firsts outcomes
  laid a b c = record {
    ready = sound_ready size rows firsts outcomes sounds;
    long_seeds = omega (arith, v.seeded.same);
    long_froms = omega (arith, v.begins.same);
    long_tos = omega (arith, v.stops.same);
    inside = λ s l. rw (v.stops.low s l) (span_inside T sounds s l (span_at T s) refl).1;
  }

  module _ (s : ℕ) (l : s < size.n) where
    count : P.commands s ≡ (span_at T s).end - (span_at T s).first
    unfolding command_count
    count = rw (add-one s) (commands_held T s l)

    here : Q.commands s ≡ get_or tos s 0 - get_or froms s 0
    here = laid_commands _ _ _ _ _ _ s

    many : Q.commands s ≡ P.commands s
    many = here ∙ rw (v.begins.low s l, v.stops.low s l) (sym count)

    seed_zero : failing P s ≡ true → get_or seeds s 0 ≡ 0
    unfolding seed_of
    seed_zero f = v.seeded.low s l ∙ rw (span_failing T s l ∙ f)

    seed_other : failing P s ≡ false → seed_of (span_at T s) ≡ FFFF
    unfolding seed_of
    seed_other f = rw (span_failing T s l ∙ f)

    seed_none : failing P s ≡ false → get_or seeds s 0 ≡ 0 → ⊥
    seed_none f z = omega (arith, seed_other f, v.seeded.low s l, z)

    -- both plans count the state as the same
    abbrev Same : Type 0
    Same = (failing Q s ≡ failing P s) × (resting Q s ≡ resting P s)

    counts_same : Kind P s → Same
    counts_same (fails f r a) = (
      laid_fails _ _ _ _ _ _ s _ refl (seed_zero f) ∙ sym f,
      laid_fails_on _ _ _ _ _ _ s _ refl (seed_zero f) ∙ sym r,
    )
    counts_same (rests f r a) =
        let none = idle_none P s (sound_valid T sounds) (rw (states_held T) l) a in (
          laid_stands _ _ _ _ _ _ s _ refl (seed_none f) ∙ sym f,
          laid_rests _ _ _ _ _ _ s _ refl (seed_none f) _ _ refl refl
              (omega (arith, many, none, here)) ∙ sym r,
        )
    counts_same (acts f r a) = (
      laid_stands _ _ _ _ _ _ s _ refl (seed_none f) ∙ sym f,
      laid_tries _ _ _ _ _ _ s _ refl (seed_none f) _ _ refl refl
          (omega (arith, many, (active_is P s a).1, here)) ∙ sym r,
    )

    same : Same
    same = counts_same (kind_of P s (sound_valid T sounds) (rw (states_held T) l))

    outs : (c : ℕ) → c < P.commands s → Q.outcomes s c ≡ P.outcomes s c
    unfolding laid_plan
    outs c m = rw (v.begins.low s l) (sym (outcomes_held T s l c (rw (commands_held T s l) at m)))

  alike : Alike P Q size.n
  alike = record {
    fails = λ s l. (same s l).0;
    rests = λ s l. (same s l).1;
    many = many;
    outs = λ s c l m. outs s l c m;
    inside = λ s c x l m o. rw (states_held T) at ((sound_valid T sounds).inside s c x (rw (states_held T) l) m o);
  }

  -- the plan's own turns
  pub laid_turn : (k s : ℕ) → s < size.n → keeper_turn Q k s ≡ keeper_turn P k s
  laid_turn = turn_same alike
