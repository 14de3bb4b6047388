-- What follows of the state read and of the command chosen there.
use mathlib.Core.Path.{◌≡◌, sym, ◌∙◌}
use mathlib.Core.Bool.{Bool, true, false}
use mathlib.Core.Option.{some}
use Prim.Native.Nat.{ℕ, ◌+◌, ◌<◌, ◌≤◌}
use native.Mathlib.Numerals.{add-one}
use native.Mathlib.Omega.{arith}
use Rattle.std.specs.Prelude.{Option as CodeOption, Some, None, IfSome}
use Rattle.laws.specs.Sets.{any}
use Rattle.laws.specs.Entry.{FFFF}
use Rattle.model.specs.Command.{choice}
use Rattle.model.specs.Tables.{Tables}
use Rattle.model.specs.Places.{first_command, command_count, outcomes_at}
use Rattle.model.specs.SoundTest.{sound}
use Rattle.model.specs.Held.{plan_in}
use Rattle.model.proofs.Choices.{choice_some}
use Rattle.model.proofs.HeldPlan.{commands_held}
use Rattle.model.proofs.SoundFacts.{sound_facts}
use Rattle.tables.specs.declared.spans.Span.{Span}
use Rattle.tables.specs.Meaning.{option_of}
use Rattle.tables.specs.Spans.{span_at}
use Rattle.choice.proofs.Choices.{hits_held}

module _ (T : Tables) (sounds : sound T ≡ true) (s : ℕ) (l : s < T.size.n) where
  -- the places of the commands of s are in range
  pub span_inside : (q : Span) → q ≡ span_at T s → (q.first ≤ q.end) × (q.end ≤ T.size.m)
  span_inside q e =
      let f = ((sound_facts T).0 sounds).rows s l in
      rw (e, add-one s) (f.rises, f.below)

  module _ (K : ℕ → Bool) where
    -- of a command that is chosen: its place, and that it stays out of K
    pub taken_place : (c : ℕ) → choice (plan_in T) K s ≡ some c → first_command T s + c < T.size.m
    unfolding command_count
    taken_place c e =
        let own = (choice_some (plan_in T) K s c e).1 in
        let f = ((sound_facts T).0 sounds).rows s l in
        omega (arith, commands_held T s l, f.rises, f.below)

    pub taken_clear : (c : ℕ) → choice (plan_in T) K s ≡ some c → any K (outcomes_at T (first_command T s + c)) ≡ false
    taken_clear c e =
        let (act, own, out) = choice_some (plan_in T) K s c e in
        sym (hits_held T K s l c (rw (commands_held T s l) at own)) ∙ out

    pub few_commands : (c : ℕ) → choice (plan_in T) K s ≡ some c → c < FFFF
    few_commands c e = omega (arith, taken_place c e, ((sound_facts T).0 sounds).size.few_commands)

    -- an answer that stands for the choice fits an entry
    pub choice_fits : (r : CodeOption ℕ) → option_of r ≡ choice (plan_in T) K s → IfSome r (λ c. c < 65536)
    choice_fits None e = tt
    choice_fits (Some c) e = omega (arith, few_commands c (sym e))
