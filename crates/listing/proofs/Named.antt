-- What is named at a state of a sound plan, by deciding's tables, is the outcome at its fault.
use mathlib.Core.Path.{◌≡◌, sym, ap, ◌∙◌}
use mathlib.Core.Bool.{Bool, true, cond}
use mathlib.Core.List.{List}
use mathlib.Core.Logic.{⊎_elim}
use mathlib.Core.Option.{Option, none}
use Prim.Native.Nat.{ℕ, ◌+◌, ◌<◌, ◌≤◌}
use native.Mathlib.Omega.{arith}
use lib.Dec.{leb}
use lib.ListN.{get_or}
use borrow.Author.Tests.{le-leb, lt-leb}
use Rattle.std.specs.Prelude.{Option as CodeOption, Some, None, IfSome}
use Rattle.laws.specs.Entry.{entry, highest}
use Rattle.laws.proofs.Tests.{true_or_false}
use Rattle.laws.proofs.EntryFound.{entry_found}
use Rattle.laws.proofs.Least.{least_same}
use Rattle.model.specs.Plan.{Plan, Valid}
use Rattle.model.specs.Verdict.{hit, lost, rank}
use Rattle.model.specs.Practice.{fault, mark, fault_outcome}
use Rattle.model.specs.Tables.{Tables, Lists, lists_in}
use Rattle.model.specs.Places.{row_at, first_command, command_count}
use Rattle.model.specs.Held.{plan_in}
use Rattle.model.specs.SoundTest.{sound}
use Rattle.model.proofs.Faults.{fault_given, at_fault, no_fault, named_inside}
use Rattle.model.proofs.HeldPlan.{states_held, practice_held, commands_held}
use Rattle.model.proofs.Layers.{rank_bound}
use Rattle.model.proofs.SoundFacts.{sound_facts}
use Rattle.model.proofs.Valid.{sound_valid}
use Rattle.tables.specs.declared.spans.Span.{Span}
use Rattle.tables.specs.Spans.{span_at}
use Rattle.tables.specs.Meaning.{option_of}
use Rattle.choice.specs.Within.{within, command_hit}
use Rattle.choice.proofs.Choices.{hit_held}
use Rattle.listing_text.proofs.Entries.{mark_says}
use Rattle.listing.specs.Holds.{Holds}

-- the outcome that is named at a state, by what was read of it: where the mark tells of a fault, the practice's lowest outcome that has a rank
abbrev pub named_at : Lists → List ℕ → Span → ℕ → Option ℕ
named_at L ranks q m = cond (leb 2 m) (command_hit L (within ranks highest) (q.first + q.practice)) none

-- the entries of a table of ranks that are numbers tell of the lost states
module _ (P : Plan) (few : P.states < highest) (ranks : List ℕ)
    (is_rank : (x : ℕ) → x < P.states → get_or ranks x 0 ≡ entry (rank P x)) where
  ranked_lost : (x : ℕ) → x < P.states → within ranks highest x ≡ lost P x
  unfolding lost
  ranked_lost x h = rw (is_rank x h) (entry_found (rank P x) (λ r e. omega (arith, rank_bound P x r e)))

  ranked_hit : Valid P → (s c : ℕ) → s < P.states → c < P.commands s → hit P (lost P) s c ≡ hit P (within ranks highest) s c
  unfolding hit
  ranked_hit valid s c l h = least_same _ _ (P.outcomes s c) (λ x m. sym (ranked_lost x (valid.inside s c x l h m)))

module _ (T : Tables) (sounds : sound T ≡ true) (ranks : List ℕ)
    (is_rank : (x : ℕ) → x < (plan_in T).states → get_or ranks x 0 ≡ entry (rank (plan_in T) x)) (s m : ℕ) (l : s < T.size.n)
    (is_mark : m ≡ mark (plan_in T) s) where
  abbrev plan : Plan
  plan = plan_in T

  in_plan : s < plan.states
  in_plan = rw (states_held T) l

  few : plan.states < highest
  few = rw (states_held T) (omega (arith, ((sound_facts T).0 sounds).size.few))

  says : leb 2 m ≡ fault plan s
  says = (mark_says plan s m (sym is_mark)).1

  own : fault plan s ≡ true → (row_at T s).practice < command_count T s
  own f = rw (practice_held T s l, commands_held T s l) at (fault_given plan s f)

  abbrev tested : Option ℕ
  tested = command_hit (lists_in T) (within ranks highest) (first_command T s + (row_at T s).practice)

  practice_tested : fault plan s ≡ true → tested ≡ hit plan (lost plan) s (plan.practice s)
  practice_tested f =
      sym (ranked_hit plan few ranks is_rank (sound_valid T sounds) s (plan.practice s) in_plan (fault_given plan s f)
      ∙ rw (practice_held T s l) (hit_held T (within ranks highest) s l (row_at T s).practice (own f)))

  pub named_is : named_at (lists_in T) ranks (span_at T s) m ≡ fault_outcome plan s
  named_is =
      ap (λ (b : Bool). cond b tested none) says
      ∙ ⊎_elim (λ f. rw f (practice_tested f ∙ sym (at_fault plan s f))) (λ e. rw e (sym (no_fault plan s e)))
      (true_or_false (fault plan s))

  -- where the mark tells of a fault the practice is a command
  pub named_given : 2 ≤ m → first_command T s + (row_at T s).practice < T.size.m
  unfolding command_count
  named_given h =
      let f = ((sound_facts T).0 sounds).rows s l in
      omega (arith, own (sym says ∙ le-leb 2 m h), f.rises, f.below)

module _ (T : Tables) (sounds : sound T ≡ true) where
  abbrev P : Plan
  P = plan_in T

  pub states_few : T.size.n ≤ 1024
  states_few = ((sound_facts T).0 sounds).size.few

  pub commands_few : T.size.m ≤ 4096
  commands_few = ((sound_facts T).0 sounds).size.few_commands

  module _ {ranks commands marks : List ℕ} (h : Holds T ranks commands marks) (s : ℕ) (l : s < T.size.n) where
    abbrev practice_place : ℕ
    practice_place = first_command T s + (row_at T s).practice

    named : named_at (lists_in T) ranks (span_at T s) (get_or marks s 0) ≡ fault_outcome P s
    named = named_is T sounds ranks (λ x i. h.ranked x (rw (states_held T) at i)) s _ l (h.marked s l)

    pub none_named : get_or marks s 0 < 2 → none ≡ fault_outcome P s
    none_named k = rw (lt-leb 2 _ k) at named

    pub practice_given : 2 ≤ get_or marks s 0 → practice_place < T.size.m
    practice_given k = named_given T sounds ranks (λ x i. h.ranked x (rw (states_held T) at i)) s _ l (h.marked s l) k

    pub some_named : 2 ≤ get_or marks s 0 → {o : Option ℕ} → o ≡ command_hit (lists_in T) (within ranks highest) practice_place
        → o ≡ fault_outcome P s
    some_named k e = e ∙ (rw (le-leb 2 _ k) at named)

    pub named_fits : (o : CodeOption ℕ) → option_of o ≡ fault_outcome P s → IfSome o (λ x. x < 1000000)
    named_fits None e = tt
    named_fits (Some x) e =
        omega (arith, states_few, states_held T, named_inside P (sound_valid T sounds) s (rw (states_held T) l) x (sym e))
