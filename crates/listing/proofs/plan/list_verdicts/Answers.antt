-- A sound plan is decided, so that the tables list every state; the states' lines and the tally's are put one behind another.
use native.Mathlib.Omega.{arith}
use mathlib.Core.Path.{ap, ◌∙◌}
use mathlib.Core.List.{List}
use Prim.Native.Nat.{ℕ}
use Rattle.model.specs.Calls.{AfterDecide}
use Rattle.model.specs.Held.{plan_in}
use Rattle.tables.specs.Meaning.{lent}
use Rattle.listing_text.proofs.Puts.{put_then}
use Rattle.listing.proofs.Answered.{answers, answer}
use Rattle.listing.proofs.Decided.{holds, tallies, two_rows}
use Rattle.listing.proofs.PlanLines.{tally_fits}
use Rattle.listing.proofs.plan.list_verdicts.Goals as goal

pub invariant_of-decided : goal.invariant_of-decided
invariant_of-decided c =
    let p = c.args.checked.now in
    let d = c.decide-decision.ensures.call in
    let left = c.decide-decision.auto in record {
      holds = holds (lent p.plan) p.sounds (omega arith, omega arith, omega arith, omega arith) _ _ _
          (ap (λ (x : AfterDecide). x.ranks) d) (ap (λ (x : AfterDecide). x.commands) d) (ap (λ (x : AfterDecide). x.marks) d)
          (omega (arith, left.ranks)) (omega (arith, left.commands)) (omega (arith, left.marks));
    }

pub unwrap-requires : goal.unwrap-requires
unwrap-requires c =
    let p = c.args.checked.now in
    answers (λ (t : List (List ℕ)). t) _
    (ap (λ (x : AfterDecide). x.answers) c.decide-decision.ensures.call
    ∙ tallies (lent p.plan) p.sounds (omega arith, omega arith, omega arith, omega arith))

pub put_tally_line-requires : goal.put_tally_line-requires
put_tally_line-requires c =
    let T = lent c.args.checked.now.plan in
    tally_fits (plan_in T) T.size.n c.requires c.list_states.ensures

pub returns : goal.returns
returns c =
    let p = c.args.checked.now in
    let same = answer (λ (t : List (List ℕ)). t)
    (ap (λ (x : AfterDecide). x.answers) c.decide-decision.ensures.call
    ∙ tallies (lent p.plan) p.sounds (omega arith, omega arith, omega arith, omega arith)) c.unwrap.ensures in
    put_then c.list_states.ensures (rw (two_rows (plan_in (lent p.plan)) _ same) at c.put_tally_line.ensures.wrote)
