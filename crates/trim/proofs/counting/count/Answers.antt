-- The loop holds what is counted of the kept states that it has gone over; at the end it is all that the trimmed plan has.
use Prim.Native.Nat.{◌+◌, ◌-◌}
use native.Mathlib.Omega.{arith}
use Rattle.model.specs.Held.{tree_of}
use Rattle.trim.proofs.KeptStates.{tree_in, StretchOf, kept_good, kept_count, kept_inside, kept_stretch}
use Rattle.trim.proofs.Counted.{Counting, counting_next, counting_commands, counting_outcomes, start_has_place, counted}
use Rattle.trim.proofs.counting.count.Goals.{After-stretch_at-stretch}
use Rattle.trim.proofs.counting.count.Goals as goal

stretch_here : (c : After-stretch_at-stretch) → StretchOf c.args.kept.now c.loop-old.old-index c.stretch_at-stretch.result
stretch_here c = kept_stretch c.args.kept.now _ c.loop-old-test.true c.from.ensures c.stretch_at-stretch.ensures

next : (c : After-stretch_at-stretch)
    → let r = c.stretch_at-stretch.result in
    Counting (tree_in c.args.kept.now) (c.loop-old.old-index + 1) (c.loop-old.m + (r.end - r.first)) (c.loop-old.t + (r.to - r.from))
next c = counting_next c.loop-old.invariant (omega (arith, c.loop-old-test.true, kept_count c.args.kept.now)) (stretch_here c)

pub stretch_at-stretch-requires : goal.stretch_at-stretch-requires
stretch_at-stretch-requires c = omega (arith, c.from.ensures, kept_inside c.args.kept.now _ c.loop-old-test.true)

pub overflow_sub-m : goal.overflow_sub-m
overflow_sub-m c = (stretch_here (goal.at.overflow_sub-m c).After-stretch_at-stretch).rises

pub overflow_add-m : goal.overflow_add-m
overflow_add-m c =
    omega (arith, counting_commands (next (goal.at.overflow_add-m c).After-stretch_at-stretch) (kept_good c.args.kept.now))

pub overflow_sub-t : goal.overflow_sub-t
overflow_sub-t c = (stretch_here (goal.at.overflow_sub-t c).After-stretch_at-stretch).order

pub overflow_add-t : goal.overflow_add-t
overflow_add-t c =
    omega (arith, counting_outcomes (next (goal.at.overflow_add-t c).After-stretch_at-stretch) (kept_good c.args.kept.now))

pub loop-old-preserved : goal.loop-old-preserved
loop-old-preserved c = next (goal.at.loop-old-preserved c).After-stretch_at-stretch

pub place_of-requires : goal.place_of-requires
unfolding tree_of
place_of-requires c = start_has_place c.args.kept.now

pub returns : goal.returns
unfolding tree_of
returns c =
    counted c.args.kept.now c.loop-old-test.false c.loop-old.invariant c.new.ensures.made c.place_of.ensures.upper_bound
    c.place_of.ensures.holds
