-- No entry before the one that is read is in the set, and those behind it are higher, so the first that is in the set is the lowest.
use mathlib.Core.Path.{sym, ◌∙◌}
use native.Mathlib.Omega.{arith}
use Rattle.choice.specs.Within.{members}
use Rattle.choice.proofs.Outcomes.{scan_inside, scan_found, scan_missed}
use Rattle.choice.proofs.choosing.command_hit.Goals as goal

pub at-x-requires : goal.at-x-requires
at-x-requires c =
    omega (arith, c.loop-place-test.true, (scan_inside c.args.lists.now.ready _ c.requires.0 c.start-end.ensures c.requires.1).1)

pub contains-requires : goal.contains-requires
contains-requires c =
    rw c.at-x.ensures
    ((scan_inside c.args.lists.now.ready _ c.requires.0 c.start-end.ensures c.requires.1).2 _ c.loop-place-test.true)

pub returns-then-contains : goal.returns-then-contains
returns-then-contains c =
    scan_found c.args.lists.now.ready _ c.requires.0 c.start-end.ensures (members c.args.set.now) c.loop-place.invariant
    c.loop-place-test.true c.at-x.ensures (sym c.contains.ensures ∙ c.if-contains.true)

pub returns : goal.returns
returns c =
    let inside = scan_inside c.args.lists.now.ready _ c.requires.0 c.start-end.ensures c.requires.1 in
    scan_missed c.args.lists.now.ready _ c.requires.0 c.start-end.ensures (members c.args.set.now) c.loop-place.invariant
    (c.loop-place.auto.place-end (rw c.start-place.ensures inside.0)) c.loop-place-test.false
