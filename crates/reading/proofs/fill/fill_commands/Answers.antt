-- The invariant is that what is left to fill, past the outcomes left of a command, makes the tables what all the commands make them; a
-- turn takes one command off what is left, or writes one outcome.
use Rattle.reading.proofs.FillCommands.{Turn, Place, filling_begin, filling_turn, filling_more, filling_left, filling_over, filling_all, commands_in_count, underway_at, underway_none, underway_place, underway_one}
use Rattle.reading.specs.declared.bytes.Mark.{Mark}
use Rattle.reading.specs.Meaning.{bytes_from}
use native.Mathlib.Omega.{arith}
use mathlib.Core.Path.{ap}
use Prim.Native.Nat.{ℕ, ◌+◌, ◌/◌}
use Rattle.reading.proofs.fill.fill_commands.Goals.{Else-end-m, Else-left-eq0}
use Rattle.reading.proofs.fill.fill_commands.Goals as goal

turn : (c : Else-end-m) → let l = c.loop-left in
    Turn c.args.file.now l.firsts
    (record { at = l.at; m = l.m; t = l.t })
turn c =
    let a = c.args in
    filling_turn a.file.now _ _ (underway_none c.loop-left.invariant.1 c.if-left-eq0.true) c.if-end-m.false

place : (c : Else-left-eq0) → let l = c.loop-left in
    Place c.args.file.now l.outcomes l.at l.t
place c = underway_place c.loop-left.invariant.1 c.if-left-eq0.false

pub overflow_add-end : goal.overflow_add-end
overflow_add-end c =
    let a = c.args in
    omega (arith, c.requires.in_firsts, c.well_formed, commands_in_count a.count (bytes_from a.file.now a.from))

pub loop-left-init : goal.loop-left-init
loop-left-init c =
    let a = c.args in
    let k = a.from in (
      omega arith,
      underway_at {file = a.file.now} (k.m + a.count) k.at k.m k.t
          (filling_begin a.file.now k a.count c.requires),
    )

pub returns-then-end-m : goal.returns-then-end-m
returns-then-end-m c =
    let a = c.args in
    let l = c.loop-left in
    let k : Mark = record { at = l.at; m = l.m; t = l.t } in
    let w = filling_over (filling_left a.file.now k _ (underway_none l.invariant.1 c.if-left-eq0.true) c.if-end-m.true) in
    rw (← filling_all a.count a.from.m (bytes_from a.file.now a.from)) (record { firsts = w.0; outcomes = w.1.0; mark = w.1.1 })

pub number-left-requires : goal.number-left-requires
number-left-requires c = (turn (goal.at.number-left-requires c).Else-end-m).some

pub put-requires : goal.put-requires
put-requires c = let t = turn (goal.at.put-requires c).Else-end-m in omega (arith, t.low, t.few)

pub loop-left-smaller-then-left-eq0 : goal.loop-left-smaller-then-left-eq0
loop-left-smaller-then-left-eq0 c = omega (arith, (turn (goal.at.loop-left-smaller-then-left-eq0 c).Else-end-m).inside)

pub loop-left-preserved-then-left-eq0 : goal.loop-left-preserved-then-left-eq0
loop-left-preserved-then-left-eq0 c =
    let l = c.loop-left in
    let a = c.args in
    let k : Mark = record { at = l.at; m = l.m; t = l.t } in
    let half = ap (λ (z : ℕ). z / 2) c.number-left.ensures in (
      omega (arith, c.if-end-m.false),
      filling_more a.file.now k _ (underway_none l.invariant.1 c.if-left-eq0.true) c.if-end-m.false half
          c.put.ensures,
    )

pub loop-left-preserved : goal.loop-left-preserved
loop-left-preserved c =
    let l = c.loop-left in
    (l.invariant.0, underway_one l.invariant.1 c.if-left-eq0.false c.entry.ensures)
