-- The invariant is that reading the states left from the mark on answers what reading all of them does.
use Rattle.reading.proofs.Scanning.{states_all, states_none, states_end, states_stop, states_more, state_room}
use Rattle.reading.proofs.Passing.{went}
use Rattle.reading.specs.Meaning.{Walks}
use native.Mathlib.Omega.{arith}
use mathlib.Core.Path.{sym, subst, ◌∙◌}
use Rattle.reading.proofs.scan.scan_states.Goals as goal

pub returns-in_default : goal.returns-in_default
returns-in_default c =
    let a = c.args in
    subst (Walks a.file.now _) (c.loop.invariant.1 ∙ states_all a.file.now a.n a.from)
    (states_end a.file.now a.n c.loop.counter c.loop.k c.loop-test.true c.in_default.is
    c.read_state-f.ensures)

pub number-requires : goal.number-requires
number-requires c =
    let w = went c.in-Ok.ensures in
    let r = state_room c.args.file.now c.loop.k c.in-Ok.next w.0 in
    omega (arith, r)

pub scan_commands-c-requires : goal.scan_commands-c-requires
scan_commands-c-requires c =
    let w = went c.in-Ok.ensures in
    let r = state_room c.args.file.now c.loop.k c.in-Ok.next w.0 in
    (w.1, rw c.number.ensures r.1)

pub returns-in_default-c : goal.returns-in_default-c
returns-in_default-c c =
    let a = c.args in
    let w = went c.in-Ok.ensures in
    subst (Walks a.file.now _) (c.loop.invariant.1 ∙ states_all a.file.now a.n a.from)
    (states_stop a.file.now a.n c.loop.counter c.loop.k c.loop-test.true c.in-Ok.next _
    c.number.ensures w.0 c.in_default-c.is c.scan_commands-c.ensures)

pub loop-preserved : goal.loop-preserved
loop-preserved c =
    let a = c.args in
    let w = went c.in-Ok.ensures in
    let v = went c.in-Ok-c.ensures in (
      v.1,
      sym (states_more a.file.now a.n c.loop.counter c.loop.k c.loop-test.true
          c.in-Ok.next _ c.number.ensures w.0 c.in-Ok-c.past v.0) ∙ c.loop.invariant.1,
    )

pub returns : goal.returns
returns c =
    let a = c.args in
    record {
      answers = states_none a.file.now a.n c.loop.counter c.loop.k c.loop-test.false
          ∙ c.loop.invariant.1 ∙ states_all a.file.now a.n a.from;
      stays = c.loop.invariant.0;
    }
