-- The invariant is that reading the commands left from the mark on answers what reading all of them does.
use Rattle.reading.proofs.Scanning.{commands_all, commands_none, commands_end, commands_step, commands_more}
use Rattle.reading.proofs.Passing.{went}
use Rattle.reading.specs.Meaning.{Walks}
use native.Mathlib.Omega.{arith}
use mathlib.Core.Path.{sym, subst, ◌∙◌}
use Prim.Native.Nat.{◌+◌, ◌<◌}
use Rattle.reading.proofs.scan.scan_commands.Goals.{In-loop}
use Rattle.reading.proofs.scan.scan_commands.Goals as goal

before : (c : In-loop) → c.loop.k.m < c.args.from.m + c.args.count
before c = omega (arith, c.loop.invariant.1, c.loop-test.true)

pub returns-in_default : goal.returns-in_default
returns-in_default c =
    let a = c.args in
    subst (Walks a.file.now _) (c.loop.invariant.2 ∙ commands_all a.file.now a.n a.count a.from)
    (commands_end a.file.now a.n _ c.loop.k (before (goal.at.returns-in_default c).In-loop) c.in_default.is
    c.read_command-f.ensures)

pub loop-preserved : goal.loop-preserved
loop-preserved c =
    let a = c.args in
    let h = before (goal.at.loop-preserved c).In-loop in
    let w = went c.in-Ok.ensures in (
      w.1,
      omega (arith, c.loop.invariant.1, commands_step a.file.now a.n _ c.loop.k h c.in-Ok.next w.0),
      sym (commands_more a.file.now a.n _ c.loop.k h c.in-Ok.next w.0) ∙ c.loop.invariant.2,
    )

pub returns : goal.returns
returns c =
    let a = c.args in
    record {
      answers = commands_none a.file.now a.n _ c.loop.k (omega (arith, c.loop.invariant.1, c.loop-test.false)) ∙ c.loop.invariant.2
          ∙ commands_all a.file.now a.n a.count a.from;
      stays = c.loop.invariant.0;
    }
