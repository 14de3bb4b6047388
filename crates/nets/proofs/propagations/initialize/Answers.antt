-- A state more is initialized in all four tables, whatever first outcomes and outcomes there are.
use mathlib.Core.Path.{◌≡◌}
use native.Mathlib.Omega.{arith}
use Rattle.std.proofs.Common.{rules}
use Rattle.nets.proofs.propagations.initialize.Goals as goal

pub loop-s-preserved : goal.loop-s-preserved
loop-s-preserved c = λ F O. let v = c.loop-s.invariant F O in let is = c.span_at-span.ensures F O in search rules

pub returns : goal.returns
returns c = λ F O. let e : c.loop-s.s ≡ c.args.size.n = omega arith in rw e at (c.loop-s.invariant F O)
