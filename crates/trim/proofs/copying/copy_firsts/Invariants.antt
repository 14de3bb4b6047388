-- Each turn writes one entry, at the next place.
use Prim.Native.Nat.{◌+◌, ◌-◌}
use Rattle.trim.proofs.Mapped.{Mapped}
use Rattle.trim.proofs.copying.copy_firsts.Given as goal

abbrev pub invariant-loop-i : goal.invariant-loop-i
invariant-loop-i l = Mapped (λ x. x - l.fn.stretch.from + l.t) l.copied l.m l.initial.firsts2 l.i l.firsts2
