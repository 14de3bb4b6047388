-- A marked state is reached, so its flag is 2 at least, and the tests are those of the definition.
use mathlib.Core.Path.{refl}
use native.Mathlib.Omega.{arith}
use Rattle.search.proofs.MarkTests.{lower_unmarked, marked_high, lower_first, lower_both}
use Rattle.search.proofs.walk.lower.Goals as goal

pub returns-then-not-is_marked : goal.returns-then-not-is_marked
returns-then-not-is_marked c = lower_unmarked _ _ _ _ _ c.is_marked.ensures c.if-not-is_marked.true _

pub overflow_sub-place : goal.overflow_sub-place
overflow_sub-place c = marked_high _ _ _ _ _ c.is_marked.ensures c.if-not-is_marked.false _ c.at-place.ensures

pub returns-in-None : goal.returns-in-None
returns-in-None c = rw c.in-None.is (lower_first _ _ _ _ _ c.is_marked.ensures c.if-not-is_marked.false _ c.at-place.ensures _ refl)

pub returns-in-Some : goal.returns-in-Some
returns-in-Some c =
    rw c.in-Some.is (lower_both _ _ _ _ _ c.is_marked.ensures c.if-not-is_marked.false _ c.at-place.ensures _ _ (omega arith))
