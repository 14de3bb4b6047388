-- Each test that fails is a plan that tables of the limits' lengths do not hold, and one that passes them all is held.
use mathlib.Core.Path.{sym, ◌∙◌}
use Rattle.load.proofs.Planning.{loading_short, loading_many, loading_long, loading_whole, size_answered, size_refused}
use Rattle.load.proofs.decoding.plan_size.Goals as goal

pub returns-then-size-lt-SIZE_BYTES : goal.returns-then-size-lt-SIZE_BYTES
returns-then-size-lt-SIZE_BYTES c = size_refused _ _ _ _ (loading_short _ _ _ _ c.if-size-lt-SIZE_BYTES.true)

pub returns-then-not-few : goal.returns-then-not-few
returns-then-not-few c =
    size_refused _ _ _ _ (loading_many _ _ _ _ c.if-size-lt-SIZE_BYTES.false _ c.size_in-read.ensures
    (sym c.few.ensures ∙ c.if-not-few.true))

pub returns-then-not-long : goal.returns-then-not-long
returns-then-not-long c =
    size_refused _ _ _ _ (loading_long _ _ _ _ c.if-size-lt-SIZE_BYTES.false _ c.size_in-read.ensures
    (sym c.long_enough-long.ensures ∙ c.if-not-long.true))

pub returns : goal.returns
returns c =
    size_answered _ _ _ _ c.if-size-lt-SIZE_BYTES.false _ c.size_in-read.ensures
    (loading_whole _ _ _ _ c.if-size-lt-SIZE_BYTES.false _ c.size_in-read.ensures
    (sym c.few.ensures ∙ c.if-not-few.false) (sym c.long_enough-long.ensures ∙ c.if-not-long.false))
