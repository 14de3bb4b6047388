-- An entry other than FFFF is the rank that it is.
use native.Mathlib.Omega.{arith}
use Rattle.warning.proofs.RankTimes.{entry_below}
use Rattle.warning.proofs.times.warning.Goals as goal

pub rank_time-requires : goal.rank_time-requires
rank_time-requires c =
    (entry_below c.at-rank.ensures (λ q. omega (arith, c.if-rank-eq-NONE.false, q)) c.requires.by_index, c.requires.state_in_bounds.1)
