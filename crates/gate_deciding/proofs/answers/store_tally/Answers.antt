-- The rows follow one another.
use Prim.Native.Nat.{◌≤◌}
use native.Mathlib.Omega.{arith}
use lib.ListN.{length}
use Rattle.gate_deciding.proofs.Delivering.{tally_stored}
use Rattle.gate_deciding.proofs.answers.store_tally.Goals as goal

pub returns : goal.returns
returns c =
    let short : length c.as_flattened.result.now ≤ 6 = omega (arith, c.as_flattened.ensures.len) in
    tally_stored _ _ _ _ c.as_flattened.ensures.value short c.store.ensures
