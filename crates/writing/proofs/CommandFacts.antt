-- A command of a list table that is ready: where its outcomes are, and its bytes.
use mathlib.Core.Path.{◌≡◌, sym, ap}
use mathlib.Core.List.{List, [], ◌∷◌, ◌++◌}
use Prim.Native.Nat.{ℕ, suc, ◌+◌, ◌-◌, ◌*◌, ◌<◌, ◌≤◌}
use native.Mathlib.Numerals.{add-one}
use native.Mathlib.Omega.{arith}
use lib.ListN.{length, take, drop}
use lib.Seq.{slice, length-slice, length-take-le, take-add, drop_at}
use Rattle.laws.specs.Entry.{two, twos}
use Rattle.laws.proofs.Entry.{length_twos}
use Rattle.model.specs.File.{command_tag, max_outcomes}
use Rattle.model.specs.Bytes.{commands_bytes}
use Rattle.model.specs.Tables.{Lists}
use Rattle.model.specs.Places.{start_in, list_at}
use Rattle.tables.specs.Ready.{Ready}
use Rattle.tables.proofs.Readiness.{ready_end}

-- a part of a list, as the code takes it
part_is : (from to : ℕ) (l : List ℕ) → from ≤ to → to ≤ length l → take (to - from) (drop from l) ≡ slice from to l
part_is from to l h k =
    let e : from + (to - from) ≡ to = omega arith in
    let same : take to l ≡ take from l ++ take (to - from) (drop from l) = rw e at (take-add from (to - from) l) in
    rw same (sym (drop_at (take from l) (take (to - from) (drop from l)) from (length-take-le from l (omega arith))))

-- the command c, with the places that are read of it
module _ {n : ℕ} {L : Lists} (k : Ready n L) {c from to : ℕ} (h : c < L.count) (p : from ≡ start_in L c) (q : to ≡ start_in L (c + 1)) where
  pub outcomes_inside : (from ≤ to) × (to ≤ max_outcomes) × (to ≤ length L.entries)
  outcomes_inside =
      let below : to ≤ L.end = omega (arith, rw add-one at q, ready_end k (suc c) h) in
      (omega (arith, p, rw add-one at q, k.parts.rises c h), omega (arith, k.states.few), omega (arith, k.states.long))

  part : take (to - from) (drop from L.entries) ≡ slice from to L.entries
  part = part_is from to L.entries outcomes_inside.0 outcomes_inside.2

  pub outcomes_length : length (take (to - from) (drop from L.entries)) ≡ to - from
  outcomes_length = rw part (length-slice from to L.entries outcomes_inside.2)

  pub command_is : commands_bytes (list_at L c ∷ []) []
      ≡ command_tag ∷ two ((to - from) * 2) (twos (take (to - from) (drop from L.entries)) [])
  unfolding commands_bytes list_at
  command_is = rw (← add-one c, ← p, ← q, ← part, outcomes_length)

  pub command_length : length (commands_bytes (list_at L c ∷ []) []) ≡ 3 + (to - from) * 2
  command_length = omega (arith, ap length command_is, length_twos (take (to - from) (drop from L.entries)) [], outcomes_length)
