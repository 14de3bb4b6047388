-- What one index gives to each propagation whose ranges are among the states' own commands.
use mathlib.Core.List.{List}
use Prim.Native.Nat.{ℕ, suc, ◌<◌, ◌≤◌}
use native.Mathlib.Omega.{arith}
use lib.ListN.{get_or}
use Rattle.laws.specs.Starts.{Parts}
use Rattle.laws.proofs.Starts.{start_le}
use Rattle.model.specs.File.{max_commands}
use Rattle.model.specs.Tables.{Lists}
use Rattle.index.specs.Parts.{Owned}
use Rattle.propagate.specs.Net.{net_of, from, to, Ranges, Owns}
use Rattle.propagate.proofs.Indexes.{own_ranges}
use Rattle.nets.specs.Found.{OwnRanges}

module _ {n : ℕ} (C : Lists) {starts froms tos : List ℕ} (own : OwnRanges n C.count starts froms tos) where
  pub ranges_fit : Parts starts (n) C.count → Ranges n C.count tos
  ranges_fit p = record {
    long = own.long_tos;
    inside = λ s l. omega (arith, (own.inside s l).2, start_le starts (n) C.count p (suc s) (omega arith));
  }

  -- a range's places are those of commands, or where they end
  pub own_low : Parts starts (n) C.count → C.count ≤ max_commands → (s : ℕ) → s < n
      → (get_or froms s 0 ≤ get_or tos s 0) × (get_or tos s 0 ≤ max_commands)
  own_low p h s l = ((own.inside s l).1, omega (arith, (ranges_fit p).inside s l))

  pub owners_fit : {owner : List ℕ} → Owned starts (n) C.count owner → Owns (net_of n C froms tos) owner
  unfolding from to
  owners_fit {owner} o = own_ranges (net_of n C froms tos) starts owner o
      (λ s c l p q. let i = own.inside s l in (omega (arith, i.0), omega (arith, i.2)))
