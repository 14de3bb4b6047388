-- What the index gives is what the propagation asks, where the ranges are parts of the states' own commands.
use mathlib.Core.List.{List}
use Prim.Native.Nat.{ℕ, suc, ◌≤◌, ◌<◌}
use lib.ListN.{length}
use Rattle.laws.specs.Starts.{start_of}
use Rattle.model.specs.Tables.{Lists}
use Rattle.index.specs.Parts.{Owned}
use Rattle.index.specs.Grouping.{Grouped}
use Rattle.propagate.specs.Net.{Net, from, to, Indexed, Owns}

pub index_fits : {n : ℕ} (C : Lists) (starts offsets users owner : List ℕ) → n ≤ length offsets → C.end ≤ length users
    → C.count ≤ length owner
    → Grouped n C offsets users → Owned starts (n) C.count owner → Indexed n C offsets users owner
index_fits C starts offsets users owner l u o g w =
    record { offsets_long = l; users_long = u; owner_long = o; grouped = g; inside = w.inside }

module _ (N : Net) (starts owner : List ℕ) (w : Owned starts N.states N.commands.count owner) where
  pub own_ranges : ((s c : ℕ) → s < N.states → from N s ≤ c → c < to N s
      → (start_of starts N.states N.commands.count s ≤ c) × (c < start_of starts N.states N.commands.count (suc s)))
      → Owns N owner
  own_ranges part = record { owners = λ s c h p q. let (a, b) = part s c h p q in w.owners s c h a b }
