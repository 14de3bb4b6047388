-- The warning time by an entry of the ranks.
use mathlib.Core.Path.{◌≡◌}
use mathlib.Core.Option.{none, some}
use Prim.Native.Nat.{ℕ, ◌*◌, ◌<◌}
use Rattle.laws.specs.Entry.{FFFF, from_entry}
use Rattle.laws.proofs.EntryFound.{from_number}
use Rattle.model.specs.File.{max_states}
use Rattle.model.specs.Warning.{Time, time_of, warning}

module _ {e x : ℕ} (read : x ≡ e) where
  -- FFFF is no rank
  pub entry_none : (d : ℕ) → x ≡ FFFF → none ≡ warning (from_entry e) d
  unfolding from_entry warning
  entry_none d q = rw (← read, q)

  module _ (h : x ≡ FFFF → ⊥) where
    is_rank : from_entry e ≡ some x
    is_rank = rw (← read) (from_number x h)

    pub entry_below : ((r : ℕ) → from_entry e ≡ some r → r < max_states) → x < max_states
    entry_below low = low x is_rank

    pub entry_some : (d : ℕ) (t : Time) → t ≡ time_of (x * d) → some t ≡ warning (from_entry e) d
    unfolding warning
    entry_some d t q = rw (is_rank, q)

-- what is read of an entry
pub ruleset reading = (entry_none, entry_some)
