-- Runs that stay in a set of states: for bugs that are followed to their faults, mended practices, and commands that keep to safe states.
use Rattle.std.specs.Prelude.{◌≡◌, Bool, true, ℕ}
use Rattle.model.specs.Run.{Run, no_moves, ◌▸◌}

-- the state that the run is from is in K, and each state where it lands
abbrev pub Stays : (ℕ → Bool) → ℕ → Run → Type 0
Stays K s no_moves = K s ≡ true
Stays K s (w ▸ m) = Stays K s w × (K m.landing ≡ true)
