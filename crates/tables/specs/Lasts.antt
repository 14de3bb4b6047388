-- The test of entries by the last: where they rise, all are below n if the last is.
use Rattle.std.specs.Prelude.{Bool, ◌&&◌, ◌||◌, List, ℕ, suc, ◌+◌, ◌-◌, leb}
use Rattle.laws.specs.Sets.{every}
use Rattle.model.specs.Tables.{Lists}
use Rattle.model.specs.Places.{start_in}
use Rattle.model.specs.SoundTest.{rises_at, list_sound, entry_sound}

-- the last of the entries from place a up to place e is below n, or there is none
unfoldable pub last_below : ℕ → List ℕ → ℕ → ℕ → Bool
last_below n entries a e = leb e a || entry_sound n entries (e - 1)

-- these entries rise, and the last is below n
unfoldable pub rises_below : ℕ → List ℕ → ℕ → ℕ → Bool
rises_below n entries a e = every (λ k. rises_at entries (a + k)) (e - a - 1) && last_below n entries a e

-- list i is sound, and its last entry below n
unfoldable pub list_below : ℕ → ℕ → Lists → ℕ → Bool
list_below least n L i = list_sound least L i && last_below n L.entries (start_in L i) (start_in L (suc i))
