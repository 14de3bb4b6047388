-- Rule T7, soundness as a test that computes: the limits of the size record, every table's length, running firsts, kinds, idle states,
-- practices, and outcomes that rise and are below n.
use Rattle.std.specs.Prelude.{Bool, ◌&&◌, List, ℕ, zero, suc, ◌+◌, ◌-◌, leb, ltb, eqb, length, get_or}
use Rattle.laws.specs.Sets.{every}
use Rattle.model.specs.File.{max_states, max_commands, max_outcomes, not_idle}
use Rattle.model.specs.Tables.{Size, Tables, Lists, lists_in, enough}
use Rattle.model.specs.Places.{row_at, first_command, start_in, field_at}

unfoldable pub size_sound : Size → Bool
size_sound z = leb 1 z.n && leb z.n max_states && leb z.m max_commands && leb z.t max_outcomes && ltb z.start z.n

unfoldable pub tables_long : Tables → Bool
tables_long T = enough T.size (length T.rows) (length T.firsts) (length T.outcomes)

unfoldable pub row_sound : Tables → ℕ → Bool
row_sound T s =
    leb (first_command T s) (first_command T (suc s)) && leb (first_command T (suc s)) T.size.m
    && leb (row_at T s).kind 2 && not_idle (field_at T s)

-- the entry at place j is below the next one
unfoldable pub rises_at : List ℕ → ℕ → Bool
rises_at entries j = ltb (get_or entries j 0) (get_or entries (suc j) 0)

-- k places after a; `+` computes at numerals only, and so would not do
abbrev pub after : ℕ → ℕ → ℕ
after zero a = a
after (suc k) a = suc (after k a)

-- list i has at least so many entries, and they rise
unfoldable pub list_sound : ℕ → Lists → ℕ → Bool
list_sound least L i =
    leb (after least (start_in L i)) (start_in L (suc i)) && leb (start_in L (suc i)) L.end
    && every (λ k. rises_at L.entries (start_in L i + k)) (start_in L (suc i) - start_in L i - 1)

unfoldable pub entry_sound : ℕ → List ℕ → ℕ → Bool
entry_sound n entries j = ltb (get_or entries j 0) n

-- the lists begin at place 0, each has at least so many entries, they rise, and are below n
unfoldable pub lists_sound : ℕ → ℕ → Lists → Bool
lists_sound least n L = eqb (start_in L 0) 0 && every (list_sound least L) L.count && every (entry_sound n L.entries) L.end

unfoldable pub sound : Tables → Bool
sound T =
    size_sound T.size && tables_long T && eqb (first_command T 0) 0 && every (row_sound T) T.size.n
    && lists_sound 1 T.size.n (lists_in T)
