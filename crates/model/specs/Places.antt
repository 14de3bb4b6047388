-- Where tables hold a state's row, its commands, and a command's outcomes.
use Rattle.std.specs.Prelude.{cond, List, ℕ, suc, ◌-◌, ltb, get_or}
use Rattle.std.proofs.Math.Seq.{slice}
use Rattle.laws.specs.Entry.{FFFF}
use Rattle.laws.specs.Starts.{start_of}
use Rattle.model.specs.File.{StateField}
use Rattle.model.specs.Tables.{Row, Tables, Lists, lists_in}

-- what stands for a row past the table: a rest state's
abbrev pub no_row : Row
no_row = record { kind = 2; first = 0; practice = FFFF }

-- a state's row
unfoldable pub row_at : Tables → ℕ → Row
row_at T s = get_or T.rows s no_row

-- where the commands of s begin, and those of the state before it end
unfoldable pub first_command : Tables → ℕ → ℕ
first_command T s = cond (ltb s T.size.n) (row_at T s).first T.size.m

-- where list i begins, and the list before it ends
abbrev pub start_in : Lists → ℕ → ℕ
start_in L i = start_of L.firsts L.count L.end i

-- list i
unfoldable pub list_at : Lists → ℕ → List ℕ
list_at L i = slice (start_in L i) (start_in L (suc i)) L.entries

-- where the outcomes of the command c begin, and those of the command before it end
abbrev pub first_outcome : Tables → ℕ → ℕ
first_outcome T = start_in (lists_in T)

unfoldable pub command_count : Tables → ℕ → ℕ
command_count T s = first_command T (suc s) - first_command T s

-- what a state field says where there is a row, and how many commands there are
abbrev pub field_for : Row → ℕ → StateField
field_for r count = record { kind = r.kind; count = count; practice = r.practice }

abbrev pub field_at : Tables → ℕ → StateField
field_at T s = field_for (row_at T s) (command_count T s)

-- the outcomes of the command c
abbrev pub outcomes_at : Tables → ℕ → List ℕ
outcomes_at T = list_at (lists_in T)
