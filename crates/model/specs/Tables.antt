-- A plan in memory (docs/SPECIFICATION.md, part T).
use Rattle.std.specs.Prelude.{◌≡◌, Bool, ◌&&◌, ℕ, ◌+◌, ◌*◌, List, [], ◌∷◌, ◌++◌, leb, length, take}
use Rattle.laws.specs.Lists.{joined}
use Rattle.model.specs.File.{State, StateField, Tree, field_of}

-- rule T1. That the entries which deciding and the search answer fit in 16 bits (rule T4) is proofs/Widths.antt.
pub record Size : Type 0 where
  pub n : ℕ
  pub m : ℕ
  pub t : ℕ
  pub start : ℕ

pub record Row : Type 0 where
  pub kind : ℕ
  pub first : ℕ
  pub practice : ℕ

pub record Tables : Type 0 where
  pub size : Size
  pub rows : List Row
  pub firsts : List ℕ
  pub outcomes : List ℕ

-- tables of so many places have one for each state, command and outcome
abbrev pub enough : Size → ℕ → ℕ → ℕ → Bool
enough z rows firsts outcomes = leb z.n rows && leb z.m firsts && leb z.t outcomes

-- Lists that lie one behind another in a table, with a table of the places where they begin.
pub record Lists : Type 0 where
  -- how many lists there are, and how many entries they have together
  pub count : ℕ
  pub end : ℕ
  pub firsts : List ℕ
  pub entries : List ℕ

-- the outcomes, a list for each command
abbrev pub lists_in : Tables → Lists
lists_in T = record { count = T.size.m; end = T.size.t; firsts = T.firsts; entries = T.outcomes }

-- the commands of the states, one after another
unfoldable pub all_commands : List State → List (List ℕ)
all_commands [] = []
all_commands (s ∷ ss) = s.commands ++ all_commands ss

-- the row of a state that m commands come before, by what its state field says
abbrev pub row_with : ℕ → StateField → Row
row_with m q = record { kind = q.kind; first = m; practice = q.practice }

abbrev pub row_for : ℕ → State → Row
row_for m s = row_with m (field_of s)

-- rule T2: the rows of states that m commands come before
unfoldable pub rows_from : ℕ → List State → List Row
rows_from m [] = []
rows_from m (s ∷ ss) = row_for m s ∷ rows_from (m + length s.commands) ss

-- rule T3: the first outcomes of commands that t outcomes come before
unfoldable pub firsts_from : ℕ → List (List ℕ) → List ℕ
firsts_from t [] = []
firsts_from t (c ∷ cs) = t ∷ firsts_from (t + length c) cs

-- the tables of lists
abbrev pub lists_of : List (List ℕ) → Lists
lists_of cs =
    let os = joined cs in
    record { count = length cs; end = length os; firsts = firsts_from 0 cs; entries = os }

-- the size record and tables that a file gives
unfoldable pub tables_of : Tree → Tables
tables_of p =
    let L = lists_of (all_commands p.states) in
    record {
      size = record { n = length p.states; m = L.count; t = L.end; start = p.start };
      rows = rows_from 0 p.states;
      firsts = L.firsts;
      outcomes = L.entries;
    }

-- rule F8: how many bytes the file has
unfoldable pub size_length : Size → ℕ
size_length z = 10 + 8 * z.n + 3 * z.m + 2 * z.t

abbrev pub file_length : Tables → ℕ
file_length T = size_length T.size

-- lists agree up to their counts
pub record SameLists (L M : Lists) : Type 0 where
  pub firsts : take L.count L.firsts ≡ take M.count M.firsts
  pub entries : take L.end L.entries ≡ take M.end M.entries

-- rule T5: the same plan, whatever stands past its counts
pub record Same (T U : Tables) : Type 0 where
  pub size : T.size ≡ U.size
  pub rows : take T.size.n T.rows ≡ take U.size.n U.rows
  pub lists : SameLists (lists_in T) (lists_in U)
