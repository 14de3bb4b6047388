-- Where the propagations start: which states are in layer 0, and which commands count at each state, all its own, then its practice alone.
use Rattle.std.specs.Prelude.{◌≡◌, Bool, cond, List, ℕ, ◌+◌, ◌-◌, ◌<◌, ◌≤◌, eqb, ltb, length, get_or, set}
use Rattle.laws.specs.Entry.{FFFF}
use Rattle.laws.specs.Filled.{Filled}
use Rattle.model.specs.File.{max_states, max_commands}
use Rattle.model.specs.Tables.{Tables}
use Rattle.tables.specs.declared.Row.{Row}
use Rattle.tables.specs.declared.Size.{Size}
use Rattle.tables.specs.declared.spans.Span.{Span}
use Rattle.tables.specs.Meaning.{held}
use Rattle.tables.specs.Spans.{span_at, failing_span}

-- a practice is given
abbrev pub practised : Span → Bool
practised q = ltb q.practice (q.end - q.first)

-- where the practice stands among all commands, or where the state's commands end if none is given
unfoldable pub practice_place : Span → ℕ
practice_place q = cond (practised q) (q.first + q.practice) q.end

-- failing states are in layer 0
unfoldable pub seed_of : Span → ℕ
seed_of q = cond (failing_span q) 0 FFFF

-- what is asked of the rows: the places of each state's commands are in range
pub record Spans (size : Size) (rows : List Row) : Type 0 where
  pub few : size.n ≤ max_states
  pub few_commands : size.m ≤ max_commands
  pub long : size.n ≤ length rows
  pub inside : (F O : List ℕ) (s : ℕ) → s < size.n
      → ((span_at (held size rows F O) s).first ≤ (span_at (held size rows F O) s).end) × ((span_at (held size rows F O) s).end ≤ size.m)

-- the state s, of which q was read, is initialized
pub record StateInitialized (q : Span) (s : ℕ) (ranks froms tos places ranks' froms' tos' places' : List ℕ) : Type 0 where
  pub seeded : ranks' ≡ set ranks s (seed_of q)
  pub begins : froms' ≡ set froms s q.first
  pub stops : tos' ≡ set tos s q.end
  pub placed : places' ≡ set places s (practice_place q)

-- layer 0, where the commands begin and end, and where the practice stands, of the first n states
pub record Initialized (T : Tables) (n : ℕ) (ranks froms tos places ranks' froms' tos' places' : List ℕ) : Type 0 where
  pub seeded : Filled n (λ s. seed_of (span_at T s)) ranks ranks'
  pub begins : Filled n (λ s. (span_at T s).first) froms froms'
  pub stops : Filled n (λ s. (span_at T s).end) tos tos'
  pub placed : Filled n (λ s. practice_place (span_at T s)) places places'

-- the end of a range that begins at `from` and has at most one command, below `to`
unfoldable pub one_end : ℕ → ℕ → ℕ
one_end from to = cond (ltb from to) (from + 1) to

-- a seed, by the rank of its state
unfoldable pub seed_again : ℕ → ℕ
seed_again rank = cond (eqb rank 0) 0 FFFF

-- at the state s the practice alone counts, which stands where `fails` says; the seeds are those of the ranks
pub record StateKept (s : ℕ) (ranks froms tos fails froms' tos' fails' : List ℕ) : Type 0 where
  pub begins : froms' ≡ set froms s (get_or fails s 0)
  pub stops : tos' ≡ set tos s (one_end (get_or fails s 0) (get_or tos s 0))
  pub seeded : fails' ≡ set fails s (seed_again (get_or ranks s 0))

-- so at the first n states
pub record PracticeKept (n : ℕ) (ranks froms tos fails froms' tos' fails' : List ℕ) : Type 0 where
  pub begins : Filled n (λ s. get_or fails s 0) froms froms'
  pub stops : Filled n (λ s. one_end (get_or fails s 0) (get_or tos s 0)) tos tos'
  pub seeded : Filled n (λ s. seed_again (get_or ranks s 0)) fails fails'
