-- Reading a plan file (docs/SPECIFICATION.md, parts F and E), in the order of tests of rules E12 to E16.
-- Every definition is on the bytes from its field on.
use Rattle.std.specs.Prelude.{ℕ, zero, suc, ◌+◌, ◌*◌, ◌/◌, ◌%◌, Bool, cond, ◌&&◌, ◌||◌, List, [], ◌∷◌, length, get_or, drop, leb, ltb, eqb}
use Rattle.laws.specs.Entry.{be16, FFFF}
use Rattle.model.specs.Refusal.{Cut, Surplus, Tag, Length, Beyond, Unsorted, Idle, Limit, Answer, given, need, ◌>>=◌, ◌>>◌}

-- rule P6: the most states, commands and outcomes that a plan may have
abbrev pub max_states : ℕ
max_states = 1024

abbrev pub max_commands : ℕ
max_commands = 4096

abbrev pub max_outcomes : ℕ
max_outcomes = 16384

-- What a file describes: the states in number order, each with its commands, each of those with its outcomes.
pub record State : Type 0 where
  pub kind : ℕ
  pub practice : ℕ
  pub commands : List (List ℕ)

-- what a state field says: kind, command count and practice
pub record StateField : Type 0 where
  pub kind : ℕ
  pub count : ℕ
  pub practice : ℕ

-- the state that a state field and the commands after it describe, and the state field of a state
abbrev pub state_from : StateField → List (List ℕ) → State
state_from q cs = record { kind = q.kind; practice = q.practice; commands = cs }

abbrev pub field_of : State → StateField
field_of s = record { kind = s.kind; count = length s.commands; practice = s.practice }

pub record Tree : Type 0 where
  pub start : ℕ
  pub states : List State

-- the tags (rules F4 to F7)
abbrev pub head_tag : ℕ
head_tag = 1

abbrev pub state_tag : ℕ
state_tag = 2

abbrev pub command_tag : ℕ
command_tag = 3

abbrev pub end_tag : ℕ
end_tag = 4

-- the lengths that rules F4 to F7 allow: head 4, state 5, end 0; a command's is even and not 0
abbrev pub fixed_length : ℕ → ℕ
fixed_length tag = cond (eqb tag head_tag) 4 (cond (eqb tag state_tag) 5 0)

abbrev pub allowed : ℕ → ℕ → Bool
allowed tag len = cond (eqb tag command_tag) (eqb (len % 2) 0 && leb 2 len) (eqb len (fixed_length tag))

-- rule E12: a field with the tag that is due, and its length
unfoldable pub field : ℕ → List ℕ → Answer ℕ
field tag s = do
  need Cut (leb 3 (length s))
  need Tag (eqb (get_or s 0 0) tag)
  need Length (allowed tag (be16 s 1))
  need Cut (leb (3 + be16 s 1) (length s))
  given (be16 s 1)

-- rule E13: n and the start
unfoldable pub head : List ℕ → Answer (ℕ × ℕ)
head s = do
  _ ← field head_tag s
  need Beyond (leb 1 (be16 s 3) && leb (be16 s 3) max_states)
  need Beyond (ltb (be16 s 5) (be16 s 3))
  given (be16 s 3, be16 s 5)

-- rule E7 does not apply: only an ordinary state has commands, and a practice is FFFF or one of them
abbrev pub not_idle : StateField → Bool
not_idle q = (eqb q.kind 0 || eqb q.count 0) && (eqb q.practice FFFF || ltb q.practice q.count)

-- the values of a state field
abbrev pub state_values : List ℕ → StateField
state_values s = record { kind = get_or s 3 0; count = be16 s 4; practice = be16 s 6 }

-- rule E14: a state field, with m commands so far
unfoldable pub state : ℕ → List ℕ → Answer StateField
state m s = do
  _ ← field state_tag s
  need Beyond (leb (state_values s).kind 2)
  need Idle (not_idle (state_values s))
  need Limit (leb (m + (state_values s).count) max_commands)
  given (state_values s)

-- the k numbers at the front
unfoldable pub entries : ℕ → List ℕ → List ℕ
entries zero s = []
entries (suc k) s = be16 s 0 ∷ entries k (drop 2 s)

-- rule E15: each outcome is below n, and at least `low`, one more than the outcome before
unfoldable pub rising : ℕ → ℕ → List ℕ → Answer (Unit {0})
rising n low [] = given tt
rising n low (o ∷ os) = do
  need Beyond (ltb o n)
  need Unsorted (leb low o)
  rising n (o + 1) os

-- rule E15: a command field, with t outcomes so far: its outcomes
unfoldable pub command : ℕ → ℕ → List ℕ → Answer (List ℕ)
command n t s = do
  len ← field command_tag s
  need Limit (leb (t + len / 2) max_outcomes)
  rising n 0 (entries (len / 2) (drop 3 s))
  given (entries (len / 2) (drop 3 s))

-- k commands, with t outcomes so far: the commands, the outcomes so far, and the bytes after them
unfoldable pub commands : ℕ → ℕ → ℕ → List ℕ → Answer (List (List ℕ) × ℕ × List ℕ)
commands n zero t s = given ([], t, s)
commands n (suc k) t s = do
  os ← command n t s
  (cs, t₁, s₁) ← commands n k (t + length os) (drop (3 + length os * 2) s)
  given (os ∷ cs, t₁, s₁)

-- rule F3: k states, each with its commands, with m commands and t outcomes so far, and the bytes after them
unfoldable pub states : ℕ → ℕ → ℕ → ℕ → List ℕ → Answer (List State × List ℕ)
states n zero m t s = given ([], s)
states n (suc k) m t s = do
  q ← state m s
  (cs, t₁, s₁) ← commands n q.count t (drop 8 s)
  (ss, s₂) ← states n k (m + q.count) t₁ s₁
  given (state_from q cs ∷ ss, s₂)

-- rule F3: a file; rule E16: nothing is behind the end
unfoldable pub read : List ℕ → Answer Tree
read s = do
  (n, start) ← head s
  (ss, s₁) ← states n n 0 0 (drop 7 s)
  _ ← field end_tag s₁
  -- rule E2: the end has three bytes, and none is behind it
  need Surplus (leb (length s₁) 3)
  given (record { start = start; states = ss })
