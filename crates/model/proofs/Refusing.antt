-- When reading, writing and deciding refuse, and with what, in the order of rules E16 and E17. That they refuse only then:
-- OnlyRefused.antt. The calls that are told a state: StateCalls.antt; trimming: TrimCalls.antt.
use mathlib.Core.Path.{◌≡◌}
use mathlib.Core.Bool.{Bool, true, false, ◌&&◌}
use mathlib.Core.Logic.{◌⊎◌, ⊎_elim}
use mathlib.Core.List.{List}
use Prim.Native.Nat.{ℕ, ◌<◌}
use lib.Dec.{leb}
use borrow.Author.Tests.{lt-leb}
use Rattle.laws.proofs.Tests.{and_false_left, and_false_right}
use Rattle.model.specs.Refusal.{Refusal, Cramped, Unsound, given, refused, need, ◌>>=◌, ◌>>◌}
use Rattle.model.specs.File.{Tree, read}
use Rattle.model.specs.Tables.{Size, Tables, enough, tables_of, file_length}
use Rattle.model.specs.SoundTest.{sound}
use Rattle.model.specs.Calls.{reading, writing, deciding}

-- a table among others that is shorter than its count
first_short : (n a : ℕ) (b : Bool) → a < n → leb n a && b ≡ false
first_short n a b h = and_false_left (leb n a) b (lt-leb n a h)

pub last_short : (a : Bool) (n b : ℕ) → b < n → a && leb n b ≡ false
last_short a n b h = and_false_right a (leb n b) (lt-leb n b h)

-- one of two
pub some_short : (n a b : ℕ) → (a < n) ⊎ (b < n) → leb n a && leb n b ≡ false
some_short n a b = ⊎_elim (λ l. first_short n a (leb n b) l) (λ l. last_short (leb n a) n b l)

-- one of a plan's three
pub plan_short : (z : Size) (rows firsts outcomes : ℕ) → (rows < z.n) ⊎ ((firsts < z.m) ⊎ (outcomes < z.t))
    → enough z rows firsts outcomes ≡ false
plan_short z rows firsts outcomes =
    let long_rows = leb z.n rows in
    let long_firsts = leb z.m firsts in
    let long_outcomes = leb z.t outcomes in
    ⊎_elim (λ l. and_false_left (long_rows && long_firsts) long_outcomes (first_short z.n rows long_firsts l))
    (⊎_elim (λ l. and_false_left (long_rows && long_firsts) long_outcomes (last_short long_rows z.m firsts l))
    (λ l. last_short (long_rows && long_firsts) z.t outcomes l))

module _ (rows firsts outcomes : ℕ) (file : List ℕ) where
  -- a file that is refused is refused whatever tables are lent
  pub reading_refused : (r : Refusal) → read file ≡ refused r → reading rows firsts outcomes file ≡ refused r
  unfolding reading ◌>>=◌
  reading_refused r e = rw e

  pub reading_cramped : (p : Tree) → read file ≡ given p
      → (rows < (tables_of p).size.n) ⊎ ((firsts < (tables_of p).size.m) ⊎ (outcomes < (tables_of p).size.t))
      → reading rows firsts outcomes file ≡ refused Cramped
  unfolding reading ◌>>=◌ need ◌>>◌
  reading_cramped p e h = rw (e, plan_short (tables_of p).size rows firsts outcomes h)

-- a plan that is not sound is refused before all else
module _ (T : Tables) (unsound : sound T ≡ false) where
  pub writing_unsound : (bytes : ℕ) → writing T bytes ≡ refused Unsound
  unfolding writing need ◌>>◌
  writing_unsound bytes = rw unsound

  pub deciding_unsound : (ranks commands marks scratch : ℕ) → deciding T ranks commands marks scratch ≡ refused Unsound
  unfolding deciding need ◌>>◌
  deciding_unsound ranks commands marks scratch = rw unsound

module _ (T : Tables) (sounds : sound T ≡ true) where
  pub writing_cramped : (bytes : ℕ) → bytes < file_length T → writing T bytes ≡ refused Cramped
  unfolding writing need ◌>>◌
  writing_cramped bytes h = rw (sounds, lt-leb (file_length T) bytes h)

  pub deciding_cramped : (ranks commands marks scratch : ℕ)
      → (ranks < T.size.n) ⊎ ((commands < T.size.n) ⊎ ((marks < T.size.n) ⊎ (scratch < T.size.n)))
      → deciding T ranks commands marks scratch ≡ refused Cramped
  unfolding deciding need ◌>>◌
  deciding_cramped ranks commands marks scratch h = rw (sounds, short h)
    where
      n : ℕ
      n = T.size.n

      short : (ranks < n) ⊎ ((commands < n) ⊎ ((marks < n) ⊎ (scratch < n))) → leb n ranks && leb n commands && leb n marks && leb n scratch
          ≡ false
      short = ⊎_elim (λ l. and_false_left (leb n ranks && leb n commands && leb n marks) (leb n scratch)
          (and_false_left (leb n ranks && leb n commands) (leb n marks) (first_short n ranks (leb n commands) l)))
          (⊎_elim (λ l. and_false_left (leb n ranks && leb n commands && leb n marks) (leb n scratch)
          (and_false_left (leb n ranks && leb n commands) (leb n marks) (last_short (leb n ranks) n commands l)))
          (⊎_elim (λ l. and_false_left (leb n ranks && leb n commands && leb n marks) (leb n scratch)
          (last_short (leb n ranks && leb n commands) n marks l))
          (λ l. last_short (leb n ranks && leb n commands && leb n marks) n scratch l)))
