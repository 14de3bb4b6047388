-- A refusal of reading, writing or deciding comes only under its condition: the word that the call refuses with and what holds then. With
-- Refusing.antt, which has the other direction, each condition is exact, that of refusal 9 too (rule E19). The calls that are told a state:
-- StateCalls.antt; trimming: TrimCalls.antt.
use mathlib.Core.Path.{◌≡◌, refl, sym, ap}
use mathlib.Core.Bool.{Bool, true, false, ◌&&◌}
use mathlib.Core.List.{List}
use mathlib.Core.Logic.{◌⊎◌, inl, inr, ⊎_elim}
use Prim.Native.Nat.{ℕ, ◌<◌}
use lib.Dec.{leb}
use borrow.Author.Tests.{leb-false}
use Rattle.model.specs.Refusal.{Refusal, Cramped, Unsound, Answer, given, refused, need, ◌>>=◌, ◌>>◌}
use Rattle.model.specs.File.{Tree, read}
use Rattle.model.specs.Tables.{Tables, tables_of, file_length}
use Rattle.model.specs.SoundTest.{sound}
use Rattle.model.specs.Calls.{reading, writing, deciding}
use Rattle.model.proofs.Answers.{not_both, refused_inj}

-- one of two tests that do not both hold
pub either : (a b : Bool) → (a && b) ≡ false → (a ≡ false) ⊎ (b ≡ false)
either false b e = inl refl
either true b e = inr e

-- a test on the way is the one that refused, or it held and what is behind it refused
pub need_refused : {A : Type 0} (q r : Refusal) (t : Bool) (x : Answer A) → (need q t >> x) ≡ refused r
    → ((t ≡ false) × (r ≡ q)) ⊎ ((t ≡ true) × (x ≡ refused r))
unfolding need ◌>>◌
need_refused q r false x e = inl (refl, sym (refused_inj e))
need_refused q r true x e = inr (refl, e)

-- the last test, before the answer
pub last_refused : {A : Type 0} (q r : Refusal) (t : Bool) (a : A) → (need q t >> given a) ≡ refused r → (t ≡ false) × (r ≡ q)
last_refused q r t a e = ⊎_elim (λ h. h) (λ h. absurd (not_both (sym h.1))) (need_refused q r t (given a) e)

-- which of the tables is shorter than its count
pub two_short : (n a m b : ℕ) → (leb n a && leb m b) ≡ false → (a < n) ⊎ (b < m)
two_short n a m b e = ⊎_elim (λ h. inl (leb-false n a h)) (λ h. inr (leb-false m b h)) (either (leb n a) (leb m b) e)

pub three_short : (n a m b t c : ℕ) → (leb n a && leb m b && leb t c) ≡ false → (a < n) ⊎ ((b < m) ⊎ (c < t))
three_short n a m b t c e =
    ⊎_elim (λ h. ⊎_elim inl (λ l. inr (inl l)) (two_short n a m b h)) (λ h. inr (inr (leb-false t c h)))
    (either (leb n a && leb m b) (leb t c) e)

four_short : (n a b c d : ℕ) → (leb n a && leb n b && leb n c && leb n d) ≡ false → (a < n) ⊎ ((b < n) ⊎ ((c < n) ⊎ (d < n)))
four_short n a b c d e =
    ⊎_elim (λ h. ⊎_elim inl (λ l. inr (⊎_elim inl (λ k. inr (inl k)) l)) (three_short n a n b n c h))
    (λ h. inr (inr (inr (leb-false n d h))))
    (either (leb n a && leb n b && leb n c) (leb n d) e)

-- reading refuses what the file is refused with, or with 9 where a table is shorter than its count
pub reading_only : (rows firsts outcomes : ℕ) (file : List ℕ) (r : Refusal) → reading rows firsts outcomes file ≡ refused r
    → (read file ≡ refused r) ⊎ ((p : Tree) × (read file ≡ given p)
    × ((rows < (tables_of p).size.n) ⊎ ((firsts < (tables_of p).size.m) ⊎ (outcomes < (tables_of p).size.t))) × (r ≡ Cramped))
unfolding reading ◌>>=◌
reading_only rows firsts outcomes file r = go (read file)
  where
    go : (x : Answer Tree)
        → (x >>= λ p. need Cramped
        (leb (tables_of p).size.n rows && leb (tables_of p).size.m firsts && leb (tables_of p).size.t outcomes) >> given
        (tables_of p)) ≡ refused r
        → (x ≡ refused r) ⊎ ((p : Tree) × (x ≡ given p)
        × ((rows < (tables_of p).size.n) ⊎ ((firsts < (tables_of p).size.m) ⊎ (outcomes < (tables_of p).size.t))) × (r ≡ Cramped))
    go (refused q) e = inl (ap refused (refused_inj e))
    go (given p) e =
        let (t, w) = last_refused Cramped r _ (tables_of p) e in
        inr (p, refl, three_short (tables_of p).size.n rows (tables_of p).size.m firsts (tables_of p).size.t outcomes t, w)

module _ (T : Tables) where
  pub writing_only : (bytes : ℕ) (r : Refusal) → writing T bytes ≡ refused r
      → ((sound T ≡ false) × (r ≡ Unsound)) ⊎ ((sound T ≡ true) × (bytes < file_length T) × (r ≡ Cramped))
  unfolding writing
  writing_only bytes r e =
      ⊎_elim inl (λ h. let (t, w) = last_refused Cramped r _ _ h.1 in inr (h.0, leb-false (file_length T) bytes t, w))
      (need_refused Unsound r _ _ e)

  pub deciding_only : (ranks commands marks scratch : ℕ) (r : Refusal) → deciding T ranks commands marks scratch ≡ refused r
      → ((sound T ≡ false) × (r ≡ Unsound))
      ⊎ ((sound T ≡ true) × ((ranks < T.size.n) ⊎ ((commands < T.size.n) ⊎ ((marks < T.size.n) ⊎ (scratch < T.size.n))))
      × (r ≡ Cramped))
  unfolding deciding
  deciding_only ranks commands marks scratch r e =
      ⊎_elim inl (λ h. let (t, w) = last_refused Cramped r _ _ h.1 in inr
      (h.0, four_short T.size.n ranks commands marks scratch t, w)) (need_refused Unsound r _ _ e)
