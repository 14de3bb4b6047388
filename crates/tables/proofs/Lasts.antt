-- Entries tested by the last: they rise, so none is above it. And so the soundness of a list table: each place is in some list.
use mathlib.Core.Path.{◌≡◌, subst}
use mathlib.Core.Bool.{true, ◌&&◌, ◌||◌}
use mathlib.Core.Logic.{◌↔◌, ⊎_elim}
use mathlib.Core.List.{List}
use Prim.Native.Nat.{ℕ, suc, ◌+◌, ◌-◌, ◌<◌, ◌≤◌}
use native.Mathlib.Decide.{dec_le}
use native.Mathlib.Omega.{arith}
use borrow.Author.Tests.{leb-true, le-leb, eqb-true, eq-eqb}
use lib.Dec.{leb, eqb}
use lib.ListN.{get_or}
use Rattle.laws.specs.Sets.{every}
use Rattle.laws.proofs.Rising.{up_to_last}
use Rattle.laws.proofs.Sets.{every_at, every_of}
use Rattle.laws.proofs.Starts.{part_of}
use Rattle.laws.proofs.TestFacts.{every_iff, leb_iff}
use Rattle.laws.proofs.Tests.{same_test, and_both, and_join, or_cases, or_left, or_right}
use Rattle.model.specs.Tables.{Lists}
use Rattle.model.specs.Places.{start_in}
use Rattle.model.specs.SoundTest.{rises_at, list_sound, entry_sound, lists_sound}
use Rattle.model.proofs.ListTable.{ListFits, list_iff, entry_iff, lists_iff}
use Rattle.tables.specs.Lasts.{last_below, rises_below, list_below}

-- the entries from place a up to place e
module _ (n : ℕ) (entries : List ℕ) (a e : ℕ) where
  -- each is below the next one
  abbrev pub Sorted : Type 0
  Sorted = (d : ℕ) → d < e - a - 1 → get_or entries (a + d) 0 < get_or entries (suc (a + d)) 0

  -- all are below n
  abbrev pub Below : Type 0
  Below = (j : ℕ) → a ≤ j → j < e → get_or entries j 0 < n

  -- where they rise, none is above the last
  not_above : Sorted → (j : ℕ) → a ≤ j → j < e → get_or entries j 0 ≤ get_or entries (e - 1) 0
  not_above f j p q =
      let k = e - a - 1 in
      let last : a + k ≡ e - 1 = omega arith in
      subst (λ (x : ℕ). get_or entries j 0 ≤ get_or entries x 0) last
      (up_to_last (λ x. get_or entries x 0) a k (λ d l. omega (arith, f d l)) j p (omega arith))

  last_all : Sorted → last_below n entries a e ≡ true → Below
  unfolding last_below
  last_all f t j p q =
      ⊎_elim (λ none. absurd (omega (arith, leb-true e a none)))
      (λ last. omega (arith, not_above f j p q, (entry_iff n entries (e - 1)).0 last))
      (or_cases (leb e a) (entry_sound n entries (e - 1)) t)

  all_last : Below → last_below n entries a e ≡ true
  unfolding last_below
  all_last b = go (dec_le e a)
    where
      go : Dec (e ≤ a) → leb e a || entry_sound n entries (e - 1) ≡ true
      go (yes l) = or_left (leb e a) _ (le-leb e a l)
      go (no l) = or_right (leb e a) _ ((entry_iff n entries (e - 1)).1 (b (e - 1) (omega arith) (omega arith)))

  pub rises_below_iff : (rises_below n entries a e ≡ true) ↔ (Sorted × Below)
  unfolding rises_below rises_at
  rises_below_iff = (
    λ t.
        let (rise, last) = and_both (every (λ d. rises_at entries (a + d)) (e - a - 1)) _ t in
        let f : Sorted = simp (every_iff, leb_iff) at rise in
        (f, last_all f last),
    λ h. and_join (every (λ d. rises_at entries (a + d)) (e - a - 1)) _ (simp (every_iff, leb_iff) h.0) (all_last h.1),
  )

module _ (least n : ℕ) (L : Lists) where
  -- all entries of list i are below n
  abbrev ListBelow : ℕ → Type 0
  ListBelow i = Below n L.entries (start_in L i) (start_in L (suc i))

  module _ (i : ℕ) where
    abbrev a : ℕ
    a = start_in L i

    abbrev e : ℕ
    e = start_in L (suc i)

    -- a list passes by its last entry where it fits and all its entries are below n
    below_iff : (list_below least n L i ≡ true) ↔ (ListFits least L i × ListBelow i)
    unfolding list_below
    below_iff = (
      λ t.
          let (sound, last) = and_both (list_sound least L i) _ t in
          let f = (list_iff least L i).0 sound in
          (f, last_all n L.entries a e f.sorted last),
      λ h. and_join (list_sound least L i) _ ((list_iff least L i).1 h.0) (all_last n L.entries a e h.1),
    )

  -- the test of a list table, each list by its last entry
  pub lists_by_last : lists_sound least n L ≡ (eqb (start_in L 0) 0 && every (list_below least n L) L.count)
  lists_by_last = same_test (lists_sound least n L) _ there back
    where
      there : lists_sound least n L ≡ true → eqb (start_in L 0) 0 && every (list_below least n L) L.count ≡ true
      there e =
          let f = (lists_iff least n L).0 e in
          and_join (eqb (start_in L 0) 0) _ (eq-eqb _ _ f.start)
          (every_of _ _
          (λ i h.
          (below_iff i).1 (f.lists i h, λ j p q. f.entries j (omega (arith, (f.lists i h).below)))))

      back : eqb (start_in L 0) 0 && every (list_below least n L) L.count ≡ true → lists_sound least n L ≡ true
      back e =
          let (z, all) = and_both (eqb (start_in L 0) 0) _ e in
          let zero = eqb-true (start_in L 0) 0 z in
          let each : (i : ℕ) → i < L.count → ListFits least L i × ListBelow i = λ i h. (below_iff i).0 (every_at _ _ all i h) in
          (lists_iff least n L).1 record {
            start = zero;
            lists = λ i h. (each i h).0;
            entries = λ j h. let (i, l, p, q) = part_of L.firsts L.count L.end zero j h in (each i l).1 j p q;
          }
