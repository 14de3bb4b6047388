-- Lists in a table: the test for them as facts, the lists read off, and the tables that lists give.
use mathlib.Core.Path.{◌≡◌, refl, sym, ap, ap₂, ◌∙◌, subst}
use mathlib.Core.Bool.{true, cond}
use mathlib.Core.Logic.{◌↔◌, ⊎_elim}
use mathlib.Core.List.{List, []}
use Prim.Native.Nat.{ℕ, zero, suc, ◌+◌, ◌-◌, ◌<◌, ◌≤◌}
use native.Mathlib.Nat.{zero-add, add-suc, le_refl, le_of_eq, le_trans}
use native.Mathlib.Omega.{arith}
use lib.Dec.{ltb}
use lib.ListN.{length, get_or, take}
use lib.Seq.{slice, length-slice, take-length, length-take-le, get_or-take}
use borrow.Author.Tests.{ltb-true}
use Rattle.laws.specs.Lists.{tabulate, joined}
use Rattle.laws.specs.Starts.{start_of}
use Rattle.laws.proofs.Tests.{true_or_false}
use Rattle.laws.proofs.TestFacts.{every_iff, and_iff, leb_iff, eqb_iff}
use Rattle.laws.proofs.All.{All, none, more, all_at, all_append}
use Rattle.laws.proofs.Lists.{length_tabulate, tabulate_at, tabulate_is, tabulate_same, get_or_slice, agree_get_or, agree_long, agree_slice}
use Rattle.laws.proofs.Parts.{Cut, Rises, rises_same, rises_up, edge_rises, edge_told, piece, length_heads, get_or_heads, all_cut, heads_cut}
use Rattle.laws.proofs.Starts.{start_in_lem, start_out}
use Rattle.model.specs.Tables.{Lists, SameLists, lists_of}
use Rattle.model.specs.Places.{start_in, list_at}
use Rattle.model.specs.Sound.{LongLists}
use Rattle.model.specs.SoundTest.{rises_at, after, list_sound, entry_sound, lists_sound}
use Rattle.model.proofs.Layouts.{by_command, by_command_lem}
use Rattle.model.proofs.Risings.{rising_step, rising_all}
use Rattle.model.proofs.Good.{GoodList, rising_below}

-- ---- the test

pub record ListFits (least : ℕ) (L : Lists) (i : ℕ) : Type 0 where
  pub rises : after least (start_in L i) ≤ start_in L (suc i)
  pub below : start_in L (suc i) ≤ L.end
  pub sorted : (k : ℕ) → k < start_in L (suc i) - start_in L i - 1
      → get_or L.entries (start_in L i + k) 0 < get_or L.entries (suc (start_in L i + k)) 0

pub record ListsFit (least n : ℕ) (L : Lists) : Type 0 where
  pub start : start_in L 0 ≡ 0
  pub lists : (i : ℕ) → i < L.count → ListFits least L i
  pub entries : (j : ℕ) → j < L.end → get_or L.entries j 0 < n

pub list_iff : (least : ℕ) (L : Lists) (i : ℕ) → (list_sound least L i ≡ true) ↔ ListFits least L i
unfolding list_sound rises_at
list_iff least L i = (
  λ e.
      let h = simp (and_iff, leb_iff, every_iff) at e in
      record { rises = h.0.0; below = h.0.1; sorted = h.1 },
  λ f. simp (and_iff, leb_iff, every_iff) ((f.rises, f.below), f.sorted),
)

pub entry_iff : (n : ℕ) (entries : List ℕ) (j : ℕ) → (entry_sound n entries j ≡ true) ↔ (get_or entries j 0 < n)
unfolding entry_sound
entry_iff n entries j = leb_iff _ _

ruleset tests = (and_iff, eqb_iff, every_iff, list_iff, entry_iff)

pub lists_iff : (least n : ℕ) (L : Lists) → (lists_sound least n L ≡ true) ↔ ListsFit least n L
unfolding lists_sound
lists_iff least n L = (
  λ e.
      let h = simp tests at e in
      record { start = h.0.0; lists = h.0.1; entries = h.1 },
  λ f. simp tests ((f.start, f.lists), f.entries),
)

pub after_is : (k a : ℕ) → after k a ≡ k + a
after_is zero a = sym (zero-add a)
after_is (suc k) a = omega (arith, after_is k a)

-- ---- the lists read off

-- all lists that a table holds
abbrev pub lists_held : Lists → List (List ℕ)
lists_held L = tabulate (list_at L) 0 L.count

-- tables that are long enough and whose firsts rise from 0 up to their count
pub record OrderedLists (L : Lists) : Type 0 where
  pub long : LongLists L
  pub rise : Rises (start_in L) L.count L.end

pub lists_ordered : {least n : ℕ} {L : Lists} → LongLists L → ListsFit least n L → OrderedLists L
lists_ordered {least} {n} {L} l f = record {
  long = l;
  rise = record {
    start = f.start;
    step = λ i h. omega (arith, after_is least (start_in L i), (f.lists i h).rises);
    below = λ i h. (f.lists i h).below;
  };
}

-- the entries of good lists
entries_below : {least n : ℕ} {cs : List (List ℕ)} → All (GoodList least n) cs → All (λ x. x < n) (joined cs)
unfolding joined
entries_below none = none
entries_below {least} {n} (more {x = c} g gs) = all_append (rising_below n 0 c g.rise) (entries_below gs)

module _ (L : Lists) (o : OrderedLists L) where
  module _ (i : ℕ) (h : i < L.count) where
    count_entries : length (list_at L i) ≡ start_in L (suc i) - start_in L i
    unfolding list_at
    count_entries = length-slice _ _ L.entries (le_trans (o.rise.below i h) o.long.entries)

    entry_at : (k : ℕ) → k < length (list_at L i) → get_or (list_at L i) k 0 ≡ get_or L.entries (start_in L i + k) 0
    unfolding list_at
    entry_at k l = get_or_slice (start_in L i) (start_in L (suc i)) k L.entries 0 (omega (arith, count_entries))

    entry_next : (k : ℕ) → suc k < length (list_at L i) → get_or (list_at L i) (suc k) 0 ≡ get_or L.entries (suc (start_in L i + k)) 0
    entry_next k l = rw add-suc at (entry_at (suc k) l)

    -- a list's place fits if and only if the list read off is good
    pub list_fine : {least n : ℕ} → ListFits least L i → ((j : ℕ) → j < L.end → get_or L.entries j 0 < n) → GoodList least n (list_at L i)
    list_fine {least} {n} f below = record {
      some = omega (arith, count_entries, after_is least (start_in L i), f.rises);
      rise =
          rising_all n 0 (list_at L i) (λ k l. rw (entry_at k l) (below _ (omega (arith, count_entries, f.below))))
          (λ k l. omega (arith, entry_at k (omega arith), entry_next k l, f.sorted k (omega (arith, count_entries))))
          (λ l. omega arith);
    }

    pub fine_list : {least n : ℕ} → GoodList least n (list_at L i) → ListFits least L i
    fine_list {least} g = record {
      rises = rw (after_is least (start_in L i)) (omega (arith, count_entries, o.rise.step i h, g.some));
      below = o.rise.below i h;
      sorted = λ k l.
          let l' : suc k < length (list_at L i) = omega (arith, count_entries) in
          omega (arith, entry_at k (omega arith), entry_next k l', rising_step _ 0 (list_at L i) k g.rise l');
    }

  -- the lists are cut out of the table
  lists_cut : Cut by_command (lists_held L) [] L.count (start_in L) L.entries
  unfolding list_at
  lists_cut = record {
    count = length_tabulate (list_at L) 0 L.count;
    rise = rises_up o.long.entries o.rise;
    cut = λ i h. tabulate_at (list_at L) L.count i [] h;
  }

  all_entries : joined (lists_held L) ≡ take L.end L.entries
  all_entries = all_cut by_command_lem lists_cut ∙ rw (start_out L.firsts L.count L.end L.count (le_refl _))

  pub count_held : length (lists_held L) ≡ L.count
  count_held = length_tabulate (list_at L) 0 L.count

  pub end_held : length (joined (lists_held L)) ≡ L.end
  end_held = ap length all_entries ∙ length-take-le L.end L.entries o.long.entries

  -- the tables of the lists held are the same
  pub lists_back : SameLists L (lists_of (lists_held L))
  lists_back = record {
    firsts = heads_cut by_command_lem lists_cut L.firsts 0 o.long.firsts (λ i h. sym (start_in_lem L.firsts L.count L.end i h));
    entries = sym all_entries ∙ sym (take-length (joined (lists_held L)));
  }

  -- the tables fit where the lists held are good
  pub lists_fit : {least n : ℕ} → All (GoodList least n) (lists_held L) → ListsFit least n L
  lists_fit {least} {n} good = record {
    start = o.rise.start;
    lists = λ i h. fine_list i h (rw (tabulate_at (list_at L) L.count i [] h) at (all_at good [] i (rw count_held h)));
    entries = λ j h.
        let below : All (λ x. x < n) (take L.end L.entries) = rw all_entries at (entries_below good) in
        rw (get_or-take L.end L.entries j 0 h) at (all_at below 0 j (rw (length-take-le _ _ o.long.entries) h));
  }

-- ---- tables that agree

-- entries that agree below a count, and ends that agree
pub entry_or_end : (i k m a b c d : ℕ) → k ≡ m → (i < k → a ≡ b) → c ≡ d → cond (ltb i k) a c ≡ cond (ltb i m) b d
entry_or_end i k m a b c d e f g =
    ap (λ (q : ℕ). cond (ltb i k) a q) g
    ∙ ⊎_elim (λ t. rw t (f (ltb-true i k t))) (λ t. rw t) (true_or_false (ltb i k))
    ∙ ap (λ (q : ℕ). cond (ltb i q) b d) e

module _ (L M : Lists) (count : L.count ≡ M.count) (end : L.end ≡ M.end) (same : SameLists L M) where
  start_same : (i : ℕ) → start_in L i ≡ start_in M i
  unfolding start_of
  start_same i = entry_or_end i _ _ _ _ _ _ count (agree_get_or _ _ _ _ count same.firsts i 0) end

  module _ (o : OrderedLists M) where
    pub lists_ordered_same : OrderedLists L
    lists_ordered_same = record {
      long = record {
        firsts = agree_long _ _ _ _ count same.firsts o.long.firsts;
        entries = agree_long _ _ _ _ end same.entries o.long.entries;
      };
      rise =
          subst (λ (k : ℕ). Rises (start_in L) k L.end) (sym count)
          (subst (λ (e : ℕ). Rises (start_in L) M.count e) (sym end) (rises_same start_same o.rise));
    }

    list_same : (i : ℕ) → i < L.count → list_at L i ≡ list_at M i
    unfolding list_at
    list_same i h =
        agree_slice _ _ L.entries M.entries end same.entries (start_in L i) (start_in L (suc i))
        (lists_ordered_same.rise.below i h)
        ∙ ap₂ (λ (a b : ℕ). slice a b M.entries) (start_same i) (start_same (suc i))

    pub lists_same : lists_held L ≡ lists_held M
    lists_same = tabulate_same _ _ _ _ count list_same

-- ---- the tables of lists

module _ (cs : List (List ℕ)) where
  start_of_lem : (i : ℕ) → start_in (lists_of cs) i ≡ length (joined (take i cs))
  unfolding start_of
  start_of_lem i = edge_told by_command_lem cs i _ (λ h. get_or_heads by_command_lem 0 cs i 0 [] h ∙ zero-add _)

  pub of_ordered : OrderedLists (lists_of cs)
  of_ordered = record {
    long = record { firsts = le_of_eq (sym (length_heads by_command_lem 0 cs)); entries = le_of_eq refl };
    rise = rises_same start_of_lem (edge_rises by_command_lem cs []);
  }

  list_of : (i : ℕ) → i < length cs → list_at (lists_of cs) i ≡ get_or cs i []
  unfolding list_at
  list_of i h = ap₂ (λ (a b : ℕ). slice a b (joined cs)) (start_of_lem i) (start_of_lem (suc i)) ∙ piece by_command_lem cs i [] h

  -- they hold the lists
  pub of_held : lists_held (lists_of cs) ≡ cs
  of_held = tabulate_is (list_at (lists_of cs)) cs [] list_of
