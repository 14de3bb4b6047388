-- Lists that stand one after another, the places where they begin, and the table of those places.
-- It serves twice: for the commands of states, with the rows, and for the outcomes of commands, with the first outcomes.
use mathlib.Core.Path.{◌≡◌, refl, sym, ap, ap₂, ◌∙◌, subst}
use mathlib.Core.Bool.{cond}
use mathlib.Core.Logic.{⊎_elim}
use mathlib.Core.List.Memᴰ
use mathlib.Core.List.{
  List,
  [],
  ◌∷◌,
  ◌++◌,
  append_assoc,
  append-nil,
  Memᴰ,
}
use Prim.Native.Nat.{ℕ, zero, suc, ◌+◌, ◌<◌, ◌≤◌}
use native.Mathlib.Nat.{add-zero, zero-add, add_assoc, not-suc-le-zero, le_of_suc-le-suc, le_of_eq, le_trans}
use native.Mathlib.Omega.{arith}
use lib.Dec.{ltb}
use lib.ListN.{length, get_or, take, drop, length-append, take-append-drop}
use lib.Seq.{take-suc, take_all, take-append_seam, drop-append_seam, get_or-take, length-take-le, ext_get_or, slice}
use borrow.Author.Tests.{ltb-true, ltb-false}
use Rattle.laws.proofs.Tests.{true_or_false}
use Rattle.laws.proofs.Lists.{slice_join}

pub record Layout (A B C : Type 0) : Type 0 where
  -- the list that an element brings, and those of several elements
  pub part : B → List A
  pub all : List B → List A
  -- the table's entry for an element whose list begins at a place, and the entries of several elements
  pub head : ℕ → B → C
  pub heads : ℕ → List B → List C

-- the lists stand one after another, and each begins where those before it end
pub record Lays {A B C : Type 0} (L : Layout A B C) : Type 0 where
  pub all_nil : L.all [] ≡ []
  pub all_cons : (x : B) (xs : List B) → L.all (x ∷ xs) ≡ L.part x ++ L.all xs
  pub heads_nil : (m : ℕ) → L.heads m [] ≡ []
  pub heads_cons : (m : ℕ) (x : B) (xs : List B) → L.heads m (x ∷ xs) ≡ L.head m x ∷ L.heads (m + length (L.part x)) xs

-- k numbers after 0, each at least the one before, up to an end
pub record Rises (f : ℕ → ℕ) (k end : ℕ) : Type 0 where
  pub start : f 0 ≡ 0
  pub step : (i : ℕ) → i < k → f i ≤ f (suc i)
  pub below : (i : ℕ) → i < k → f (suc i) ≤ end

pub rises_same : {f g : ℕ → ℕ} {k end : ℕ} → ((i : ℕ) → f i ≡ g i) → Rises g k end → Rises f k end
rises_same e r = record {
  start = e 0 ∙ r.start;
  step = λ i h. rw (e i, e (suc i)) (r.step i h);
  below = λ i h. rw (e (suc i)) (r.below i h);
}

pub rises_up : {f : ℕ → ℕ} {k end top : ℕ} → end ≤ top → Rises f k end → Rises f k top
rises_up h r = record { start = r.start; step = r.step; below = λ i l. le_trans (r.below i l) h }

-- where the list of the element i begins
abbrev pub edge : {A B C : Type 0} → Layout A B C → List B → ℕ → ℕ
edge L xs i = length (L.all (take i xs))

-- k elements whose lists are cut out of l at the places f
pub record Cut {A B C : Type 0} (L : Layout A B C) (xs : List B) (e : B) (k : ℕ) (f : ℕ → ℕ) (l : List A) : Type 0 where
  pub count : length xs ≡ k
  pub rise : Rises f k (length l)
  pub cut : (i : ℕ) → i < k → L.part (get_or xs i e) ≡ slice (f i) (f (suc i)) l

module _ {A B C : Type 0} {L : Layout A B C} (lays : Lays L) where
  pub all_append : (xs ys : List B) → L.all (xs ++ ys) ≡ L.all xs ++ L.all ys
  all_append [] ys = rw lays.all_nil
  all_append (x ∷ xs) ys =
      lays.all_cons x (xs ++ ys) ∙ ap (λ (r : List A). L.part x ++ r) (all_append xs ys)
      ∙ sym (append_assoc (L.part x) (L.all xs) (L.all ys))
      ∙ ap (λ (r : List A). r ++ L.all ys) (sym (lays.all_cons x xs))

  -- the members of all are the members of the lists
  pub mem_all : {x : A} {y : B} {xs : List B} → Memᴰ y xs → Memᴰ x (L.part y) → Memᴰ x (L.all xs)
  mem_all {x} (Memᴰ.head {x = z} {xs = zs} e) m =
      rw (lays.all_cons z zs) (Memᴰ.append_left (L.all zs) (subst (λ (w : B). Memᴰ x (L.part w)) e m))
  mem_all (Memᴰ.tail {x = z} {xs = zs} h) m = rw (lays.all_cons z zs) (Memᴰ.append_right (L.part z) (mem_all h m))

  pub all_mem : {x : A} (xs : List B) → Memᴰ x (L.all xs) → (y : B) × Memᴰ y xs × Memᴰ x (L.part y)
  all_mem [] m = absurd (Memᴰ.not-nil (rw lays.all_nil at m))
  all_mem {x} (z ∷ zs) m =
      ⊎_elim {C = (y : B) × Memᴰ y (z ∷ zs) × Memᴰ x (L.part y)} (λ h. (z, Memᴰ.head refl, h))
      (λ h. let (y, k, l) = all_mem zs h in (y, Memᴰ.tail k, l))
      (Memᴰ.append_cases (L.part z) (rw (lays.all_cons z zs) at m))

  all_split : (xs : List B) (i : ℕ) → L.all xs ≡ L.all (take i xs) ++ L.all (drop i xs)
  all_split xs i = ap L.all (sym (take-append-drop i xs)) ∙ all_append (take i xs) (drop i xs)

  -- the lists up to the element i, and its own
  all_next : (xs : List B) (i : ℕ) (e : B) → i < length xs → L.all (take (suc i) xs) ≡ L.all (take i xs) ++ L.part (get_or xs i e)
  all_next xs i e h =
      ap L.all (take-suc xs i e h) ∙ all_append (take i xs) (get_or xs i e ∷ [])
      ∙ rw (lays.all_cons (get_or xs i e) [], lays.all_nil, append-nil (L.part (get_or xs i e)))

  edge_zero : (xs : List B) → edge L xs 0 ≡ 0
  edge_zero xs = ap length lays.all_nil

  edge_next : (xs : List B) (i : ℕ) (e : B) → i < length xs → edge L xs (suc i) ≡ edge L xs i + length (L.part (get_or xs i e))
  edge_next xs i e h = ap length (all_next xs i e h) ∙ length-append (L.all (take i xs)) (L.part (get_or xs i e))

  edge_below : (xs : List B) (i : ℕ) → edge L xs i ≤ length (L.all xs)
  edge_below xs i = omega (arith, ap length (all_split xs i), length-append (L.all (take i xs)) (L.all (drop i xs)))

  edge_end : (xs : List B) (i : ℕ) → length xs ≤ i → edge L xs i ≡ length (L.all xs)
  edge_end xs i h = ap (λ (r : List B). length (L.all r)) (take_all i xs h)

  pub part_below : (xs : List B) (i : ℕ) (e : B) → i < length xs → length (L.part (get_or xs i e)) ≤ length (L.all xs)
  part_below xs i e h = omega (arith, edge_next xs i e h, edge_below xs (suc i))

  pub edge_rises : (xs : List B) (e : B) → Rises (edge L xs) (length xs) (length (L.all xs))
  edge_rises xs e = record {
    start = edge_zero xs;
    step = λ i h. omega (arith, edge_next xs i e h);
    below = λ i h. edge_below xs (suc i);
  }

  -- a place told by the table, or by the end past the last element, is the edge
  pub edge_told : (xs : List B) (i start : ℕ) → (i < length xs → start ≡ edge L xs i) → cond (ltb i (length xs)) start (length (L.all xs))
      ≡ edge L xs i
  edge_told xs i start h =
      ⊎_elim (λ t. rw t (h (ltb-true _ _ t))) (λ t. rw t (sym (edge_end xs i (ltb-false _ _ t)))) (true_or_false (ltb i (length xs)))

  -- the list of the element i, cut out of all
  pub piece : (xs : List B) (i : ℕ) (e : B) → i < length xs → slice (edge L xs i) (edge L xs (suc i)) (L.all xs) ≡ L.part (get_or xs i e)
  piece xs i e h =
      ap (λ (r : List A). slice (edge L xs i) (edge L xs (suc i)) r) (all_split xs (suc i))
      ∙ ap (drop (edge L xs i)) (take-append_seam (L.all (take (suc i) xs)) (L.all (drop (suc i) xs)) ∙ all_next xs i e h)
      ∙ drop-append_seam (L.all (take i xs)) (L.part (get_or xs i e))

  pub length_heads : (m : ℕ) (xs : List B) → length (L.heads m xs) ≡ length xs
  length_heads m [] = ap length (lays.heads_nil m)
  length_heads m (x ∷ xs) = ap length (lays.heads_cons m x xs) ∙ ap suc (length_heads (m + length (L.part x)) xs)

  -- the entries of elements that come behind others
  pub heads_append : (m : ℕ) (xs ys : List B) → L.heads m (xs ++ ys) ≡ L.heads m xs ++ L.heads (m + length (L.all xs)) ys
  heads_append m [] ys = rw (lays.heads_nil m, lays.all_nil, add-zero m)
  heads_append m (x ∷ xs) ys =
      let n = m + length (L.part x) in
      let e : n + length (L.all xs) ≡ m
      + length (L.all (x ∷ xs)) = rw (lays.all_cons x xs, length-append) (add_assoc m (length (L.part x)) (length (L.all xs))) in
      lays.heads_cons m x (xs ++ ys)
      ∙ ap (λ (r : List C). L.head m x ∷ r) (heads_append n xs ys ∙ ap (λ (j : ℕ). L.heads n xs ++ L.heads j ys) e)
      ∙ ap (λ (r : List C). r ++ L.heads (m + length (L.all (x ∷ xs))) ys) (sym (lays.heads_cons m x xs))

  pub get_or_heads : (m : ℕ) (xs : List B) (i : ℕ) (d : C) (e : B) → i < length xs → get_or (L.heads m xs) i d
      ≡ L.head (m + edge L xs i) (get_or xs i e)
  get_or_heads m [] i d e h = absurd (not-suc-le-zero h)
  get_or_heads m (x ∷ xs) zero d e h =
      ap (λ (r : List C). get_or r 0 d) (lays.heads_cons m x xs)
      ∙ ap (λ (j : ℕ). L.head j x) (sym (ap (λ (j : ℕ). m + j) (edge_zero xs) ∙ add-zero m))
  get_or_heads m (x ∷ xs) (suc i) d e h =
      ap (λ (r : List C). get_or r (suc i) d) (lays.heads_cons m x xs)
      ∙ get_or_heads (m + length (L.part x)) xs i d e (le_of_suc-le-suc h)
      ∙ ap (λ (j : ℕ). L.head j (get_or xs i e))
      (add_assoc m (length (L.part x)) (edge L xs i)
      ∙ ap (λ (j : ℕ). m + j) (sym (ap length (lays.all_cons x (take i xs)) ∙ length-append (L.part x) (L.all (take i xs)))))

  module _ {xs : List B} {e : B} {k : ℕ} {f : ℕ → ℕ} {l : List A} (c : Cut L xs e k f l) where
    inside : (i : ℕ) → i ≤ k → f i ≤ length l
    inside zero h = omega (arith, c.rise.start)
    inside (suc i) h = c.rise.below i h

    all_taken : (i : ℕ) → i ≤ k → L.all (take i xs) ≡ take (f i) l
    all_taken zero h = lays.all_nil ∙ rw c.rise.start
    all_taken (suc i) h =
        all_next xs i e (omega (arith, c.count)) ∙ ap₂ (λ (r s : List A). r ++ s) (all_taken i (omega arith)) (c.cut i h)
        ∙ slice_join 0 (f i) (f (suc i)) l (omega arith) (c.rise.step i h) (c.rise.below i h)

    edge_is : (i : ℕ) → i ≤ k → edge L xs i ≡ f i
    edge_is i h = ap length (all_taken i h) ∙ length-take-le (f i) l (inside i h)

    -- together they are l up to the last place
    pub all_cut : L.all xs ≡ take (f k) l
    all_cut = ap L.all (sym (take_all k xs (omega arith))) ∙ all_taken k (omega arith)

    -- a table that has those places is theirs
    pub heads_cut : (table : List C) (d : C) → k ≤ length table → ((i : ℕ) → i < k → get_or table i d ≡ L.head (f i) (get_or xs i e))
        → take k table ≡ take (length xs) (L.heads 0 xs)
    heads_cut table d h t =
        let w : length (take k table) ≡ k = length-take-le k table h in
        ext_get_or d (take k table) (L.heads 0 xs) (w ∙ sym c.count ∙ sym (length_heads 0 xs))
        (λ i m.
        let m' : i < k = omega arith in
        get_or-take k table i d m' ∙ t i m'
        ∙ sym (get_or_heads 0 xs i d e (omega arith)
        ∙ ap (λ (j : ℕ). L.head j (get_or xs i e)) (zero-add (edge L xs i) ∙ edge_is i (omega arith))))
        ∙ sym (take_all (length xs) (L.heads 0 xs) (le_of_eq (length_heads 0 xs)))
