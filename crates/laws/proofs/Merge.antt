-- Laws of the merge of two lists: its members are those of both, it rises strictly where both do and they share none, and a change of
-- numbers that keeps their order may be made before it or after.
use mathlib.Core.Path.{◌≡◌, refl, sym, ap, ◌∙◌}
use mathlib.Core.Bool.{Bool, true, false, cond, ◌||◌}
use mathlib.Core.Logic.{◌⊎◌, inl, inr, ⊎_elim}
use mathlib.Core.List.Memᴰ
use mathlib.Core.List.{List, [], ◌∷◌, Memᴰ, map}
use Prim.Native.Nat.{ℕ, suc, ◌+◌, ◌<◌, ◌≤◌}
use native.Mathlib.Decide.{dec_lt}
use native.Mathlib.Omega.{arith}
use lib.Dec.{ltb}
use lib.ListN.{length}
use borrow.Author.Tests.{ltb-true, ltb-false, lt-ltb, le-ltb}
use Rattle.laws.specs.Sets.{any}
use Rattle.laws.specs.Merge.{StrictlyRising, insert, merge}
use Rattle.laws.proofs.Tests.{same_test, true_or_false, or_cases, or_left, or_right}
use Rattle.laws.proofs.Sets.{any_hit, any_of}

-- ---- one member more

-- where it comes in
module _ (y x : ℕ) (xs : List ℕ) where
  insert_later : ltb x y ≡ true → insert y (x ∷ xs) ≡ x ∷ insert y xs
  unfolding insert
  insert_later e = rw e

  insert_here : ltb x y ≡ false → insert y (x ∷ xs) ≡ y ∷ x ∷ xs
  unfolding insert
  insert_here e = rw e

-- the members are the new one and the old ones
insert_is : (y : ℕ) (xs : List ℕ) {z : ℕ} → Memᴰ z (insert y xs) → (z ≡ y) ⊎ Memᴰ z xs
unfolding insert
insert_is y [] m = Memᴰ.cases_cons m
insert_is y (x ∷ xs) {z} m = go (insert_is y xs) (ltb x y) m
  where
    step : (z ≡ x) ⊎ ((z ≡ y) ⊎ Memᴰ z xs) → (z ≡ y) ⊎ Memᴰ z (x ∷ xs)
    step (inl e) = inr (Memᴰ.head e)
    step (inr (inl e)) = inl e
    step (inr (inr n)) = inr (Memᴰ.tail n)

    go : (Memᴰ z (insert y xs) → (z ≡ y) ⊎ Memᴰ z xs) → (b : Bool) → Memᴰ z (cond b (x ∷ insert y xs) (y ∷ x ∷ xs))
        → (z ≡ y) ⊎ Memᴰ z (x ∷ xs)
    go below true n = step (⊎_elim inl (λ k. inr (below k)) (Memᴰ.cases_cons n))
    go below false n = Memᴰ.cases_cons n

insert_new : (y : ℕ) (xs : List ℕ) → Memᴰ y (insert y xs)
unfolding insert
insert_new y [] = Memᴰ.head refl
insert_new y (x ∷ xs) = go (ltb x y) (insert_new y xs)
  where
    go : (b : Bool) → Memᴰ y (insert y xs) → Memᴰ y (cond b (x ∷ insert y xs) (y ∷ x ∷ xs))
    go true below = Memᴰ.tail below
    go false below = Memᴰ.head refl

insert_old : (y : ℕ) (xs : List ℕ) {z : ℕ} → Memᴰ z xs → Memᴰ z (insert y xs)
unfolding insert
insert_old y [] m = absurd (Memᴰ.not-nil m)
insert_old y (x ∷ xs) {z} m = go (ltb x y) (insert_old y xs)
  where
    go : (b : Bool) → (Memᴰ z xs → Memᴰ z (insert y xs)) → Memᴰ z (cond b (x ∷ insert y xs) (y ∷ x ∷ xs))
    go true below = ⊎_elim Memᴰ.head (λ n. Memᴰ.tail (below n)) (Memᴰ.cases_cons m)
    go false below = Memᴰ.tail m

-- a new member does not disturb the order
insert_rising : (low y : ℕ) (xs : List ℕ) → StrictlyRising low xs → low ≤ y → (Memᴰ y xs → ⊥) → StrictlyRising low (insert y xs)
unfolding insert
insert_rising low y [] r l new = (l, tt)
insert_rising low y (x ∷ xs) r l new =
    ⊎_elim
    (λ e. rw (insert_later y x xs e) (r.0, insert_rising (suc x) y xs r.1 (ltb-true x y e) (λ m. new (Memᴰ.tail m))))
    (λ e. let apart : y ≡ x → ⊥ = λ q. new (Memᴰ.head q) in rw (insert_here y x xs e) (l, (omega (arith, ltb-false x y e), r.1)))
    (true_or_false (ltb x y))

length_insert : (y : ℕ) (xs : List ℕ) → length (insert y xs) ≡ suc (length xs)
unfolding insert
length_insert y [] = refl
length_insert y (x ∷ xs) = go (ltb x y) (length_insert y xs)
  where
    go : (b : Bool) → length (insert y xs) ≡ suc (length xs) → length (cond b (x ∷ insert y xs) (y ∷ x ∷ xs)) ≡ suc (suc (length xs))
    go true e = ap suc e
    go false e = refl

-- ---- all members of both

-- a member of the merge is one of either list
pub merge_is : (xs ys : List ℕ) {z : ℕ} → Memᴰ z (merge xs ys) → Memᴰ z xs ⊎ Memᴰ z ys
unfolding merge
merge_is xs [] m = inl m
merge_is xs (y ∷ ys) {z} m = ⊎_elim (λ e. inr (Memᴰ.head e)) (λ n. step (merge_is xs ys n)) (insert_is y (merge xs ys) m)
  where
    step : Memᴰ z xs ⊎ Memᴰ z ys → Memᴰ z xs ⊎ Memᴰ z (y ∷ ys)
    step (inl n) = inl n
    step (inr n) = inr (Memᴰ.tail n)

-- and every member of either list is one of the merge
pub merge_left : (xs ys : List ℕ) {z : ℕ} → Memᴰ z xs → Memᴰ z (merge xs ys)
unfolding merge
merge_left xs [] m = m
merge_left xs (y ∷ ys) m = insert_old y (merge xs ys) (merge_left xs ys m)

pub merge_right : (xs ys : List ℕ) {z : ℕ} → Memᴰ z ys → Memᴰ z (merge xs ys)
unfolding merge
merge_right xs [] m = absurd (Memᴰ.not-nil m)
merge_right xs (y ∷ ys) m =
    ⊎_elim (λ e. Memᴰ.cast e (insert_new y (merge xs ys))) (λ n. insert_old y (merge xs ys) (merge_right xs ys n)) (Memᴰ.cases_cons m)

-- so the merge has a member in a set if one of the lists has
pub merge_any : (f : ℕ → Bool) (xs ys : List ℕ) → any f (merge xs ys) ≡ any f xs || any f ys
merge_any f xs ys = same_test (any f (merge xs ys)) (any f xs || any f ys) there back
  where
    there : any f (merge xs ys) ≡ true → any f xs || any f ys ≡ true
    there e =
        let (z, m, t) = any_hit f (merge xs ys) e in
        ⊎_elim (λ n. or_left (any f xs) (any f ys) (any_of f xs n t)) (λ n. or_right (any f xs) (any f ys) (any_of f ys n t))
        (merge_is xs ys m)

    back : any f xs || any f ys ≡ true → any f (merge xs ys) ≡ true
    back e =
        ⊎_elim
        (λ h. let (z, m, t) = any_hit f xs h in any_of f (merge xs ys) (merge_left xs ys m) t)
        (λ h. let (z, m, t) = any_hit f ys h in any_of f (merge xs ys) (merge_right xs ys m) t)
        (or_cases (any f xs) (any f ys) e)

-- as many as both have together, a shared one twice
pub length_merge : (xs ys : List ℕ) → length (merge xs ys) ≡ length xs + length ys
unfolding merge
length_merge xs [] = omega arith
length_merge xs (y ∷ ys) = omega (arith, length_insert y (merge xs ys), length_merge xs ys)

-- ---- the merge rises

-- the members of a list that rises are not below where it starts
rising_from : (low : ℕ) (xs : List ℕ) {z : ℕ} → StrictlyRising low xs → Memᴰ z xs → low ≤ z
rising_from low [] r m = absurd (Memᴰ.not-nil m)
rising_from low (x ∷ xs) r m =
    ⊎_elim (λ e. omega (arith, r.0)) (λ n. omega (arith, r.0, rising_from (suc x) xs r.1 n)) (Memᴰ.cases_cons m)

rising_lower : (low high : ℕ) (xs : List ℕ) → low ≤ high → StrictlyRising high xs → StrictlyRising low xs
rising_lower low high [] l r = tt
rising_lower low high (x ∷ xs) l r = (omega (arith, r.0), r.1)

-- two lists that rise and share no member
pub merge_rising : (low : ℕ) (xs ys : List ℕ) → StrictlyRising low xs → StrictlyRising low ys
    → ((z : ℕ) → Memᴰ z xs → Memᴰ z ys → ⊥) → StrictlyRising low (merge xs ys)
unfolding merge
merge_rising low xs [] r q apart = r
merge_rising low xs (y ∷ ys) r q apart =
    insert_rising low y (merge xs ys)
    (merge_rising low xs ys r (rising_lower low (suc y) ys (omega (arith, q.0)) q.1) (λ z m n. apart z m (Memᴰ.tail n)))
    q.0 (λ m. ⊎_elim (λ n. apart y n (Memᴰ.head refl)) (λ n. twice (rising_from (suc y) ys q.1 n)) (merge_is xs ys m))
  where
    twice : suc y ≤ y → ⊥
    twice h = omega arith

-- ---- under other numbers

-- numbers of D, renumbered by f in the same order
module _ (f : ℕ → ℕ) (D : ℕ → Type 0) (rises : (x y : ℕ) → D x → D y → x < y → f x < f y) where
  same_order : (x y : ℕ) → D x → D y → ltb (f x) (f y) ≡ ltb x y
  same_order x y a b = go (dec_lt x y) (dec_lt y x)
    where
      go : Dec (x < y) → Dec (y < x) → ltb (f x) (f y) ≡ ltb x y
      go (yes l) d = lt-ltb (f x) (f y) (rises x y a b l) ∙ sym (lt-ltb x y l)
      go (no l) (yes g) = le-ltb (f x) (f y) (omega (arith, rises y x b a g)) ∙ sym (le-ltb x y (omega arith))
      go (no l) (no g) = let e : x ≡ y = omega arith in rw e (le-ltb (f y) (f y) (omega arith) ∙ sym (le-ltb y y (omega arith)))

  insert_map : (y : ℕ) (xs : List ℕ) → D y → ((x : ℕ) → Memᴰ x xs → D x) → insert (f y) (map f xs) ≡ map f (insert y xs)
  unfolding insert
  insert_map y [] d h = refl
  insert_map y (x ∷ xs) d h =
      let order = same_order x y (h x (Memᴰ.head refl)) d in
      ⊎_elim
      (λ e.
      insert_later (f y) (f x) (map f xs) (order ∙ e) ∙ ap (λ (r : List ℕ). f x ∷ r) (insert_map y xs d (λ z m. h z (Memᴰ.tail m)))
      ∙ ap (map f) (sym (insert_later y x xs e)))
      (λ e. insert_here (f y) (f x) (map f xs) (order ∙ e) ∙ ap (map f) (sym (insert_here y x xs e)))
      (true_or_false (ltb x y))

  -- merged and then renumbered is renumbered and then merged
  pub merge_map : (xs ys : List ℕ) → ((x : ℕ) → Memᴰ x xs → D x) → ((y : ℕ) → Memᴰ y ys → D y) → merge (map f xs) (map f ys)
      ≡ map f (merge xs ys)
  unfolding merge
  merge_map xs [] h k = refl
  merge_map xs (y ∷ ys) h k =
      let rest : (z : ℕ) → Memᴰ z ys → D z = λ z m. k z (Memᴰ.tail m) in
      ap (insert (f y)) (merge_map xs ys h rest)
      ∙ insert_map y (merge xs ys) (k y (Memᴰ.head refl)) (λ z m. ⊎_elim (h z) (rest z) (merge_is xs ys m))
