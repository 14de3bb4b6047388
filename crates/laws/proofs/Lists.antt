-- Laws of lists made from a rule, of tables whose first places are written, and of slices.
use mathlib.Core.Path.{◌≡◌, refl, sym, ap, ap₂, ◌∙◌, subst}
use mathlib.Core.Logic.{⊎_elim}
use mathlib.Core.List.{List, [], ◌∷◌, ◌++◌, Memᴰ}
use Prim.Native.Nat.{ℕ, zero, suc, ◌+◌, ◌-◌, ◌<◌, ◌≤◌}
use native.Mathlib.Nat.{add-zero, add-suc, zero-add, suc-add, not-suc-le-zero, le_of_suc-le-suc, add-sub_of_le}
use native.Mathlib.Omega.{arith}
use lib.ListN.{length, get_or, take, drop, length-append, length-take, length-drop, take-append-drop, get_or-append}
use lib.Seq.{
  take-append_seam,
  drop-append_seam,
  get_or-append-add,
  get_or-drop,
  get_or-take,
  take-take,
  take-length,
  take_at,
  drop_at,
  drop-append-le,
  length-take-le,
  ext_get_or,
  slice,
}
use Rattle.laws.specs.Lists.{tabulate, overwrite}

module _ {A : Type 0} where
  pub length_tabulate : (f : ℕ → A) (a k : ℕ) → length (tabulate f a k) ≡ k
  unfolding tabulate
  length_tabulate f a zero = refl
  length_tabulate f a (suc k) = ap suc (length_tabulate f (suc a) k)

  pub get_or_tabulate : (f : ℕ → A) (a k i : ℕ) (d : A) → i < k → get_or (tabulate f a k) i d ≡ f (a + i)
  unfolding tabulate
  get_or_tabulate f a zero i d h = absurd (not-suc-le-zero h)
  get_or_tabulate f a (suc k) zero d h = ap f (sym (add-zero a))
  get_or_tabulate f a (suc k) (suc i) d h = get_or_tabulate f (suc a) k i d (le_of_suc-le-suc h) ∙ ap f (omega arith)

  pub tabulate_at : (f : ℕ → A) (k i : ℕ) (d : A) → i < k → get_or (tabulate f 0 k) i d ≡ f i
  tabulate_at f k i d h = get_or_tabulate f 0 k i d h ∙ ap f (zero-add i)

  pub tabulate_append : (f : ℕ → A) (a j k : ℕ) → tabulate f a j ++ tabulate f (a + j) k ≡ tabulate f a (j + k)
  unfolding tabulate
  tabulate_append f a zero k = simp (add-zero, zero-add)
  tabulate_append f a (suc j) k =
      let e : a + suc j ≡ suc a + j = omega arith in
      rw (e, suc-add j k) (ap (λ (r : List A). f a ∷ r) (tabulate_append f (suc a) j k))

  -- rules that agree at the numbers asked give the same list
  pub tabulate_ext : (f g : ℕ → A) (a b k : ℕ) → ((i : ℕ) → i < k → f (a + i) ≡ g (b + i)) → tabulate f a k ≡ tabulate g b k
  unfolding tabulate
  tabulate_ext f g a b zero h = refl
  tabulate_ext f g a b (suc k) h =
      ap₂ (λ (x : A) (r : List A). x ∷ r)
      (rw (add-zero a, add-zero b) at (h 0 (omega arith)))
      (tabulate_ext f g (suc a) (suc b) k (λ i l. rw (suc-add a i, suc-add b i, ← add-suc a i, ← add-suc b i) (h (suc i) (omega arith))))

  pub tabulate_same : (f g : ℕ → A) (k m : ℕ) → k ≡ m → ((i : ℕ) → i < k → f i ≡ g i) → tabulate f 0 k ≡ tabulate g 0 m
  tabulate_same f g k m e h = tabulate_ext f g 0 0 k (λ i l. rw zero-add (h i l)) ∙ ap (tabulate g 0) e

  -- a list is made by a rule that tells its members
  pub tabulate_is : (f : ℕ → A) (l : List A) (d : A) → ((i : ℕ) → i < length l → f i ≡ get_or l i d) → tabulate f 0 (length l) ≡ l
  tabulate_is f l d h =
      let e = length_tabulate f 0 (length l) in
      ext_get_or d (tabulate f 0 (length l)) l e
      (λ i k. tabulate_at f (length l) i d (rw e at k) ∙ h i (rw e at k))

  -- the first of them, and those behind
  pub take_tabulate : (f : ℕ → A) (a n k : ℕ) → n ≤ k → take n (tabulate f a k) ≡ tabulate f a n
  unfolding tabulate
  take_tabulate f a zero k h = refl
  take_tabulate f a (suc n) zero h = absurd (not-suc-le-zero h)
  take_tabulate f a (suc n) (suc k) h = ap (λ (r : List A). f a ∷ r) (take_tabulate f (suc a) n k (le_of_suc-le-suc h))

  pub drop_tabulate : (f : ℕ → A) (a n k : ℕ) → drop n (tabulate f a k) ≡ tabulate f (a + n) (k - n)
  unfolding tabulate
  drop_tabulate f a zero k = let e : k - 0 ≡ k = omega arith in rw (e, add-zero a)
  drop_tabulate f a (suc n) zero = let e : 0 - suc n ≡ 0 = omega arith in rw e
  drop_tabulate f a (suc n) (suc k) =
      let e : suc k - suc n ≡ k - n = omega arith in
      let b : a + suc n ≡ suc a + n = omega arith in
      rw (e, b) (drop_tabulate f (suc a) n k)

  pub mem_tabulate : (f : ℕ → A) (a k i : ℕ) → i < k → Memᴰ (f (a + i)) (tabulate f a k)
  unfolding tabulate
  mem_tabulate f a zero i h = absurd (not-suc-le-zero h)
  mem_tabulate f a (suc k) zero h = mathlib.Core.List.Memᴰ.head (ap f (add-zero a))
  mem_tabulate f a (suc k) (suc i) h =
      let m : Memᴰ (f (suc a + i)) (tabulate f (suc a) k) = mem_tabulate f (suc a) k i (le_of_suc-le-suc h) in
      mathlib.Core.List.Memᴰ.tail (subst (λ (j : ℕ). Memᴰ (f j) (tabulate f (suc a) k)) (omega arith) m)

  pub tabulate_mem : (f : ℕ → A) (a k : ℕ) {x : A} → Memᴰ x (tabulate f a k) → (i : ℕ) × (i < k) × (x ≡ f (a + i))
  unfolding tabulate
  tabulate_mem f a zero m = absurd (mathlib.Core.List.Memᴰ.not-nil m)
  tabulate_mem f a (suc k) {x} m =
      ⊎_elim {C = (i : ℕ) × (i < suc k) × (x ≡ f (a + i))} (λ e. (0, omega arith, e ∙ rw add-zero))
      (λ n. let (i, h, e) = tabulate_mem f (suc a) k n in (suc i, omega arith, e ∙ ap f (omega arith)))
      (mathlib.Core.List.Memᴰ.cases_cons m)

  -- the same for a list that starts at 0
  pub mem_at : (f : ℕ → A) (k i : ℕ) → i < k → Memᴰ (f i) (tabulate f 0 k)
  mem_at f k i h = mathlib.Core.List.Memᴰ.cast (ap f (sym (zero-add i))) (mem_tabulate f 0 k i h)

  pub at_mem : (f : ℕ → A) (k : ℕ) {x : A} → Memᴰ x (tabulate f 0 k) → (i : ℕ) × (i < k) × (x ≡ f i)
  at_mem f k m = let (i, h, e) = tabulate_mem f 0 k m in (i, h, e ∙ ap f (zero-add i))

  pub mem_get_or : (l : List A) (i : ℕ) (d : A) → i < length l → Memᴰ (get_or l i d) l
  mem_get_or [] i d h = absurd (not-suc-le-zero h)
  mem_get_or (x ∷ xs) zero d h = mathlib.Core.List.Memᴰ.head refl
  mem_get_or (x ∷ xs) (suc i) d h = mathlib.Core.List.Memᴰ.tail (mem_get_or xs i d (le_of_suc-le-suc h))

  -- and a member has a place
  pub get_or_mem : {x : A} (l : List A) (d : A) → Memᴰ x l → (i : ℕ) × (i < length l) × (get_or l i d ≡ x)
  get_or_mem l d (mathlib.Core.List.Memᴰ.head e) = (0, omega arith, sym e)
  get_or_mem l d (mathlib.Core.List.Memᴰ.tail {xs = xs} m) = let (i, h, e) = get_or_mem xs d m in (suc i, omega arith, e)

  pub take_overwrite : (xs l : List A) → take (length xs) (overwrite xs l) ≡ xs
  unfolding overwrite
  take_overwrite xs l = take-append_seam xs _

  pub take_overwritten : (n : ℕ) (xs l : List A) → length xs ≡ n → take n (overwrite xs l) ≡ xs
  take_overwritten n xs l e = rw (← e) (take_overwrite xs l)

  pub take_written : (xs l : List A) (n : ℕ) → length xs ≡ n → take n (overwrite xs l) ≡ take n xs
  take_written xs l n e = take_overwritten n xs l e ∙ sym (rw (← e) (take-length xs))

  -- a list that is known up to n
  pub get_or_taken : (n : ℕ) (l xs : List A) (i : ℕ) (d : A) → take n l ≡ xs → i < n → get_or l i d ≡ get_or xs i d
  get_or_taken n l xs i d e h = sym (get_or-take n l i d h) ∙ ap (λ (r : List A). get_or r i d) e

  pub drop_overwrite : (xs l : List A) → drop (length xs) (overwrite xs l) ≡ drop (length xs) l
  unfolding overwrite
  drop_overwrite xs l = drop-append_seam xs _

  pub length_overwrite : (xs l : List A) → length xs ≤ length l → length (overwrite xs l) ≡ length l
  unfolding overwrite
  length_overwrite xs l h = simp (length-append, length-drop) (omega arith)

  pub get_or_overwrite_below : (xs l : List A) (i : ℕ) (d : A) → i < length xs → get_or (overwrite xs l) i d ≡ get_or xs i d
  unfolding overwrite
  get_or_overwrite_below xs l i d h = get_or-append xs _ d i h

  pub get_or_overwrite_above : (xs l : List A) (i : ℕ) (d : A) → length xs ≤ i → get_or (overwrite xs l) i d ≡ get_or l i d
  unfolding overwrite
  get_or_overwrite_above xs l i d h =
      let e : length xs + (i - length xs) ≡ i = add-sub_of_le h in
      rw (← e) (get_or-append-add xs _ (i - length xs) d ∙ get_or-drop (length xs) l (i - length xs) d)

  -- slices that meet
  pub slice_join : (a b c : ℕ) (l : List A) → a ≤ b → b ≤ c → c ≤ length l → slice a b l ++ slice b c l ≡ slice a c l
  slice_join a b c l h k m =
      let t = take c l in
      let b_in : b ≤ length t = rw (length-take-le c l m) k in
      let a_in : a ≤ length (take b t) = rw (length-take-le b t b_in) h in
      rw (← take-take b c l k) (sym (drop-append-le a (take b t) (drop b t) a_in) ∙ ap (drop a) (take-append-drop b t))

  pub get_or_slice : (a b i : ℕ) (l : List A) (d : A) → a + i < b → get_or (slice a b l) i d ≡ get_or l (a + i) d
  get_or_slice a b i l d h = get_or-drop a (take b l) i d ∙ get_or-take b l (a + i) d h

  tabulate_split : (f : ℕ → A) (a k : ℕ) → a ≤ k → tabulate f 0 k ≡ tabulate f 0 a ++ tabulate f a (k - a)
  tabulate_split f a k h =
      let e : a + (k - a) ≡ k = add-sub_of_le h in
      sym (rw (zero-add, e) at (tabulate_append f 0 a (k - a)))

  -- a part of a list that is made from a rule
  pub slice_tabulate : (f : ℕ → A) (a b k : ℕ) → a ≤ b → b ≤ k → slice a b (tabulate f 0 k) ≡ tabulate f a (b - a)
  slice_tabulate f a b k h l =
      ap (λ (r : List A). slice a b r) (tabulate_split f b k l)
      ∙ ap (drop a) (take_at (tabulate f 0 b) _ b (length_tabulate f 0 b) ∙ tabulate_split f a b h)
      ∙ drop_at (tabulate f 0 a) _ a (length_tabulate f 0 a)

  -- what lists that agree up to a count have in common
  module _ (k m : ℕ) (l r : List A) (same_count : k ≡ m) (agree : take k l ≡ take m r) where
    pub agree_get_or : (i : ℕ) (d : A) → i < k → get_or l i d ≡ get_or r i d
    agree_get_or i d h = sym (get_or-take k l i d h) ∙ ap (λ (q : List A). get_or q i d) agree ∙ get_or-take m r i d (omega arith)

    pub agree_long : m ≤ length r → k ≤ length l
    agree_long h = omega (arith, length-take k l, length-take m r, ap length agree)

    pub agree_slice : (a b : ℕ) → b ≤ k → slice a b l ≡ slice a b r
    agree_slice a b h = ap (drop a) (sym (take-take b k l h) ∙ ap (take b) agree ∙ take-take b m r (omega arith))
