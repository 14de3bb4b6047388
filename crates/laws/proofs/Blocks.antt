-- Blocks of one width, stored one after another from the front of a table: those of the first members of a list.
use mathlib.Core.Path.{◌≡◌, refl, sym, ap, ap₂, ◌∙◌}
use mathlib.Core.List.{List, [], ◌∷◌, ◌++◌, append_assoc}
use Prim.Native.Nat.{ℕ, ◌+◌, ◌*◌, ◌<◌, ◌≤◌}
use native.Mathlib.Nat.{zero-add}
use native.Mathlib.Numerals.{add-one}
use native.Mathlib.Omega.{arith}
use lib.ListN.{length, get_or, take, length-append}
use lib.Seq.{take-suc, length-take-le}
use Rattle.laws.specs.Entry.{twos}
use Rattle.laws.specs.Lists.{overwrite}
use Rattle.laws.specs.Writes.{put_all}
use Rattle.laws.proofs.Writes.{length_put, put_append, put_front}

-- g has a block of w places for each member
pub record Blocks {A B : Type 0} (w : ℕ) (g : List A → List B) : Type 0 where
  pub none : g [] ≡ []
  pub more : (x : A) (xs : List A) → g (x ∷ xs) ≡ g (x ∷ []) ++ g xs
  pub wide : (x : A) → length (g (x ∷ [])) ≡ w

-- l is l₀ with the blocks of the first i members in front
pub record Stored {A B : Type 0} (g : List A → List B) (xs : List A) (l₀ : List B) (i : ℕ) (l : List B) : Type 0 where
  pub same : length l ≡ length l₀
  pub is : l ≡ put_all l₀ 0 (g (take i xs))

module _ {A B : Type 0} {w : ℕ} {g : List A → List B} (b : Blocks w g) where
  pub blocks_append : (xs ys : List A) → g (xs ++ ys) ≡ g xs ++ g ys
  blocks_append [] ys = rw b.none
  blocks_append (x ∷ xs) ys =
      b.more x (xs ++ ys) ∙ ap (λ (r : List B). g (x ∷ []) ++ r) (blocks_append xs ys) ∙ sym (append_assoc (g (x ∷ [])) (g xs) (g ys))
      ∙ ap (λ (r : List B). r ++ g ys) (sym (b.more x xs))

  pub blocks_length : (xs : List A) → length (g xs) ≡ length xs * w
  blocks_length [] = ap length b.none ∙ omega arith
  blocks_length (x ∷ xs) =
      ap length (b.more x xs) ∙ length-append (g (x ∷ [])) (g xs) ∙ ap₂ (λ (p q : ℕ). p + q) (b.wide x) (blocks_length xs) ∙ omega arith

  pub stored_none : (xs : List A) (l : List B) → Stored g xs l 0 l
  unfolding put_all
  stored_none xs l = record { same = refl; is = rw b.none }

  -- one block more
  pub stored_next : {xs : List A} {l₀ l : List B} {i : ℕ} (d : A) → Stored g xs l₀ i l → i < length xs → (l' : List B)
      → l' ≡ put_all l (i * w) (g (get_or xs i d ∷ [])) → Stored g xs l₀ (i + 1) l'
  stored_next {xs} {l₀} {l} {i} d s h l' e =
      let front : List B = g (take i xs) in
      let block : List B = g (get_or xs i d ∷ []) in
      let at : 0 + length front ≡ i * w
      = zero-add (length front) ∙ blocks_length (take i xs) ∙ ap (λ (k : ℕ). k * w) (length-take-le i xs (omega arith)) in
      let grown : g (take (i + 1) xs) ≡ front ++ block
      = ap (λ (k : ℕ). g (take k xs)) (add-one i) ∙ ap g (take-suc xs i d h) ∙ blocks_append (take i xs) (get_or xs i d ∷ []) in
      record {
        same = ap length e ∙ length_put l (i * w) block ∙ s.same;
        is = e ∙ ap (λ (r : List B). put_all r (i * w) block) s.is ∙ ap (λ (k : ℕ). put_all (put_all l₀ 0 front) k block) (sym at)
            ∙ sym (put_append l₀ 0 front block) ∙ ap (put_all l₀ 0) (sym grown);
      }

  -- the loop is over
  pub stored_done : {xs : List A} {l₀ l : List B} {i n : ℕ} → Stored g xs l₀ i l → i ≤ n → n ≤ i → n ≤ length xs → n * w ≤ length l₀
      → l ≡ overwrite (g (take n xs)) l₀
  stored_done {xs} {l₀} {l} {i} {n} s p q h k =
      let e : i ≡ n = omega arith in
      let long : length (g (take n xs)) ≡ n * w = blocks_length (take n xs) ∙ ap (λ (j : ℕ). j * w) (length-take-le n xs h) in
      s.is ∙ ap (λ (j : ℕ). put_all l₀ 0 (g (take j xs))) e ∙ put_front l₀ (g (take n xs)) (rw long k)

-- two bytes for each number
pub twos_blocks : Blocks 2 (λ (xs : List ℕ). twos xs [])
unfolding twos
twos_blocks = record { none = refl; more = λ x xs. refl; wide = λ x. refl }
