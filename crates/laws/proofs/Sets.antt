-- Laws of sets of numbers: some or the first member of a list, all, some, the lowest and the count below a bound, growing chains.
use mathlib.Core.Path.{◌≡◌, refl, sym, ◌∙◌, ap, subst}
use mathlib.Core.Bool.{Bool, true, false, not, cond, ◌&&◌, ◌||◌}
use mathlib.Core.Logic.{◌⊎◌, inl, inr, ⊎_elim}
use mathlib.Core.List.Memᴰ
use mathlib.Core.List.{List, [], ◌∷◌, Memᴰ}
use mathlib.Core.Option.{Option, none, some}
use Prim.Native.Nat.{ℕ, zero, suc, ◌+◌, ◌<◌, ◌≤◌}
use native.Mathlib.Nat.{le_of_suc-le-suc, not-suc-le-zero, eq-or-lt_of_le, le_antisymm}
use native.Mathlib.Omega.{arith}
use lib.Dec.{ltb}
use borrow.Author.Tests.{ltb-true, ltb-false, not-true}
use Rattle.laws.specs.Sets.{any, first, every, exists, or_else, lowest, found, how_many}
use Rattle.laws.proofs.Tests.{clash, true_or_false, refute, and_both, and_join, or_cases, or_left, or_right}

-- ---- some member of a list

pub any_hit : (f : ℕ → Bool) (xs : List ℕ) → any f xs ≡ true → (x : ℕ) × Memᴰ x xs × (f x ≡ true)
unfolding any
any_hit f [] e = clash e refl
any_hit f (x ∷ xs) e = go (λ t. any_hit f xs t) (or_cases (f x) (any f xs) e)
  where
    later : (y : ℕ) × Memᴰ y xs × (f y ≡ true) → (y : ℕ) × Memᴰ y (x ∷ xs) × (f y ≡ true)
    later t = (t.0, Memᴰ.tail t.1, t.2)

    go : (any f xs ≡ true → (y : ℕ) × Memᴰ y xs × (f y ≡ true)) → (f x ≡ true) ⊎ (any f xs ≡ true)
        → (y : ℕ) × Memᴰ y (x ∷ xs) × (f y ≡ true)
    go below (inl h) = (x, Memᴰ.head refl, h)
    go below (inr h) = later (below h)

pub any_of : (f : ℕ → Bool) {x : ℕ} (xs : List ℕ) → Memᴰ x xs → f x ≡ true → any f xs ≡ true
unfolding any
any_of f [] m e = absurd (Memᴰ.not-nil m)
any_of f {x} (y ∷ xs) m e = go (λ t. any_of f xs t e) (Memᴰ.cases_cons m)
  where
    go : (Memᴰ x xs → any f xs ≡ true) → (x ≡ y) ⊎ Memᴰ x xs → f y || any f xs ≡ true
    go below (inl h) = or_left (f y) (any f xs) (rw h at e)
    go below (inr h) = or_right (f y) (any f xs) (below h)

pub any_none : (f : ℕ → Bool) {x : ℕ} (xs : List ℕ) → any f xs ≡ false → Memᴰ x xs → f x ≡ false
any_none f {x} xs e m = refute (f x) (λ t. clash (any_of f xs m t) e)

-- ---- the first of a list

-- what `first` answers
abbrev IsFirst : (ℕ → Bool) → List ℕ → Option ℕ → Type 0
IsFirst f xs none = (x : ℕ) → Memᴰ x xs → f x ≡ false
IsFirst f xs (some x) = Memᴰ x xs × (f x ≡ true)

first_here : (f : ℕ → Bool) (x : ℕ) (xs : List ℕ) → f x ≡ true → first f (x ∷ xs) ≡ some x
unfolding first
first_here f x xs e = rw e

first_later : (f : ℕ → Bool) (x : ℕ) (xs : List ℕ) → f x ≡ false → first f (x ∷ xs) ≡ first f xs
unfolding first
first_later f x xs e = rw e

first_is : (f : ℕ → Bool) (xs : List ℕ) → IsFirst f xs (first f xs)
unfolding first
first_is f [] = λ x m. absurd (Memᴰ.not-nil m)
first_is f (x ∷ xs) = go (f x) refl (first f xs) (first_is f xs)
  where
    go : (b : Bool) → f x ≡ b → (o : Option ℕ) → IsFirst f xs o → IsFirst f (x ∷ xs) (cond b (some x) o)
    go true e o h = (Memᴰ.head refl, e)
    go false e none h = λ y m. ⊎_elim (λ q. rw q e) (h y) (Memᴰ.cases_cons m)
    go false e (some y) h = (Memᴰ.tail h.0, h.1)

pub first_some : (f : ℕ → Bool) (xs : List ℕ) (x : ℕ) → first f xs ≡ some x → Memᴰ x xs × (f x ≡ true)
first_some f xs x e = subst (IsFirst f xs) e (first_is f xs)

pub first_none : (f : ℕ → Bool) (xs : List ℕ) → first f xs ≡ none → (x : ℕ) → Memᴰ x xs → f x ≡ false
first_none f xs e = subst (IsFirst f xs) e (first_is f xs)

-- a narrower test that the first to pass still passes has the same first
pub first_same : (f g : ℕ → Bool) (xs : List ℕ) → ((x : ℕ) → Memᴰ x xs → g x ≡ true → f x ≡ true)
    → ((x : ℕ) → first f xs ≡ some x → g x ≡ true) → first f xs ≡ first g xs
unfolding first
first_same f g [] narrow still = refl
first_same f g (x ∷ xs) narrow still =
    ⊎_elim here (later (first_same f g xs (λ y m. narrow y (Memᴰ.tail m)))) (true_or_false (f x))
  where
    here : f x ≡ true → first f (x ∷ xs) ≡ first g (x ∷ xs)
    here e = first_here f x xs e ∙ sym (first_here g x xs (still x (first_here f x xs e)))

    later : (((y : ℕ) → first f xs ≡ some y → g y ≡ true) → first f xs ≡ first g xs)
        → f x ≡ false → first f (x ∷ xs) ≡ first g (x ∷ xs)
    later below e =
        let q = first_later f x xs e in
        let q' = first_later g x xs (refute (g x) (λ t. clash (narrow x (Memᴰ.head refl) t) e)) in
        q ∙ below (λ y p. still y (q ∙ p)) ∙ sym q'

-- ---- a number or none

pub is_some : (o : Option ℕ) → (o ≡ none → ⊥) → (i : ℕ) × (o ≡ some i)
is_some none h = absurd (h refl)
is_some (some i) h = (i, refl)

pub found_is : (o : Option ℕ) → found o ≡ true → (i : ℕ) × (o ≡ some i)
unfolding found
found_is none e = clash e refl
found_is (some i) e = (i, refl)

pub found_none : (o : Option ℕ) → found o ≡ false → o ≡ none
unfolding found
found_none none e = refl
found_none (some i) e = clash refl e

-- ---- numbers below a bound

-- one more number below the bound
pub below_suc {ℓ} : (Q : ℕ → Type ℓ) (n : ℕ) → ((i : ℕ) → i < n → Q i) → Q n → (i : ℕ) → i < suc n → Q i
below_suc Q n h q i l = go (eq-or-lt_of_le (le_of_suc-le-suc l))
  where
    go : (i ≡ n) ⊎ (i < n) → Q i
    go (inl e) = rw e q
    go (inr k) = h i k

pub every_at : (f : ℕ → Bool) (n : ℕ) → every f n ≡ true → (i : ℕ) → i < n → f i ≡ true
unfolding every
every_at f zero e i l = absurd (not-suc-le-zero l)
every_at f (suc n) e i l =
    let both = and_both (every f n) (f n) e in
    below_suc (λ j. f j ≡ true) n (every_at f n both.0) both.1 i l

pub every_of : (f : ℕ → Bool) (n : ℕ) → ((i : ℕ) → i < n → f i ≡ true) → every f n ≡ true
unfolding every
every_of f zero h = refl
every_of f (suc n) h = and_join (every f n) (f n) (every_of f n (λ i l. h i (omega arith))) (h n (omega arith))

-- one that fails
pub every_fails : (f : ℕ → Bool) (n : ℕ) → every f n ≡ false → (i : ℕ) × (i < n) × (f i ≡ false)
unfolding every
every_fails f zero e = clash refl e
every_fails f (suc n) e =
    ⊎_elim
    (λ h. (n, omega arith, rw h at e))
    (λ h. let (i, l, t) = every_fails f n h in (i, omega arith, t))
    (true_or_false (every f n))

pub exists_at : (f : ℕ → Bool) (n : ℕ) → exists f n ≡ true → (i : ℕ) × (i < n) × (f i ≡ true)
unfolding exists
exists_at f zero e = clash e refl
exists_at f (suc n) e =
    ⊎_elim
    (λ h. let (i, l, t) = exists_at f n h in (i, omega arith, t))
    (λ h. (n, omega arith, h))
    (or_cases (exists f n) (f n) e)

pub exists_of : (f : ℕ → Bool) (n i : ℕ) → i < n → f i ≡ true → exists f n ≡ true
unfolding exists
exists_of f zero i l e = absurd (not-suc-le-zero l)
exists_of f (suc n) i l e =
    ⊎_elim
    (λ q. or_right (exists f n) (f n) (rw q at e))
    (λ k. or_left (exists f n) (f n) (exists_of f n i k e))
    (eq-or-lt_of_le (le_of_suc-le-suc l))

-- what `lowest` answers
abbrev pub IsLowest : (ℕ → Bool) → ℕ → Option ℕ → Type 0
IsLowest f n none = (i : ℕ) → i < n → f i ≡ false
IsLowest f n (some i) = (i < n) × (f i ≡ true) × ((j : ℕ) → j < i → f j ≡ false)

or_else_is : (f : ℕ → Bool) (n : ℕ) (o : Option ℕ) (b : Bool) → f n ≡ b → IsLowest f n o → IsLowest f (suc n) (or_else o b n)
unfolding or_else
or_else_is f n (some i) b e h = (omega (arith, h.0), h.1, h.2)
or_else_is f n none true e h = (omega arith, e, h)
or_else_is f n none false e h = below_suc (λ j. f j ≡ false) n h e

pub lowest_is : (f : ℕ → Bool) (n : ℕ) → IsLowest f n (lowest f n)
unfolding lowest
lowest_is f zero = λ i l. absurd (not-suc-le-zero l)
lowest_is f (suc n) = or_else_is f n (lowest f n) (f n) refl (lowest_is f n)

pub lowest_some : (f : ℕ → Bool) (n i : ℕ) → lowest f n ≡ some i → (i < n) × (f i ≡ true) × ((j : ℕ) → j < i → f j ≡ false)
lowest_some f n i e = subst (IsLowest f n) e (lowest_is f n)

pub lowest_none : (f : ℕ → Bool) (n : ℕ) → lowest f n ≡ none → (i : ℕ) → i < n → f i ≡ false
lowest_none f n e = subst (IsLowest f n) e (lowest_is f n)

-- what passes is not before the first that does
pub not_before : (f : ℕ → Bool) (i j : ℕ) → ((k : ℕ) → k < i → f k ≡ false) → f j ≡ true → i ≤ j
not_before f i j none_yet e =
    ⊎_elim (λ l. clash e (none_yet j (ltb-true j i l))) (ltb-false j i) (true_or_false (ltb j i))

-- there is one answer only
pub lowest_eq : (f : ℕ → Bool) (n : ℕ) (o : Option ℕ) → IsLowest f n o → lowest f n ≡ o
lowest_eq f n o h = same (lowest f n) o (lowest_is f n) h
  where
    same : (p q : Option ℕ) → IsLowest f n p → IsLowest f n q → p ≡ q
    same none none g h' = refl
    same none (some j) g h' = clash h'.1 (g j h'.0)
    same (some i) none g h' = clash g.1 (h' i g.0)
    same (some i) (some j) g h' = ap some (le_antisymm (not_before f i j g.2 h'.1) (not_before f j i h'.2 g.1))

-- ---- how many

-- below n, A is part of B
abbrev pub Part : ℕ → (ℕ → Bool) → (ℕ → Bool) → Type 0
Part n A B = (x : ℕ) → x < n → A x ≡ true → B x ≡ true

pub many_bound : (f : ℕ → Bool) (n : ℕ) → how_many f n ≤ n
unfolding how_many
many_bound f zero = omega arith
many_bound f (suc n) =
    let below : how_many f n ≤ n = many_bound f n in
    ⊎_elim (λ e. rw e (omega arith)) (λ e. rw e (omega arith)) (true_or_false (f n))

-- a set in two parts has as many members as both
pub many_parts : (f g h : ℕ → Bool) (n : ℕ) → ((x : ℕ) → x < n → cond (f x) 1 0 + cond (g x) 1 0 ≡ cond (h x) 1 0)
    → how_many f n + how_many g n ≡ how_many h n
unfolding how_many
many_parts f g h zero both = refl
many_parts f g h (suc n) both = omega (arith, both n (omega arith), many_parts f g h n (λ x l. both x (omega arith)))

module _ (f g : ℕ → Bool) where
  pub many_le : (n : ℕ) → Part n f g → how_many f n ≤ how_many g n
  unfolding how_many
  many_le zero h = omega arith
  many_le (suc n) h =
      let below : how_many f n ≤ how_many g n = many_le n (λ i l. h i (omega arith)) in
      ⊎_elim (λ e. rw e (rw (h n (omega arith) e) (omega arith))) (λ e. rw e (omega arith)) (true_or_false (f n))

  -- a member of the larger set only: it has more
  pub many_lt : (n : ℕ) → Part n f g → (i : ℕ) → i < n → f i ≡ false → g i ≡ true → how_many f n < how_many g n
  unfolding how_many
  many_lt zero h i l e e' = absurd (not-suc-le-zero l)
  many_lt (suc n) h i l e e' = go (λ k. many_lt n (λ j m. h j (omega arith)) i k e e') (eq-or-lt_of_le (le_of_suc-le-suc l))
    where
      go : (i < n → how_many f n < how_many g n) → (i ≡ n) ⊎ (i < n) → cond (f n) 1 0 + how_many f n < cond (g n) 1 0 + how_many g n
      go below (inl q) =
          let le : how_many f n ≤ how_many g n = many_le n (λ j m. h j (omega arith)) in
          rw (rw q at e) (rw (rw q at e') (omega arith))
      go below (inr k) =
          let lt : how_many f n < how_many g n = below k in
          ⊎_elim (λ t. rw t (rw (h n (omega arith) t) (omega arith))) (λ t. rw t (omega arith)) (true_or_false (f n))

  -- a part that has as many is the whole
  pub many_all : (n : ℕ) → Part n f g → how_many g n ≤ how_many f n → Part n g f
  many_all n h le i l e = ⊎_elim (λ t. t) (λ t. absurd (go (many_lt n h i l t e))) (true_or_false (f i))
    where
      go : how_many f n < how_many g n → ⊥
      go lt = omega arith

-- ---- a growing chain of sets

module _ (n : ℕ) (K : ℕ → ℕ → Bool) (grows : (k : ℕ) → Part n (K k) (K (suc k))) where
  -- the step from k adds nothing, or it adds a member
  adds : (k : ℕ) → Part n (K (suc k)) (K k) ⊎ (how_many (K k) n < how_many (K (suc k)) n)
  adds k = go (lowest (λ i. K (suc k) i && not (K k i)) n) refl
    where
      fresh : ℕ → Bool
      fresh i = K (suc k) i && not (K k i)

      old : (i : ℕ) → fresh i ≡ false → K (suc k) i ≡ true → K k i ≡ true
      old i e t = ⊎_elim (λ h. h) (λ h. clash (and_join (K (suc k) i) (not (K k i)) t (rw h)) e) (true_or_false (K k i))

      go : (o : Option ℕ) → lowest fresh n ≡ o → Part n (K (suc k)) (K k) ⊎ (how_many (K k) n < how_many (K (suc k)) n)
      go none e = inl (λ i l. old i (lowest_none fresh n e i l))
      go (some i) e =
          let f = lowest_some fresh n i e in
          let b = and_both (K (suc k) i) (not (K k i)) f.1 in
          inr (many_lt (K k) (K (suc k)) n (grows k) i f.0 (not-true (K k i) b.1) b.0)

  -- some step before k adds nothing, or there are k members more by then
  pub settles : (k : ℕ) → ((j : ℕ) × (j < k) × Part n (K (suc j)) (K j)) ⊎ (how_many (K 0) n + k ≤ how_many (K k) n)
  settles zero = inr (omega arith)
  settles (suc k) =
      ⊎_elim
      (λ t. let (j, l, p) = t in inl (j, omega arith, p))
      (λ c. ⊎_elim (λ p. inl (k, omega arith, p)) (λ l. inr (omega arith)) (adds k))
      (settles k)

  pub settles_by : (j : ℕ) × (j ≤ n) × Part n (K (suc j)) (K j)
  settles_by = ⊎_elim (λ t. (t.0, omega (arith, t.1), t.2)) (λ c. absurd (go c (many_bound (K (suc n)) n))) (settles (suc n))
    where
      go : how_many (K 0) n + suc n ≤ how_many (K (suc n)) n → how_many (K (suc n)) n ≤ n → ⊥
      go a b = omega arith
