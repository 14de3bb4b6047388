-- Laws of the least member of a list that passes a test: what it is, that there is one exactly if some member passes, and that in a part of
-- a table whose entries rise it is the first.
use mathlib.Core.Path.{◌≡◌, refl, sym, ap, ap₂, subst}
use mathlib.Core.Bool.{Bool, true, false, not, cond}
use mathlib.Core.Logic.{⊎_elim}
use mathlib.Core.List.Memᴰ
use mathlib.Core.List.{List, [], ◌∷◌, Memᴰ}
use mathlib.Core.Option.{Option, none, some}
use Prim.Native.Nat.{ℕ, ◌<◌, ◌≤◌}
use native.Mathlib.Nat.{le_antisymm}
use native.Mathlib.Decide.{dec_lt}
use native.Mathlib.Omega.{arith}
use lib.Dec.{ltb}
use lib.ListN.{length, get_or}
use lib.Seq.{slice}
use borrow.Author.Tests.{ltb-true, ltb-false, not-true, not-false}
use Rattle.laws.specs.Sets.{any, lesser, least, found}
use Rattle.laws.specs.First.{FirstNot}
use Rattle.laws.specs.Rising.{RisesIn}
use Rattle.laws.proofs.Tests.{clash, same_test}
use Rattle.laws.proofs.Sets.{any_hit, any_of}
use Rattle.laws.proofs.Rising.{rises_along}
use Rattle.laws.proofs.Slices.{slice_at, slice_mem}

-- what `least` answers
abbrev pub IsLeast : (ℕ → Bool) → List ℕ → Option ℕ → Type 0
IsLeast f xs none = (x : ℕ) → Memᴰ x xs → f x ≡ false
IsLeast f xs (some x) = Memᴰ x xs × (f x ≡ true) × ((y : ℕ) → Memᴰ y xs → f y ≡ true → x ≤ y)

module _ (f : ℕ → Bool) where
  -- one member more, which does not pass
  skipped : (x : ℕ) (xs : List ℕ) (o : Option ℕ) → f x ≡ false → IsLeast f xs o → IsLeast f (x ∷ xs) o
  skipped x xs none e h = λ y m. ⊎_elim (λ q. rw q e) (h y) (Memᴰ.cases_cons m)
  skipped x xs (some z) e h = (
    Memᴰ.tail h.0,
    h.1,
    λ y m t. ⊎_elim (λ q. clash t (rw q e)) (λ n. h.2 y n t) (Memᴰ.cases_cons m),
  )

  -- one member more, which passes
  taken : (x : ℕ) (xs : List ℕ) (o : Option ℕ) → f x ≡ true → IsLeast f xs o → IsLeast f (x ∷ xs) (some (lesser x o))
  unfolding lesser
  taken x xs none e h = (
    Memᴰ.head refl,
    e,
    λ y m t. ⊎_elim (λ q. omega arith) (λ n. clash t (h y n)) (Memᴰ.cases_cons m),
  )
  taken x xs (some z) e h = go (ltb z x) refl
    where
      go : (b : Bool) → ltb z x ≡ b → IsLeast f (x ∷ xs) (some (cond b z x))
      go true l = (
        Memᴰ.tail h.0,
        h.1,
        λ y m t. ⊎_elim (λ q. omega (arith, ltb-true z x l)) (λ n. h.2 y n t) (Memᴰ.cases_cons m),
      )
      go false l = (
        Memᴰ.head refl,
        e,
        λ y m t. ⊎_elim (λ q. omega arith) (λ n. omega (arith, ltb-false z x l, h.2 y n t)) (Memᴰ.cases_cons m),
      )

  least_is : (xs : List ℕ) → IsLeast f xs (least f xs)
  unfolding least
  least_is [] = λ x m. absurd (Memᴰ.not-nil m)
  least_is (x ∷ xs) = go (f x) refl (least f xs) (least_is xs)
    where
      go : (b : Bool) → f x ≡ b → (o : Option ℕ) → IsLeast f xs o → IsLeast f (x ∷ xs) (cond b (some (lesser x o)) o)
      go true e o h = taken x xs o e h
      go false e o h = skipped x xs o e h

  pub least_some : (xs : List ℕ) (x : ℕ) → least f xs ≡ some x
      → Memᴰ x xs × (f x ≡ true) × ((y : ℕ) → Memᴰ y xs → f y ≡ true → x ≤ y)
  least_some xs x e = subst (IsLeast f xs) e (least_is xs)

  pub least_none : (xs : List ℕ) → least f xs ≡ none → (x : ℕ) → Memᴰ x xs → f x ≡ false
  least_none xs e = subst (IsLeast f xs) e (least_is xs)

  -- and nothing else is the least
  pub least_eq : (xs : List ℕ) (o : Option ℕ) → IsLeast f xs o → least f xs ≡ o
  least_eq xs o h = go (least f xs) o (least_is xs) h
    where
      go : (p q : Option ℕ) → IsLeast f xs p → IsLeast f xs q → p ≡ q
      go none none a b = refl
      go none (some y) a b = clash b.1 (a y b.0)
      go (some x) none a b = clash a.1 (b x a.0)
      go (some x) (some y) a b = ap some (le_antisymm (a.2 y b.0 b.1) (b.2 x a.0 a.1))

  -- there is one exactly if some member passes
  pub found_least : (xs : List ℕ) → found (least f xs) ≡ any f xs
  unfolding found
  found_least xs = go (least f xs) refl
    where
      go : (o : Option ℕ) → least f xs ≡ o → found o ≡ any f xs
      go none e = same_test false (any f xs) (λ t. clash t refl)
          (λ t. let (x, m, h) = any_hit f xs t in clash h (least_none xs e x m))
      go (some x) e = let (m, h, low) = least_some xs x e in sym (any_of f xs m h)

-- tests that agree on the members have the same least
pub least_same : (f g : ℕ → Bool) (xs : List ℕ) → ((x : ℕ) → Memᴰ x xs → f x ≡ g x) → least f xs ≡ least g xs
unfolding least
least_same f g [] h = refl
least_same f g (x ∷ xs) h =
    ap₂ (λ (b : Bool) (o : Option ℕ). cond b (some (lesser x o)) o) (h x (Memᴰ.head refl))
    (least_same f g xs (λ y m. h y (Memᴰ.tail m)))

-- ---- in a part of a table

-- the first place whose entry passes has the least
module _ (f : ℕ → Bool) (l : List ℕ) (a e r : ℕ) (p : a ≤ e) (long : e ≤ length l) (v : FirstNot (λ i. not (f (get_or l i 0))) a e r) where
  passed_over : (i : ℕ) → a ≤ i → i < r → f (get_or l i 0) ≡ false
  passed_over i h k = not-true (f (get_or l i 0)) (v.before i h k)

  pub least_first : RisesIn l a e → r < e → least f (slice a e l) ≡ some (get_or l r 0)
  least_first rise h =
      least_eq f (slice a e l) (some (get_or l r 0))
      (slice_mem l e long a r v.since h, not-false (f (get_or l r 0)) (v.stops h), below)
    where
      below : (y : ℕ) → Memᴰ y (slice a e l) → f y ≡ true → get_or l r 0 ≤ y
      below y m t = let (i, g, k, q) = slice_at l e long a y p m in go i g k q (dec_lt i r)
        where
          go : (i : ℕ) → a ≤ i → i < e → get_or l i 0 ≡ y → Dec (i < r) → get_or l r 0 ≤ y
          go i g k q (yes b) = clash t (rw q at (passed_over i g b))
          go i g k q (no b) = rw (← q) (rises_along rise r i v.since (omega arith) k)

  pub least_missing : e ≤ r → least f (slice a e l) ≡ none
  least_missing h = least_eq f (slice a e l) none
      (λ y m. let (i, g, k, q) = slice_at l e long a y p m in rw (← q) (passed_over i g (omega arith)))
