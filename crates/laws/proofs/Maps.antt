-- Lists whose members are changed one by one: for outcomes under other numbers.
use mathlib.Core.Path.{◌≡◌, refl, sym, ap, ap₂, ◌∙◌}
use mathlib.Core.Bool.{Bool, ◌||◌}
use mathlib.Core.List.Memᴰ
use mathlib.Core.List.{
  List,
  [],
  ◌∷◌,
  ◌++◌,
  map,
  map-append,
  Memᴰ,
}
use mathlib.Core.Logic.{⊎_elim}
use Prim.Native.Nat.{ℕ, zero, suc, ◌<◌}
use native.Mathlib.Omega.{arith}
use lib.ListN.{length, get_or, length-map}
use Rattle.laws.specs.Sets.{any}
use Rattle.laws.specs.Lists.{tabulate, joined}

module _ {A B : Type 0} (f : A → B) where
  -- the changed member at a place
  pub get_or_map : (l : List A) (i : ℕ) (d : A) (e : B) → i < length l → get_or (map f l) i e ≡ f (get_or l i d)
  get_or_map [] i d e h = absurd (omega arith)
  get_or_map (x ∷ xs) zero d e h = refl
  get_or_map (x ∷ xs) (suc i) d e h = get_or_map xs i d e (omega arith)

  -- changes that agree at the members
  pub map_agree : (g : A → B) (l : List A) → ((x : A) → Memᴰ x l → f x ≡ g x) → map f l ≡ map g l
  map_agree g [] h = refl
  map_agree g (x ∷ xs) h = ap₂ (λ (y : B) (ys : List B). y ∷ ys) (h x (Memᴰ.head refl))
      (map_agree g xs (λ y m. h y (Memᴰ.tail m)))

  -- of members that a rule makes
  pub map_tabulate : (g : ℕ → A) (a k : ℕ) → map f (tabulate g a k) ≡ tabulate (λ i. f (g i)) a k
  unfolding tabulate
  map_tabulate g a zero = refl
  map_tabulate g a (suc k) = ap (λ (r : List B). f (g a) ∷ r) (map_tabulate g (suc a) k)

  -- of lists that stand one after another
  pub joined_map : (ls : List (List A)) → joined (map (map f) ls) ≡ map f (joined ls)
  unfolding joined
  joined_map [] = refl
  joined_map (l ∷ ls) = ap (λ (r : List B). map f l ++ r) (joined_map ls) ∙ sym (map-append f l (joined ls))

  -- lists whose members are changed are as long together
  pub length_joined_map : (ls : List (List A)) → length (joined (map (map f) ls)) ≡ length (joined ls)
  length_joined_map ls = ap length (joined_map ls) ∙ length-map (joined ls) f

-- a changed member comes from a member
pub map_is : {A B : Type 0} (f : A → B) (l : List A) {y : B} → Memᴰ y (map f l) → (x : A) × Memᴰ x l × (y ≡ f x)
map_is f [] m = absurd (Memᴰ.not-nil m)
map_is {A} f (x ∷ xs) {y} m =
    ⊎_elim {C = (z : A) × Memᴰ z (x ∷ xs) × (y ≡ f z)} (λ e. (x, Memᴰ.head refl, e))
    (λ n. let (z, k, e) = map_is f xs n in (z, Memᴰ.tail k, e)) (Memᴰ.cases_cons m)

-- a change that leaves every member as it is
pub map_same : {A : Type 0} (f : A → A) (l : List A) → ((x : A) → Memᴰ x l → f x ≡ x) → map f l ≡ l
map_same {A} f l h = map_agree f (λ x. x) l h ∙ own l
  where
    own : (xs : List A) → map (λ (x : A). x) xs ≡ xs
    own [] = refl
    own (x ∷ xs) = ap (λ (r : List A). x ∷ r) (own xs)

-- some changed member is in K
pub any_map : (K : ℕ → Bool) (f : ℕ → ℕ) (l : List ℕ) → any K (map f l) ≡ any (λ x. K (f x)) l
unfolding any
any_map K f [] = refl
any_map K f (x ∷ xs) = ap (λ (b : Bool). K (f x) || b) (any_map K f xs)
