-- Bytes of a list: those of each member, one after another.
use mathlib.Core.Path.{◌≡◌, refl, sym}
use mathlib.Core.List.{List, [], ◌∷◌, ◌++◌, append_assoc}
use Prim.Native.Nat.{ℕ}
use Rattle.laws.specs.Entry.{twos}

-- g xs r has the bytes of xs in front of r
pub record Spread {A : Type 0} (g : List A → List ℕ → List ℕ) : Type 0 where
  pub none : (r : List ℕ) → g [] r ≡ r
  pub more : (x : A) (xs : List A) (r : List ℕ) → g (x ∷ xs) r ≡ g (x ∷ []) [] ++ g xs r

pub front : {A : Type 0} {g : List A → List ℕ → List ℕ} → Spread g → (xs : List A) (r : List ℕ) → g xs r ≡ g xs [] ++ r
front p [] r = rw (p.none r, p.none [])
front {g = g} p (x ∷ xs) r =
    rw (p.more x xs r, p.more x xs [], front p xs r) (sym (append_assoc (g (x ∷ []) []) (g xs []) r))

pub twos_spread : Spread twos
unfolding twos
twos_spread = record { none = λ r. refl; more = λ x xs r. refl }

-- bytes as they are
pub bytes_spread : Spread (λ (xs r : List ℕ). xs ++ r)
bytes_spread = record { none = λ r. refl; more = λ x xs r. refl }
