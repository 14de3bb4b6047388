-- What follows of an answer that is a value: each test on the way held, and each part gave a value.
use mathlib.Core.Path.{◌≡◌, refl, sym, ap}
use mathlib.Core.Bool.{Bool, true, false}
use mathlib.Core.List.{List}
use mathlib.Core.Logic.{◌⊎◌, inl, inr, ◌↔◌}
use Prim.Native.Nat.{ℕ}
use native.Mathlib.Omega.{arith}
use Rattle.model.specs.Refusal.{Refusal, Answer, given, refused, answer, need, ◌>>=◌, ◌>>◌}
use Rattle.model.specs.File.{Tree, read}

pub not_both : {A : Type 0} {r : Refusal} {a : A} → refused r ≡ given a → ⊥
not_both e = let z : ◌≡◌ {A = ℕ} 0 1 = cc in omega arith

pub given_inj : {A : Type 0} {a b : A} → given a ≡ given b → a ≡ b
given_inj e = cc

pub refused_inj : {A : Type 0} {r w : Refusal} → ◌≡◌ {A = Answer A} (refused r) (refused w) → r ≡ w
refused_inj e = cc

module _ {B : Type 0} {b : B} where
  pub need_inv : (r : Refusal) (t : Bool) (x : Answer B) → (need r t >> x) ≡ given b → (t ≡ true) × (x ≡ given b)
  unfolding need ◌>>◌
  need_inv r true x e = (refl, e)
  need_inv r false x e = absurd (not_both e)

  pub then_inv : (u : Answer (Unit {0})) (x : Answer B) → (u >> x) ≡ given b → (u ≡ given tt) × (x ≡ given b)
  unfolding ◌>>◌
  then_inv (given u) x e = (refl, e)
  then_inv (refused r) x e = absurd (not_both e)

  pub bind_inv : {A : Type 0} (x : Answer A) (f : A → Answer B) → (x >>= f) ≡ given b → (a : A) × (x ≡ given a) × (f a ≡ given b)
  unfolding ◌>>=◌
  bind_inv (given a) f e = (a, refl, e)
  bind_inv (refused r) f e = absurd (not_both e)

-- a test on the way held, and what is behind it gave the value
pub need_iff : {B : Type 0} (r : Refusal) (t : Bool) (x : Answer B) (b : B) → ((need r t >> x) ≡ given b) ↔ ((t ≡ true) × (x ≡ given b))
unfolding need ◌>>◌
need_iff r t x b = (need_inv r t x, λ h. rw h.0 h.1)

-- a value that was changed comes from one that was answered
pub answer_inv : {A B : Type 0} (f : A → B) (x : Answer A) (b : B) → answer f x ≡ given b → (a : A) × (x ≡ given a) × (f a ≡ b)
unfolding answer
answer_inv f (given a) b e = (a, refl, given_inj e)
answer_inv f (refused r) b e = absurd (not_both e)

-- and a refusal is the one that was met
pub answer_refused : {A B : Type 0} (f : A → B) (x : Answer A) (r : Refusal) → answer f x ≡ refused r → x ≡ refused r
unfolding answer
answer_refused f (given a) r e = absurd (not_both (sym e))
answer_refused f (refused q) r e = ap refused (refused_inj e)

-- an answer is a value or a refusal
pub which : {A : Type 0} (x : Answer A) → ((a : A) × (x ≡ given a)) ⊎ ((r : Refusal) × (x ≡ refused r))
which (given a) = inl (a, refl)
which (refused r) = inr (r, refl)

-- every list is read: as a tree or as a refusal
pub one_answer : (s : List ℕ) → ((p : Tree) × (read s ≡ given p)) ⊎ ((r : Refusal) × (read s ≡ refused r))
one_answer s = which (read s)
