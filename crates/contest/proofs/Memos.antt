-- What is known of a turn by the memo, and what the memo has after a turn was worked out.
use mathlib.Core.Path.{◌≡◌, refl, sym, ap, ◌∙◌}
use mathlib.Core.Bool.{Bool, true, false}
use mathlib.Core.Logic.{◌⊎◌, inl, inr, ⊎_elim}
use mathlib.Core.List.{List}
use Prim.Native.Nat.{ℕ, ◌*◌, ◌<◌, ◌≤◌}
use native.Mathlib.Omega.{arith}
use lib.Dec.{eqb}
use lib.ListN.{get_or, set, replicate, length-set, length-replicate, get_or-replicate}
use lib.Seq.{get_or-set_same, get_or-set_other}
use borrow.Author.Tests.{eqb-true, eqb-false}
use Rattle.std.specs.Prelude.{Option, None, Some}
use Rattle.laws.proofs.Tests.{true_or_false}
use Rattle.model.specs.Plan.{Plan}
use Rattle.model.specs.Contest.{keeper_turn, max_moves}
use Rattle.contest.specs.Memo.{memo_place, kept, Told, Remembers, Knows}

-- what the memo says of a turn
pub told_turn : {P : Plan} {n : ℕ} {memo : List (Option Bool)} → Told P n memo → (s k : ℕ) → s < n → k ≤ max_moves
    → (held : Bool) (place : ℕ) → place ≡ memo_place s k → get_or memo place None ≡ Some held → held ≡ keeper_turn P k s
told_turn {P} {n} {memo} w s k l m held place p e =
    let said : kept memo s k ≡ Some held = rw p at e in
    ⊎_elim (λ z. cc (z, said)) (λ z. cc (z, said)) (w.told s k l m)

-- nothing is known by a memo of nones
pub none_told : (P : Plan) (n places : ℕ) → 9 * n ≤ places → Told P n (replicate places None)
none_told P n places h = record {
  long = omega (arith, length-replicate {A = Option Bool} places None);
  told = λ s k l m. inl (get_or-replicate places (memo_place s k) None None (omega arith));
}

-- ---- what becomes of the memo

pub remembers_all : {P : Plan} {n : ℕ} {memo : List (Option Bool)} → Told P n memo → Remembers P n memo memo
remembers_all w = record { told = w; same = refl; keeps = λ i z. z }

pub remembers_then : {P : Plan} {n : ℕ} {memo₀ memo memo' : List (Option Bool)} → Remembers P n memo₀ memo → Remembers P n memo memo'
    → Remembers P n memo₀ memo'
remembers_then v w = record { told = w.told; same = w.same ∙ v.same; keeps = λ i z. v.keeps i (w.keeps i z) }

-- one more turn is told: its place is no other's
module _ {P : Plan} {n : ℕ} {memo₀ memo : List (Option Bool)} (v : Remembers P n memo₀ memo) (s k : ℕ) (held : Bool)
    (l : s < n) (m : k ≤ max_moves) (is : held ≡ keeper_turn P k s) where
  abbrev more : List (Option Bool)
  more = set memo (memo_place s k) (Some held)

  stored : kept more s k ≡ Some held
  stored = get_or-set_same memo (memo_place s k) (Some held) None (omega (arith, v.told.long))

  known : kept more s k ≡ Some (keeper_turn P k s)
  known = stored ∙ ap (λ (b : Bool). Some b) is

  other : (i : ℕ) → eqb i (memo_place s k) ≡ false → get_or more i None ≡ get_or memo i None
  other i e = get_or-set_other memo (memo_place s k) i (Some held) None (eqb-false i (memo_place s k) e)

  told_at : (t j : ℕ) → t < n → j ≤ max_moves → (eqb (memo_place t j) (memo_place s k) ≡ true) ⊎ (eqb (memo_place t j) (memo_place s k) ≡ false)
      → (kept more t j ≡ None) ⊎ (kept more t j ≡ Some (keeper_turn P j t))
  told_at t j p q (inl e) =
      let place = eqb-true (memo_place t j) (memo_place s k) e in
      let same : t ≡ s = omega arith in
      let moves : j ≡ k = omega arith in
      inr (rw (same, moves) known)
  told_at t j p q (inr e) = rw (other (memo_place t j) e) (v.told.told t j p q)

  stays : (i : ℕ) → get_or more i None ≡ None → (eqb i (memo_place s k) ≡ true) ⊎ (eqb i (memo_place s k) ≡ false) → get_or memo i None ≡ None
  stays i z (inl e) = let none : kept more s k ≡ None = rw (eqb-true i (memo_place s k) e) at z in cc (none, stored)
  stays i z (inr e) = sym (other i e) ∙ z

  pub remembers_more : (place : ℕ) → place ≡ memo_place s k → (memo' : List (Option Bool)) → memo' ≡ set memo place (Some held)
      → Remembers P n memo₀ memo' × Knows P memo' s k
  remembers_more place p memo' e = rw (e, p) (
    record {
      told = record {
        long = omega (arith, v.told.long, length-set memo (memo_place s k) (Some held));
        told = λ t j p q. told_at t j p q (true_or_false (eqb (memo_place t j) (memo_place s k)));
      };
      same = length-set memo (memo_place s k) (Some held) ∙ v.same;
      keeps = λ i z. v.keeps i (stays i z (true_or_false (eqb i (memo_place s k))));
    },
    known,
  )
