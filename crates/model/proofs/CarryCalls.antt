-- When carrying back answers, when it refuses and with what.
use mathlib.Core.Path.{◌≡◌, ap}
use mathlib.Core.Bool.{true, false, ◌&&◌}
use mathlib.Core.Logic.{◌⊎◌, inl, inr, ⊎_elim, ◌↔◌}
use mathlib.Core.List.{List}
use Prim.Native.Nat.{ℕ, suc, ◌-◌, ◌<◌, ◌≤◌}
use native.Mathlib.Omega.{arith}
use lib.Dec.{leb, ltb}
use lib.ListN.{length, get_or}
use borrow.Author.Tests.{leb-false, ltb-false, lt-leb}
use Rattle.laws.specs.Sets.{every}
use Rattle.laws.proofs.Sets.{every_fails}
use Rattle.laws.proofs.Rising.{rises}
use Rattle.laws.proofs.TestFacts.{and_iff, every_iff, leb_iff}
use Rattle.laws.proofs.Tests.{clash, true_or_false, refute}
use Rattle.model.specs.Refusal.{Refusal, Cramped, Unsound, given, refused, need, ◌>>◌}
use Rattle.model.specs.File.{max_states}
use Rattle.model.specs.Carry.{carried, CarryUnsound, carry_sound, carrying}
use Rattle.model.proofs.Answers.{given_inj, need_iff}
use Rattle.model.proofs.OnlyRefused.{either, need_refused, last_refused}

-- what the test says
pub record CarrySound (n : ℕ) (olds : List ℕ) (entries : ℕ) : Type 0 where
  pub some : 1 ≤ n
  pub few : n ≤ max_states
  pub next : (i : ℕ) → i < length olds - 1 → get_or olds i 0 < get_or olds (suc i) 0
  pub below : (i : ℕ) → i < length olds → get_or olds i 0 < n
  pub long : length olds ≤ entries

module _ (n : ℕ) (olds : List ℕ) (entries : ℕ) where
  pub carry_sound_iff : (carry_sound n olds entries ≡ true) ↔ CarrySound n olds entries
  unfolding carry_sound
  carry_sound_iff = (
    λ e.
        let h = simp (and_iff, every_iff, leb_iff) at e in
        record { some = h.0.0.0.0; few = h.0.0.0.1; next = h.0.0.1; below = h.0.1; long = h.1 },
    λ f. simp (and_iff, every_iff, leb_iff) ((((f.some, f.few), f.next), f.below), f.long),
  )

  -- no two entries of the map are the same
  pub map_rise : CarrySound n olds entries → (i j : ℕ) → i < j → j < length olds → get_or olds i 0 < get_or olds j 0
  map_rise f i j h l =
      let up : get_or olds (suc i) 0 ≤ get_or olds j 0
      = rises (λ k. get_or olds k 0) (length olds - 1) (λ k m. omega (arith, f.next k m)) (suc i) j h (omega arith) in
      omega (arith, f.next i (omega arith))

  -- what does not fit is one of the things that refusal 10 is for
  pub carry_unsound_iff : (carry_sound n olds entries ≡ false) ↔ CarryUnsound n olds entries
  unfolding carry_sound
  carry_unsound_iff = (
    λ e. ⊎_elim (λ f. ⊎_elim (λ g. ⊎_elim (λ h. inl (numbers h)) (λ h. inr (inl (unsorted h))) (either _ _ g))
        (λ g. inr (inr (inl (strange g)))) (either _ _ f))
        (λ f. inr (inr (inr (leb-false (length olds) entries f)))) (either _ _ e),
    λ m. refute _ (λ e. apart (carry_sound_iff.0 e) m),
  )
    where
      numbers : (leb 1 n && leb n max_states) ≡ false → (n ≡ 0) ⊎ (max_states < n)
      numbers h = ⊎_elim (λ k. inl (omega (arith, leb-false 1 n k))) (λ k. inr (leb-false n max_states k)) (either (leb 1 n) (leb n max_states) h)

      unsorted : every (λ i. ltb (get_or olds i 0) (get_or olds (suc i) 0)) (length olds - 1) ≡ false
          → (i : ℕ) × (suc i < length olds) × (get_or olds (suc i) 0 ≤ get_or olds i 0)
      unsorted h =
          let (i, l, t) = every_fails _ (length olds - 1) h in
          (i, omega arith, omega (arith, ltb-false (get_or olds i 0) (get_or olds (suc i) 0) t))

      strange : every (λ i. ltb (get_or olds i 0) n) (length olds) ≡ false → (i : ℕ) × (i < length olds) × (n ≤ get_or olds i 0)
      strange h = let (i, l, t) = every_fails _ (length olds) h in (i, l, omega (arith, ltb-false (get_or olds i 0) n t))

      apart : CarrySound n olds entries → CarryUnsound n olds entries → ⊥
      apart f =
          ⊎_elim (⊎_elim (λ e. omega (arith, f.some)) (λ l. omega (arith, f.few)))
          (⊎_elim (λ (i, l, t). omega (arith, f.next i (omega arith)))
          (⊎_elim (λ (i, l, t). omega (arith, f.below i l)) (λ l. omega (arith, f.long))))

  pub sound_unless : (CarryUnsound n olds entries → ⊥) → carry_sound n olds entries ≡ true
  sound_unless h = ⊎_elim (λ e. e) (λ e. absurd (h (carry_unsound_iff.0 e))) (true_or_false (carry_sound n olds entries))

  pub sound_not : carry_sound n olds entries ≡ true → CarryUnsound n olds entries → ⊥
  sound_not e m = clash e (carry_unsound_iff.1 m)

module _ (n : ℕ) (olds table : List ℕ) (places : ℕ) where
  pub carrying_iff : (xs : List ℕ)
      → (carrying n olds table places ≡ given xs) ↔ ((carry_sound n olds (length table) ≡ true) × (n ≤ places) × (carried n olds table ≡ xs))
  unfolding carrying
  carrying_iff xs = (
    λ e.
        let (f, g) = (need_iff _ _ _ _).0 e in
        let (l, q) = (need_iff _ _ _ _).0 g in
        (f, (leb_iff _ _).0 l, given_inj q),
    λ (f, l, q). (need_iff _ _ _ _).1 (f, (need_iff _ _ _ _).1 ((leb_iff _ _).1 l, ap given q)),
  )

  -- what does not fit is refused before all else
  pub carrying_unsound : carry_sound n olds (length table) ≡ false → carrying n olds table places ≡ refused Unsound
  unfolding carrying need ◌>>◌
  carrying_unsound e = rw e

  pub carrying_cramped : carry_sound n olds (length table) ≡ true → places < n → carrying n olds table places ≡ refused Cramped
  unfolding carrying need ◌>>◌
  carrying_cramped e l = rw (e, lt-leb n places l)

  -- a refusal comes only under its condition
  pub carrying_only : (r : Refusal) → carrying n olds table places ≡ refused r
      → ((carry_sound n olds (length table) ≡ false) × (r ≡ Unsound)) ⊎ ((carry_sound n olds (length table) ≡ true) × (places < n) × (r ≡ Cramped))
  unfolding carrying
  carrying_only r e =
      ⊎_elim inl (λ h. let (t, w) = last_refused Cramped r _ _ h.1 in inr (h.0, leb-false n places t, w))
      (need_refused Unsound r _ _ e)
