-- Calls that are lent a plan, are told a state of it, and have one test of their own after those of the plan and the state: the search,
-- the contest and the warning time. When they answer, when they refuse and with what.
use mathlib.Core.Path.{◌≡◌, refl, sym, ap, ◌∙◌}
use mathlib.Core.Bool.{Bool, true, false, not, ◌&&◌}
use mathlib.Core.Logic.{◌⊎◌, inl, inr, ⊎_elim, ◌↔◌}
use Prim.Native.Nat.{ℕ, ◌<◌, ◌≤◌}
use lib.Dec.{leb, ltb}
use borrow.Author.Tests.{le-ltb, lt-ltb, ltb-true, ltb-false, not-true, not-false}
use Rattle.laws.proofs.TestFacts.{leb_iff}
use Rattle.model.specs.Search.{search}
use Rattle.model.specs.Refusal.{Refusal, Cramped, Unsound, Stranger, Answer, given, refused, need, ◌>>◌}
use Rattle.model.specs.Tables.{Tables}
use Rattle.model.specs.SoundTest.{sound}
use Rattle.model.specs.Held.{plan_in}
use Rattle.model.specs.Calls.{searching}
use Rattle.model.proofs.Answers.{given_inj, need_iff}
use Rattle.model.proofs.OnlyRefused.{need_refused, last_refused}

module _ {A : Type 0} (T : Tables) (s : ℕ) (own : Refusal) (test : Bool) (a : A) where
  abbrev pub state_call : Answer A
  state_call = do
    need Unsound (sound T)
    need Stranger (ltb s T.size.n)
    need own test
    given a

  pub state_given : (v : A) → (state_call ≡ given v) ↔ ((sound T ≡ true) × (s < T.size.n) × (test ≡ true) × (a ≡ v))
  state_given v = (
    λ e.
        let (b, f) = (need_iff _ _ _ _).0 e in
        let (c, g) = (need_iff _ _ _ _).0 f in
        let (d, q) = (need_iff _ _ _ _).0 g in
        (b, (leb_iff _ _).0 c, d, given_inj q),
    λ (b, c, d, q). (need_iff _ _ _ _).1 (b, (need_iff _ _ _ _).1 ((leb_iff _ _).1 c, (need_iff _ _ _ _).1 (d, ap given q))),
  )

  -- a refusal comes only under its condition
  pub state_only : (r : Refusal) → state_call ≡ refused r
      → ((sound T ≡ false) × (r ≡ Unsound))
      ⊎ (((sound T ≡ true) × (T.size.n ≤ s) × (r ≡ Stranger)) ⊎ ((sound T ≡ true) × (s < T.size.n) × (test ≡ false) × (r ≡ own)))
  state_only r e =
      ⊎_elim inl (λ h. inr (⊎_elim (λ m. inl (h.0, ltb-false s T.size.n m.0, m.1)) (λ m.
      let (t, w) = last_refused own r _ _ m.1 in
      inr (h.0, ltb-true s T.size.n m.0, t, w))
      (need_refused Stranger r _ _ h.1)))
      (need_refused Unsound r _ _ e)

  -- and under it that refusal comes
  pub state_unsound : sound T ≡ false → state_call ≡ refused Unsound
  unfolding need ◌>>◌
  state_unsound e = rw e

  pub state_stranger : sound T ≡ true → T.size.n ≤ s → state_call ≡ refused Stranger
  unfolding need ◌>>◌
  state_stranger e h = rw (e, le-ltb s T.size.n h)

  pub state_own : sound T ≡ true → s < T.size.n → test ≡ false → state_call ≡ refused own
  unfolding need ◌>>◌
  state_own e l h = rw (e, lt-ltb s T.size.n l, h)

  -- the same as code tests it: t says whether the plan is sound, and n how many states it has
  module _ {t : Bool} {n : ℕ} where
    pub denies_unsound : not t ≡ true → t ≡ sound T → n ≡ T.size.n → state_call ≡ refused Unsound
    denies_unsound h e q = state_unsound (sym e ∙ not-true t h)

    module _ (h : not t ≡ false) where
      pub denies_stranger : n ≤ s → t ≡ sound T → n ≡ T.size.n → state_call ≡ refused Stranger
      denies_stranger l e q = state_stranger (sym e ∙ not-false t h) (rw (← q) l)

      pub denies_own : s < n → test ≡ false → t ≡ sound T → n ≡ T.size.n → state_call ≡ refused own
      denies_own l f e q = state_own (sym e ∙ not-false t h) (rw (← q) l) f

      pub grants : s < n → test ≡ true → t ≡ sound T → n ≡ T.size.n → state_call ≡ given a
      grants l f e q = (state_given a).1 (sym e ∙ not-false t h, rw (← q) l, f, refl)

-- the search, whose own test is of room
abbrev pub room_test : Tables → ℕ → ℕ → Bool
room_test T commands scratch = leb T.size.n commands && leb T.size.n scratch

pub searching_tests : (T : Tables) (start commands scratch : ℕ)
    → searching T start commands scratch ≡ state_call T start Cramped (room_test T commands scratch) (search (plan_in T) start)
unfolding searching
searching_tests T start commands scratch = refl

-- ---- the contract of a call that is lent nothing to write: its answer is that of the definition, and what it means follows

module _ {R A : Type 0} (answer_of : R → Answer A) (call : Answer A) (Means : A → Type 0) where
  abbrev pub Replied : R → Type 0
  Replied r = (answer_of r ≡ call) × ((a : A) → answer_of r ≡ given a → Means a)

  pub replied : ((a : A) → call ≡ given a → Means a) → (r : R) → answer_of r ≡ call → Replied r
  replied means r e = (e, λ a q. means a (sym e ∙ q))
