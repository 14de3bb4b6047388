-- When trimming answers, when it refuses and with what.
use mathlib.Core.Path.{◌≡◌, ap}
use mathlib.Core.Bool.{true, false, ◌&&◌}
use mathlib.Core.Logic.{◌⊎◌, inl, inr, ⊎_elim, ◌↔◌}
use Prim.Native.Nat.{ℕ, ◌<◌, ◌≤◌}
use lib.Dec.{leb}
use borrow.Author.Tests.{leb-false}
use Rattle.laws.proofs.TestFacts.{and_iff, leb_iff}
use Rattle.laws.proofs.Tests.{and_false_left}
use Rattle.model.specs.Refusal.{Refusal, Cramped, Unsound, given, refused, need, ◌>>◌}
use Rattle.model.specs.File.{Tree}
use Rattle.model.specs.Tables.{Size, Tables, enough}
use Rattle.model.specs.SoundTest.{sound}
use Rattle.model.specs.Held.{tree_of}
use Rattle.model.specs.Trim.{trimmed, trim_room, trimming}
use Rattle.model.proofs.Answers.{given_inj, need_iff}
use Rattle.model.proofs.Answering.{enough_iff}
use Rattle.model.proofs.OnlyRefused.{either, need_refused, last_refused, three_short}
use Rattle.model.proofs.Refusing.{last_short, plan_short}

-- room for a plan of size z, trimmed from one of n states
module _ (z : Size) (n rows firsts outcomes olds scratch : ℕ) where
  -- which of the tables has too few places
  abbrev pub TrimShort : Type 0
  TrimShort = ((rows < z.n) ⊎ ((firsts < z.m) ⊎ (outcomes < z.t))) ⊎ ((olds < z.n) ⊎ (scratch < n))

  short_refused : (trim_room z n rows firsts outcomes olds scratch ≡ false) ↔ TrimShort
  short_refused =
      let plan = enough z rows firsts outcomes in
      let long_olds = leb z.n olds in
      let long_scratch = leb n scratch in (
        λ e.
            ⊎_elim
            (λ f. ⊎_elim (λ h. inl (three_short z.n rows z.m firsts z.t outcomes h)) (λ h. inr (inl (leb-false z.n olds h)))
            (either plan long_olds f))
            (λ h. inr (inr (leb-false n scratch h)))
            (either (plan && long_olds) long_scratch e),
        ⊎_elim
            (λ s. and_false_left (plan && long_olds) long_scratch (and_false_left plan long_olds (plan_short z rows firsts outcomes s)))
            (⊎_elim (λ l. and_false_left (plan && long_olds) long_scratch (last_short plan z.n olds l))
            (λ l. last_short (plan && long_olds) n scratch l)),
      )

pub record TrimAnswers (T : Tables) (rows firsts outcomes olds scratch : ℕ) (p : Tree) : Type 0 where
  pub sounds : sound T ≡ true
  pub long_rows : (trimmed (tree_of T)).size.n ≤ rows
  pub long_firsts : (trimmed (tree_of T)).size.m ≤ firsts
  pub long_outcomes : (trimmed (tree_of T)).size.t ≤ outcomes
  pub long_olds : (trimmed (tree_of T)).size.n ≤ olds
  pub long_scratch : T.size.n ≤ scratch
  pub is : tree_of T ≡ p

module _ (T : Tables) (rows firsts outcomes olds scratch : ℕ) where
  pub trimming_iff : (p : Tree)
      → (trimming T rows firsts outcomes olds scratch ≡ given p) ↔ TrimAnswers T rows firsts outcomes olds scratch p
  unfolding trimming
  trimming_iff p = (
    λ e.
        let (s, f) = (need_iff _ _ _ _).0 e in
        let (l, q) = (need_iff _ _ _ _).0 f in
        let (h, long_scratch) = (and_iff _ _).0 l in
        let (g, long_olds) = (and_iff _ _).0 h in
        let long = (enough_iff (trimmed (tree_of T)).size rows firsts outcomes).0 g in
        record {
          sounds = s;
          long_rows = long.0.0;
          long_firsts = long.0.1;
          long_outcomes = long.1;
          long_olds = (leb_iff _ _).0 long_olds;
          long_scratch = (leb_iff _ _).0 long_scratch;
          is = given_inj q;
        },
    λ h.
        let long = (enough_iff (trimmed (tree_of T)).size rows firsts outcomes).1 ((h.long_rows, h.long_firsts), h.long_outcomes) in
        let room = (and_iff _ _).1 ((and_iff _ _).1 (long, (leb_iff _ _).1 h.long_olds), (leb_iff _ _).1 h.long_scratch) in
        (need_iff _ _ _ _).1 (h.sounds, (need_iff _ _ _ _).1 (room, ap given h.is)),
  )

  -- a plan that is not sound is refused before all else
  pub trimming_unsound : sound T ≡ false → trimming T rows firsts outcomes olds scratch ≡ refused Unsound
  unfolding trimming need ◌>>◌
  trimming_unsound e = rw e

  pub trimming_cramped : sound T ≡ true → TrimShort (trimmed (tree_of T)).size T.size.n rows firsts outcomes olds scratch
      → trimming T rows firsts outcomes olds scratch ≡ refused Cramped
  unfolding trimming need ◌>>◌
  trimming_cramped e h = rw (e, (short_refused (trimmed (tree_of T)).size T.size.n rows firsts outcomes olds scratch).1 h)

  -- a refusal comes only under its condition
  pub trimming_only : (r : Refusal) → trimming T rows firsts outcomes olds scratch ≡ refused r
      → ((sound T ≡ false) × (r ≡ Unsound))
      ⊎ ((sound T ≡ true) × TrimShort (trimmed (tree_of T)).size T.size.n rows firsts outcomes olds scratch × (r ≡ Cramped))
  unfolding trimming
  trimming_only r e =
      ⊎_elim inl (λ h.
      let (t, w) = last_refused Cramped r _ _ h.1 in
      inr (h.0, (short_refused (trimmed (tree_of T)).size T.size.n rows firsts outcomes olds scratch).0 t, w))
      (need_refused Unsound r _ _ e)
