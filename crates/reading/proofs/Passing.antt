-- Answers that are changed and passed on.
use mathlib.Core.Path.{◌≡◌, refl, sym, ap, ◌∙◌}
use mathlib.Core.List.{List}
use Prim.Native.Nat.{ℕ}
use Rattle.std.specs.Prelude.{Result, Ok, Err}
use Rattle.model.specs.Refusal.{Refusal as ModelRefusal, Answer, given, refused, answer, ◌>>=◌}
use Rattle.model.proofs.Answers.{given_inj, not_both}
use Rattle.tables.specs.Meaning.{refusal_of}
use Rattle.tables.specs.declared.Refusal.{Refusal}
use Rattle.reading.specs.declared.bytes.Mark.{Mark}
use Rattle.reading.specs.Meaning.{bytes_from, passed_of, Within, Walks}

pub answer_inv : {A B : Type 0} {b : B} (f : A → B) (x : Answer A) → answer f x ≡ given b → (a : A) × (x ≡ given a) × (f a ≡ b)
unfolding answer
answer_inv f (given a) e = (a, refl, given_inj e)
answer_inv f (refused r) e = absurd (not_both e)

pub refused_inv : {A B : Type 0} {r : ModelRefusal} (f : A → B) (x : Answer A) → answer f x ≡ refused r → x ≡ refused r
unfolding answer
refused_inv f (given a) e = absurd (not_both (sym e))
refused_inv f (refused q) e = cc

module _ {file : List ℕ} where
  pub refuses : (r : Refusal) {x : Answer (ℕ × ℕ × List ℕ)} → refused (refusal_of r) ≡ x → Walks file (Err r) x
  refuses r e = record { answers = e; stays = tt }

  -- what is known of a mark that was passed to
  pub went : {k : Mark} {x : Answer (ℕ × ℕ × List ℕ)} → Walks file (Ok k) x → (x ≡ given (k.m, k.t, bytes_from file k)) × Within file k
  went w = (sym w.answers, w.stays)

  -- a refusal ends the reading
  pub ends : {f : Result Mark Refusal} {r : Refusal} {A B : Type 0} (g : A → ℕ × ℕ × List ℕ) (x : Answer A) (h : B → ℕ × ℕ × List ℕ)
      (next : A → Answer B)
      → f ≡ Err r → Walks file f (answer g x) → Walks file f (answer h (x >>= next))
  unfolding answer ◌>>=◌
  ends g (given a) h next told w = absurd (not_both (sym (ap (passed_of file) told) ∙ w.answers))
  ends g (refused r) h next told w = w
