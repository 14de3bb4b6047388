-- What is stored of a search, and where there is room for it.
use mathlib.Core.Path.{◌≡◌, refl, ◌∙◌}
use mathlib.Core.Bool.{Bool, true, false, cond}
use mathlib.Core.List.{List, [], ◌++◌}
use Prim.Native.Nat.{ℕ, ◌*◌, ◌≤◌}
use native.Mathlib.Omega.{arith}
use lib.ListN.{length}
use mir.Val.{bool_byte}
use Rattle.laws.specs.Entry.{two, twos}
use Rattle.laws.specs.Lists.{overwrite}
use Rattle.laws.specs.Writes.{put_all}
use Rattle.laws.proofs.TestFacts.{and_iff, leb_iff}
use Rattle.laws.proofs.Writes.{put_then, put_front}
use Rattle.model.specs.Refusal.{Refusal as ModelRefusal, Cramped, Answer, given, refused, number, need, ◌>>=◌, ◌>>◌}
use Rattle.model.specs.Calls.{left}
use Rattle.model.specs.Boundary.{entry_bytes, bytes_for, result_entries, code, answer_bytes, AfterGateSearch}
use Rattle.model.proofs.Gates.{refused_code, refused_left, given_code, given_left}
use Rattle.model.specs.Rooms.{search_room}
use Rattle.gate_searching.specs.Delivery.{after_gate_search, delivery}

-- what C is told
pub told_given : code {A = Unit {0}} (given tt) ≡ 0
unfolding code
told_given = refl

pub told_refused : (r : ModelRefusal) → code {A = Unit {0}} (refused r) ≡ number r
unfolding code
told_refused r = refl

-- what a call that answers x returns and leaves, where f, g and h give what an answer writes
module _ {A : Type 0} (x : Answer A) (f g h : A → List ℕ) (C X L : List ℕ) where
  abbrev pub after_answer : AfterGateSearch
  after_answer = record { returns = code x; commands = left f x C; scratch = left g x X; answer = left h x L }

  pub refused_after : {r : ModelRefusal} → x ≡ refused r → after_gate_search (code {A = Unit {0}} (refused r)) C X L ≡ after_answer
  refused_after {r} e = λ i. record {
    returns = refused_code e (told_refused r) i;
    commands = refused_left e f C i;
    scratch = refused_left e g X i;
    answer = refused_left e h L i;
  }

  pub given_after : {a : A} → x ≡ given a → {C' X' L' : List ℕ} → C' ≡ overwrite (f a) C → X' ≡ overwrite (g a) X → L' ≡ overwrite (h a) L
      → after_gate_search (code {A = Unit {0}} (given tt)) C' X' L' ≡ after_answer
  given_after e c s l = λ i. record {
    returns = (told_given ∙ given_code e) i;
    commands = given_left e f C c i;
    scratch = given_left e g X s i;
    answer = given_left e h L l i;
  }

-- a verdict as a number
pub flag_told : (lost : Bool) → bool_byte lost ≡ cond lost 1 0
flag_told true = refl
flag_told false = refl

pub found_stored : (v : Bool × ℕ) (l₀ : List ℕ) {l₁ l₂ : List ℕ} → answer_bytes ≤ length l₀ → l₁ ≡ put_all l₀ 0 (two (cond v.0 1 0) [])
    → l₂ ≡ put_all l₁ 2 (two v.1 [])
    → l₂ ≡ overwrite (bytes_for (result_entries v)) l₀
unfolding twos result_entries
found_stored v l₀ h p q =
    let lost : List ℕ = two (cond v.0 1 0) [] in
    let rounds : List ℕ = two v.1 [] in
    put_then l₀ 0 lost rounds p q refl ∙ put_front l₀ (lost ++ rounds) h

module _ (n c x a : ℕ) where
  pub not_found : (r : ModelRefusal) → delivery (refused r) n c x a ≡ refused r
  unfolding delivery ◌>>=◌
  not_found r = refl

  module _ (v : Bool × ℕ) where
    pub cramped : search_room n c x a ≡ false → delivery (given v) n c x a ≡ refused Cramped
    unfolding delivery need ◌>>◌ ◌>>=◌
    cramped h = rw h

    pub fits : search_room n c x a ≡ true → delivery (given v) n c x a ≡ given v
    unfolding delivery need ◌>>◌ ◌>>=◌
    fits h = rw h

pub room_facts : (n c x a : ℕ) → search_room n c x a ≡ true → (n * entry_bytes ≤ c) × (n * entry_bytes ≤ x) × (answer_bytes ≤ a)
room_facts n c x a has = let h = simp (and_iff, leb_iff) at has in
    (omega (arith, h.0.0), omega (arith, h.0.1), h.1)
