-- The C program's calls, by what deciding and the search answer on tables of the limit's length: none of those is cramped, and what is left
-- to ask is whether the slices lent have room.
use mathlib.Core.Path.{◌≡◌, refl, ap}
use mathlib.Core.Bool.{Bool, true, false, ◌&&◌}
use mathlib.Core.List.{List}
use Prim.Native.Nat.{ℕ, ◌/◌}
use lib.Dec.{leb, ltb}
use borrow.Author.Tests.{le-leb}
use Rattle.laws.specs.Lists.{overwrite}
use Rattle.model.specs.Plan.{Plan}
use Rattle.model.specs.Search.{Result}
use Rattle.model.specs.Refusal.{Refusal, Cramped, Unsound, Stranger, Answer, given, refused, number, answer, need, ◌>>=◌, ◌>>◌}
use Rattle.model.specs.File.{max_states}
use Rattle.model.specs.Tables.{Size, Tables, Same}
use Rattle.model.specs.SoundTest.{sound}
use Rattle.model.specs.Calls.{left, deciding, searching}
use Rattle.model.specs.Boundary.{entry_bytes, answer_bytes, code, gate_decide, gate_search}
use Rattle.model.specs.Rooms.{decide_room, search_room}
use Rattle.model.proofs.SoundFacts.{sound_facts}
use Rattle.model.proofs.SameSound.{deciding_same, searching_same}

-- what comes behind a test, asked before and after it
behind : {A B : Type 0} (r : Refusal) (b : Bool) (x : Answer B) (y : Answer A) (f : A → Answer B) → (b ≡ true → x ≡ (y >>= f))
    → (need r b >> x) ≡ ((need r b >> y) >>= f)
unfolding need ◌>>◌ ◌>>=◌
behind r true x y f h = h refl
behind r false x y f h = refl

-- two tests for room, one after the other, are one
two_needs : {A B : Type 0} (x : Answer A) (k : A → B) (p q : Bool)
    → ((x >>= λ a. need Cramped p >> given a) >>= λ a. need Cramped q >> given (k a)) ≡ (x >>= λ a. need Cramped (p && q) >> given (k a))
unfolding need ◌>>◌ ◌>>=◌
two_needs (given a) k true q = refl
two_needs (given a) k false q = refl
two_needs (refused r) k p q = refl

module _ (T : Tables) where
  -- the plan decided, with tables of the limit's length
  abbrev pub whole_deciding : Answer Plan
  whole_deciding = deciding T max_states max_states max_states max_states

  abbrev pub whole_search : ℕ → Answer Result
  whole_search start = searching T start max_states max_states

  deciding_after : (a b c d : ℕ)
      → deciding T a b c d
      ≡ (whole_deciding >>= λ P. need Cramped (leb T.size.n a && leb T.size.n b && leb T.size.n c && leb T.size.n d) >> given
      P)
  unfolding deciding need ◌>>◌ ◌>>=◌
  deciding_after a b c d =
      behind Unsound (sound T) _ _ _ (λ e. let few = le-leb _ _ ((sound_facts T).0 e).size.few in rw few)

  searching_after : (start a b : ℕ)
      → searching T start a b ≡ (whole_search start >>= λ R. need Cramped (leb T.size.n a && leb T.size.n b) >> given R)
  unfolding searching need ◌>>◌ ◌>>=◌
  searching_after start a b =
      behind Unsound (sound T) _ _ _
      (λ e. let few = le-leb _ _ ((sound_facts T).0 e).size.few in behind Stranger (ltb start T.size.n) _ _ _ (λ _. rw few))

  pub gate_decide_lem : (ranks commands marks scratch tally : ℕ) → gate_decide (given T) ranks commands marks scratch tally
      ≡ (whole_deciding >>= λ P. need Cramped (decide_room T.size.n ranks commands marks scratch tally) >> given P)
  unfolding gate_decide ◌>>=◌
  gate_decide_lem ranks commands marks scratch tally = rw
      (deciding_after (ranks / entry_bytes) (commands / entry_bytes) (marks / entry_bytes) (scratch / entry_bytes))
      (two_needs whole_deciding (λ P. P) _ _)

  pub gate_search_lem : (start commands scratch answer : ℕ) → gate_search (given T) start commands scratch answer
      ≡ (whole_search start >>= λ R. need Cramped (search_room T.size.n commands scratch answer) >> given (T.size.n, R))
  unfolding gate_search ◌>>=◌
  gate_search_lem start commands scratch answer = rw (searching_after start (commands / entry_bytes) (scratch / entry_bytes))
      (two_needs (whole_search start) (λ R. (T.size.n, R)) _ _)

-- what a call returns and what it leaves, where it is refused and where it answers
module _ {A : Type 0} {x : Answer A} where
  module _ {r : Refusal} (e : x ≡ refused r) where
    pub refused_code : {k : ℕ} → k ≡ number r → k ≡ code x
    unfolding code
    refused_code f = rw e f

    pub refused_left : {B : Type 0} (f : A → List B) (l : List B) → l ≡ left f x l
    unfolding left
    refused_left f l = rw e

  module _ {a : A} (e : x ≡ given a) where
    pub given_code : 0 ≡ code x
    unfolding code
    given_code = rw e

    pub given_left : {B : Type 0} (f : A → List B) (l : List B) {l' : List B} → l' ≡ overwrite (f a) l → l' ≡ left f x l
    unfolding left
    given_left f l g = rw e g

-- what is given of an answer v is what is given of x, from which it comes
module _ {A B D : Type 0} (x : Answer A) (h : A → D) (v : Answer D) (from : v ≡ answer h x) (k : A → B) (q : Bool) where
  pub code_from : code (v >>= λ d. need Cramped q >> given d) ≡ code (x >>= λ a. need Cramped q >> given (k a))
  unfolding code answer need ◌>>◌ ◌>>=◌
  code_from = rw from (go x q)
    where
      go : (x : Answer A) (q : Bool) → code (answer h x >>= λ d. need Cramped q >> given d)
          ≡ code (x >>= λ a. need Cramped q >> given (k a))
      go (given a) true = refl
      go (given a) false = refl
      go (refused r) q = refl

  pub left_from_lem : {E : Type 0} (f : D → List E) (g : B → List E) → ((a : A) → x ≡ given a → f (h a) ≡ g (k a)) → (l : List E)
      → left f (v >>= λ d. need Cramped q >> given d) l ≡ left g (x >>= λ a. need Cramped q >> given (k a)) l
  unfolding left answer need ◌>>◌ ◌>>=◌
  left_from_lem {E} f g same l = rw from (go x q same)
    where
      go : (x : Answer A) (q : Bool) → ((a : A) → x ≡ given a → f (h a) ≡ g (k a))
          → left f (answer h x >>= λ d. need Cramped q >> given d) l ≡ left g (x >>= λ a. need Cramped q >> given (k a)) l
      go (given a) true s = rw (s a refl)
      go (given a) false s = refl
      go (refused r) q s = refl

-- tables that agree are answered the same
module _ {T U : Tables} (same : Same T U) where
  pub gate_decide_same : (ranks commands marks scratch tally : ℕ) → gate_decide (given T) ranks commands marks scratch tally
      ≡ gate_decide (given U) ranks commands marks scratch tally
  unfolding gate_decide ◌>>=◌
  gate_decide_same a b c d e =
      rw (deciding_same same (a / entry_bytes) (b / entry_bytes) (c / entry_bytes) (d / entry_bytes))

  pub gate_search_same : (start commands scratch answer : ℕ) → gate_search (given T) start commands scratch answer
      ≡ gate_search (given U) start commands scratch answer
  unfolding gate_search ◌>>=◌
  gate_search_same start a b c =
      rw (searching_same same start (a / entry_bytes) (b / entry_bytes))
      (ap (λ (z : Size). searching U start (a / entry_bytes) (b / entry_bytes) >>= λ R. need Cramped (leb answer_bytes c) >> given (z.n, R))
      same.size)

-- the plan lent comes first
module _ (lent : Answer Tables) where
  pub gate_decide_lent : (ranks commands marks scratch tally : ℕ) → gate_decide lent ranks commands marks scratch tally
      ≡ (lent >>= λ T. gate_decide (given T) ranks commands marks scratch tally)
  unfolding gate_decide ◌>>=◌
  gate_decide_lent a b c d t = refl

  pub gate_search_lent : (start commands scratch answer : ℕ) → gate_search lent start commands scratch answer
      ≡ (lent >>= λ T. gate_search (given T) start commands scratch answer)
  unfolding gate_search ◌>>=◌
  gate_search_lent start a b c = refl

-- an unsound plan is refused with 10
module _ (T : Tables) (e : sound T ≡ false) where
  pub gate_decide_unsound : (ranks commands marks scratch tally : ℕ) → gate_decide (given T) ranks commands marks scratch tally
      ≡ refused Unsound
  unfolding gate_decide deciding need ◌>>◌ ◌>>=◌
  gate_decide_unsound a b c d t = rw e

  pub gate_search_unsound : (start commands scratch answer : ℕ) → gate_search (given T) start commands scratch answer ≡ refused Unsound
  unfolding gate_search searching need ◌>>◌ ◌>>=◌
  gate_search_unsound start a b c = rw e
