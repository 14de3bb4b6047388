-- The fields, by the way that each of their tests leads.
use mathlib.Core.Path.{◌≡◌, refl, sym, ap, ap₂, ◌∙◌, subst}
use mathlib.Core.Bool.{true, false}
use mathlib.Core.List.{List, [], ◌∷◌}
use Prim.Native.Nat.{ℕ, suc, ◌+◌, ◌-◌, ◌*◌, ◌/◌, ◌%◌, ◌<◌, ◌≤◌}
use native.Mathlib.Omega.{arith}
use native.Mathlib.Nat.{add-zero}
use lib.ListN.{length, get_or, drop, length-drop}
use lib.Seq.{get_or-drop, drop-drop}
use borrow.Author.Tests.{le-ltb, lt-ltb, le-leb, lt-leb, eq-eqb, ne_eqb, eqb-true}
use Rattle.laws.specs.Entry.{be16}
use Rattle.laws.proofs.Tests.{and_both}
use Rattle.model.specs.Refusal.{Answer, Cut, Tag, Length, Beyond, Unsorted, Idle, Limit, given, refused, answer, need, ◌>>=◌, ◌>>◌}
use Rattle.model.specs.File.{
  max_states,
  max_commands,
  max_outcomes,
  head_tag,
  state_tag,
  command_tag,
  allowed,
  StateField,
  not_idle,
  state_values,
  field,
  head,
  state,
  entries,
  rising,
  command,
}
use Rattle.tables.specs.declared.Refusal.{Refusal}
use Rattle.tables.specs.Meaning.{refusal_of}
use Rattle.model.proofs.Fields.{field_inv, length_entries}
use Rattle.reading.specs.declared.bytes.Mark.{Mark}
use Rattle.std.specs.Prelude.{Result, Ok, Err}
use Rattle.reading.specs.Meaning.{moved, bytes_from, Within, Walks, after_field, after_command}
use Rattle.reading.proofs.Passing.{answer_inv, refuses}

module _ (tag : ℕ) (s : List ℕ) where
  pub field_cut : length s < 3 → refused Cut ≡ field tag s
  unfolding field need ◌>>◌
  field_cut a = rw (lt-leb _ _ a)

  pub field_tag : 3 ≤ length s → (get_or s 0 0 ≡ tag → ⊥) → refused Tag ≡ field tag s
  unfolding field need ◌>>◌
  field_tag a b = rw (le-leb _ _ a, ne_eqb _ _ b)

  module _ (a : 3 ≤ length s) (b : get_or s 0 0 ≡ tag) where
    pub field_length : allowed tag (be16 s 1) ≡ false → refused Length ≡ field tag s
    unfolding field need ◌>>◌
    field_length e = rw (le-leb _ _ a, eq-eqb _ _ b, e)

    pub field_short : allowed tag (be16 s 1) ≡ true → length s < 3 + be16 s 1 → refused Cut ≡ field tag s
    unfolding field need ◌>>◌
    field_short e l = rw (le-leb _ _ a, eq-eqb _ _ b, e, lt-leb _ _ l)

    pub field_given : allowed tag (be16 s 1) ≡ true → 3 + be16 s 1 ≤ length s → given (be16 s 1) ≡ field tag s
    unfolding field need ◌>>◌
    field_given e l = rw (le-leb _ _ a, eq-eqb _ _ b, e, le-leb _ _ l)

-- the field at a mark
module _ (file : List ℕ) (k : Mark) (tag : ℕ) where
  pub field_stops : (r : Refusal) → refused (refusal_of r) ≡ field tag (bytes_from file k)
      → Walks file (Err r) (answer (after_field file k) (field tag (bytes_from file k)))
  unfolding answer
  field_stops r e = refuses r (ap (answer (after_field file k)) e)

  pub field_walks : {len : ℕ} {next : Mark} → given len ≡ field tag (bytes_from file k) → Within file k → next ≡ moved k (3 + len)
      → Walks file (Ok next) (answer (after_field file k) (field tag (bytes_from file k)))
  unfolding answer
  field_walks {len} e w q =
      let room : 3 + len ≤ length (bytes_from file k) = (field_inv tag (bytes_from file k) len (sym e)).fits in
      rw (q, ← e) (record {
        answers = ap (λ (z : List ℕ). given (k.m, k.t, z)) (sym (drop-drop (3 + len) k.at file));
        stays = record {
          inside = omega (arith, length-drop k.at file, w.inside, room);
          few_commands = w.few_commands;
          few_outcomes =
              w.few_outcomes;
        };
      })

-- a field of fixed length that was passed
pub fixed_inv : {B : Type 0} {y : B} (tag len : ℕ) (s : List ℕ) (g : ℕ → B) → ((l : ℕ) → allowed tag l ≡ true → l ≡ len)
    → answer g (field tag s) ≡ given y → (field tag s ≡ given len) × (3 + len ≤ length s) × (y ≡ g len)
fixed_inv tag len s g fixed e =
    let (l, p, q) = answer_inv g (field tag s) e in
    let f = field_inv tag s l p in
    let d : l ≡ len = fixed l f.right in
    (p ∙ ap given d, rw (← d) f.fits, sym q ∙ ap g d)

module _ {B : Type 0} {y : B} (s : List ℕ) (g : ℕ → B) (e : answer g (field head_tag s) ≡ given y) where
  headed : (field head_tag s ≡ given 4) × (7 ≤ length s) × (y ≡ g 4)
  headed = fixed_inv head_tag 4 s g (λ l t. eqb-true l 4 t) e

  pub head_long : 7 ≤ length s
  head_long = headed.1

  module _ {C : Type 0} (h : ℕ × ℕ → C) where
    pub head_none : be16 s 3 < 1 → refused Beyond ≡ answer h (head s)
    unfolding head need ◌>>◌ ◌>>=◌ answer
    head_none a = rw (headed.0, lt-leb _ _ a)

    module _ (a : 1 ≤ be16 s 3) where
      pub head_many : max_states < be16 s 3 → refused Beyond ≡ answer h (head s)
      unfolding head need ◌>>◌ ◌>>=◌ answer
      head_many b = rw (headed.0, le-leb _ _ a, lt-leb _ _ b)

      pub head_start : be16 s 3 ≤ max_states → be16 s 3 ≤ be16 s 5 → refused Beyond ≡ answer h (head s)
      unfolding head need ◌>>◌ ◌>>=◌ answer
      head_start b l = rw (headed.0, le-leb _ _ a, le-leb _ _ b, le-ltb _ _ l)

  pub head_passes : 1 ≤ be16 s 3 → be16 s 3 ≤ max_states → be16 s 5 < be16 s 3 → given y ≡ answer (λ x. g 4) (head s)
  unfolding head need ◌>>◌ ◌>>=◌ answer
  head_passes a b l = rw (headed.0, le-leb _ _ a, le-leb _ _ b, lt-ltb _ _ l) (ap given headed.2)

module _ {B : Type 0} {y : B} (m : ℕ) (s : List ℕ) (g : ℕ → B) (e : answer g (field state_tag s) ≡ given y) where
  stated : (field state_tag s ≡ given 5) × (8 ≤ length s) × (y ≡ g 5)
  stated = fixed_inv state_tag 5 s g (λ l t. eqb-true l 5 t) e

  pub state_long : 8 ≤ length s
  state_long = stated.1

  module _ {C : Type 0} (h : StateField → C) where
    pub state_kind : 2 < get_or s 3 0 → refused Beyond ≡ answer h (state m s)
    unfolding state need ◌>>◌ ◌>>=◌ answer
    state_kind a = rw (stated.0, lt-leb _ _ a)

    module _ (a : get_or s 3 0 ≤ 2) where
      pub state_idle : not_idle (state_values s) ≡ false → refused Idle ≡ answer h (state m s)
      unfolding state need ◌>>◌ ◌>>=◌ answer
      state_idle b = rw (stated.0, le-leb _ _ a, b)

      pub state_limit : not_idle (state_values s) ≡ true → max_commands < m + be16 s 4 → refused Limit ≡ answer h (state m s)
      unfolding state need ◌>>◌ ◌>>=◌ answer
      state_limit b l = rw (stated.0, le-leb _ _ a, b, lt-leb _ _ l)

  pub state_passes : get_or s 3 0 ≤ 2 → not_idle (state_values s) ≡ true → m + be16 s 4 ≤ max_commands
      → given y ≡ answer (λ x. g 5) (state m s)
  unfolding state need ◌>>◌ ◌>>=◌ answer
  state_passes a b l = rw (stated.0, le-leb _ _ a, b, le-leb _ _ l) (ap given stated.2)

-- ---- the outcomes of a command

module _ {B : Type 0} (g : Unit {0} → B) (n low o : ℕ) (os : List ℕ) where
  pub rising_beyond : n ≤ o → refused Beyond ≡ answer g (rising n low (o ∷ os))
  unfolding rising need ◌>>◌ answer
  rising_beyond h = rw (le-ltb _ _ h)

  pub rising_unsorted : o < n → o < low → refused Unsorted ≡ answer g (rising n low (o ∷ os))
  unfolding rising need ◌>>◌ answer
  rising_unsorted h l = rw (lt-ltb _ _ h, lt-leb _ _ l)

pub rising_more : (n low o : ℕ) (os : List ℕ) → o < n → low ≤ o → rising n low (o ∷ os) ≡ rising n (o + 1) os
unfolding rising need ◌>>◌
rising_more n low o os h l = rw (lt-ltb _ _ h, le-leb _ _ l)

be16_drop : (i : ℕ) (s : List ℕ) → be16 (drop i s) 0 ≡ be16 s i
be16_drop i s = simp (get_or-drop, add-zero)

-- the entries from the i-th on, of k
module _ (s : List ℕ) (k : ℕ) where
  abbrev pub entries_from : ℕ → List ℕ
  entries_from i = entries (k - i) (drop (i * 2) s)

  pub entries_more : (i : ℕ) → i < k → entries_from i ≡ be16 s (i * 2) ∷ entries_from (i + 1)
  unfolding entries
  entries_more i h =
      let e : k - i ≡ suc (k - (i + 1)) = omega arith in
      let a : i * 2 + 2 ≡ (i + 1) * 2 = omega arith in
      rw e (ap₂ (λ (x : ℕ) (r : List ℕ). x ∷ entries (k - (i + 1)) r) (be16_drop (i * 2) s)
      (drop-drop 2 (i * 2) s ∙ ap (λ (z : ℕ). drop z s) a))

  pub entries_none : (i : ℕ) → k ≤ i → entries_from i ≡ []
  unfolding entries
  entries_none i h = let e : k - i ≡ 0 = omega arith in rw e

-- what is left of the checks at the i-th outcome, and how it goes on
module _ (n : ℕ) (s : List ℕ) (k low i : ℕ) (left : rising n 0 (entries k s) ≡ rising n low (entries_from s k i)) where
  pub outcomes_rise : k ≤ i → rising n 0 (entries k s) ≡ given tt
  unfolding rising
  outcomes_rise h = left ∙ ap (rising n low) (entries_none s k i h)

  module _ (h : i < k) {o : ℕ} (e : o ≡ be16 s (i * 2)) where
    next : rising n 0 (entries k s) ≡ rising n low (o ∷ entries_from s k (i + 1))
    next = left ∙ rw e (ap (rising n low) (entries_more s k i h))

    pub outcomes_beyond : {B : Type 0} (g : Unit {0} → B) → n ≤ o → refused Beyond ≡ answer g (rising n 0 (entries k s))
    outcomes_beyond g a = rising_beyond g n low o _ a ∙ sym (ap (answer g) next)

    pub outcomes_unsorted : {B : Type 0} (g : Unit {0} → B) → o < n → o < low → refused Unsorted ≡ answer g (rising n 0 (entries k s))
    outcomes_unsorted g a b = rising_unsorted g n low o _ a b ∙ sym (ap (answer g) next)

    pub outcomes_more : o < n → low ≤ o → rising n 0 (entries k s) ≡ rising n (o + 1) (entries_from s k (i + 1))
    outcomes_more a b = next ∙ rising_more n low o _ a b

-- ---- a command

then_answer : {C : Type 0} (u : Answer (Unit {0})) (os : List ℕ) (h : List ℕ → C) → answer h (u >> given os) ≡ answer (λ x. h os) u
unfolding ◌>>◌ answer
then_answer (given u) os h = refl
then_answer (refused r) os h = refl

record Measured (s : List ℕ) (len : ℕ) : Type 0 where
  is : field command_tag s ≡ given len
  even : len ≡ be16 s 1 / 2 * 2
  fits : 3 + len ≤ length s

module _ {B : Type 0} {y : B} (s : List ℕ) (g : ℕ → B) (e : answer g (field command_tag s) ≡ given y) where
  measured : (len : ℕ) × Measured s len × (g len ≡ y)
  measured =
      let (len, p, q) = answer_inv g (field command_tag s) e in
      let f = field_inv command_tag s len p in
      let (even_test, _) = and_both _ _ f.right in
      let even : len % 2 ≡ 0 = eqb-true _ _ even_test in
      let long : be16 s 1 ≡ len = f.long in
      (len, record { is = p; even = omega arith; fits = f.fits }, q)

  pub command_long : 3 + be16 s 1 / 2 * 2 ≤ length s
  command_long = let (len, f, q) = measured in omega (arith, f.even, f.fits)

  pub command_limit : {C : Type 0} (n t : ℕ) (h : List ℕ → C) → max_outcomes < t + be16 s 1 / 2 → refused Limit ≡ answer h (command n t s)
  unfolding command need ◌>>◌ ◌>>=◌ answer
  command_limit n t h l =
      let (len, f, q) = measured in
      let even : len ≡ be16 s 1 / 2 * 2 = f.even in
      let half : len / 2 ≡ be16 s 1 / 2 = omega arith in
      rw (f.is, half, lt-leb _ _ l)

  -- the limit kept, a command is as its outcomes are
  command_as : {C : Type 0} (n t : ℕ) (h : List ℕ → C) (c : ℕ) → c ≡ be16 s 1 / 2 → t + c ≤ max_outcomes
      → answer (λ x. h (entries c (drop 3 s))) (rising n 0 (entries c (drop 3 s))) ≡ answer h (command n t s)
  unfolding command need ◌>>◌ ◌>>=◌
  command_as n t h c d l =
      let (len, f, q) = measured in
      let even : len ≡ be16 s 1 / 2 * 2 = f.even in
      let half : len / 2 ≡ c = omega arith in
      rw (f.is, half, le-leb _ _ l) (sym (then_answer (rising n 0 (entries c (drop 3 s))) (entries c (drop 3 s)) h))

pub command_walks : (file : List ℕ) (k next : Mark) (n c : ℕ) {r : Result Mark Refusal}
    → answer (after_field file k) (field command_tag (bytes_from file k)) ≡ given (next.m, next.t, bytes_from file next)
    → c ≡ be16 (bytes_from file k) 1 / 2 → k.t + c ≤ max_outcomes
    → Walks file r (answer (λ x. (k.m + 1, k.t + c, bytes_from file next)) (rising n 0 (entries c (drop (k.at + 3) file))))
    → Walks file r (answer (after_command file k) (command n k.t (bytes_from file k)))
command_walks file k next n c {r} e d few w =
    let s : List ℕ = bytes_from file k in
    let (len, f, q) = measured s (after_field file k) e in
    let even : len ≡ be16 s 1 / 2 * 2 = f.even in
    let twice : len ≡ c * 2 = omega arith in
    let os : List ℕ = entries c (drop 3 s) in
    let at : drop (3 + c * 2) s ≡ bytes_from file next = rw (← twice) (ap (λ (x : ℕ × ℕ × List ℕ). x.2) q) in
    let past : (k.m + 1, k.t + c, bytes_from file next) ≡ after_command file k os
    = rw (length_entries c (drop 3 s)) (ap (λ (z : List ℕ). (k.m + 1, k.t + c, z)) (sym at)) in
    let same : answer (λ x. (k.m + 1, k.t + c, bytes_from file next)) (rising n 0 os) ≡ answer (after_command file k) (command n k.t s)
    = ap (λ (z : ℕ × ℕ × List ℕ). answer (λ x. z) (rising n 0 os)) past
    ∙ command_as s (after_field file k) e n k.t (after_command file k) c d few in
    subst (Walks file r) same (rw (drop-drop 3 k.at file) w)
