-- The judging pass: what is left to read at a mark, and how it goes on.
use mathlib.Core.Path.{◌≡◌, refl, sym, ap, ap₂, ◌∙◌}
use mathlib.Core.List.{List, [], ◌∷◌, ◌++◌}
use Prim.Native.Nat.{ℕ, suc, ◌+◌, ◌-◌, ◌*◌, ◌<◌, ◌≤◌}
use native.Mathlib.Omega.{arith}
use native.Mathlib.Nat.{add-zero}
use lib.Dec.{leb}
use lib.ListN.{length, drop, length-append, length-drop, drop_of_length-le}
use borrow.Author.Tests.{le-leb, lt-leb, eqb-true}
use Rattle.laws.specs.Entry.{be16}
use Rattle.laws.specs.Lists.{joined}
use Rattle.laws.proofs.Joins.{length_joined}
use Rattle.model.specs.Refusal.{Answer, Surplus, given, refused, answer, need, ◌>>=◌, ◌>>◌}
use Rattle.model.specs.File.{State, StateField, state_from, Tree, max_commands, end_tag, field, head, state, command, commands, states, read}
use Rattle.model.specs.Tables.{all_commands, tables_of}
use Rattle.model.proofs.Fields.{head_inv, state_inv}
use Rattle.model.proofs.Readings.{commands_inv, commands_count, outcomes_count, states_count, read_inv}
use Rattle.tables.specs.Meaning.{refusal_of}
use Rattle.tables.specs.declared.Refusal.{Refusal}
use Rattle.reading.specs.declared.bytes.Mark.{Mark}
use Rattle.std.specs.Prelude.{Result, Err}
use Rattle.reading.specs.Meaning.{
  bytes_from,
  passed_of,
  Walks,
  head_mark,
  after_field,
  after_command,
  after_commands,
  after_states,
  after_file,
}
use Rattle.reading.proofs.Passing.{answer_inv, refused_inv, ends}
use Rattle.reading.proofs.FieldWays.{fixed_inv}

-- a list in front of what is read changes only what is counted
one_more : {A B C : Type 0} (x : Answer A) (h : A → B) (f : A → C) (g : B → C) → ((a : A) → x ≡ given a → f a ≡ g (h a))
    → answer g (x >>= λ a. given (h a)) ≡ answer f x
unfolding ◌>>=◌ answer
one_more (given a) h f g same = ap given (sym (same a refl))
one_more (refused r) h f g same = refl

-- ---- commands

module _ (file : List ℕ) (n end : ℕ) where
  abbrev pub commands_left : Mark → Answer (ℕ × ℕ × List ℕ)
  commands_left k = answer (after_commands k.m) (commands n (end - k.m) k.t (bytes_from file k))

  pub commands_none : (k : Mark) → end ≤ k.m → given (k.m, k.t, bytes_from file k) ≡ commands_left k
  unfolding commands answer
  commands_none k h = let e : end - k.m
      ≡ 0 = omega arith in rw e (ap (λ (z : ℕ). given (z, k.t, bytes_from file k)) (sym (add-zero k.m)))

  module _ (k : Mark) (h : k.m < end) where
    pub commands_end : {f : Result Mark Refusal} {r : Refusal} → f ≡ Err r
        → Walks file f (answer (after_command file k) (command n k.t (bytes_from file k)))
        → Walks file f (commands_left k)
    unfolding commands
    commands_end told w = let e : end - k.m ≡ suc (end - (k.m + 1)) = omega arith in rw e (ends _ _ _ _ told w)

    module _ (next : Mark) (e : answer (after_command file k) (command n k.t (bytes_from file k))
        ≡ given (next.m, next.t, bytes_from file next)) where
      pub commands_step : next.m ≡ k.m + 1
      commands_step = let (os, p, q) = answer_inv (after_command file k) (command n k.t (bytes_from file k)) e in ap
          (λ (x : ℕ × ℕ × List ℕ). x.0) (sym q)

      pub commands_more : commands_left k ≡ commands_left next
      unfolding commands ◌>>=◌
      commands_more =
          let s : List ℕ = bytes_from file k in
          let (os, p, q) = answer_inv (after_command file k) (command n k.t s) e in
          let d : end - k.m ≡ suc (end - (k.m + 1)) = omega arith in
          let x : Answer (List (List ℕ) × ℕ × List ℕ) = commands n (end - (k.m + 1)) (k.t + length os) (drop (3 + length os * 2) s) in
          let on : answer (after_commands k.m) (x >>= λ y. given (os ∷ y.0, y.1, y.2)) ≡ answer (after_commands (k.m + 1)) x
          = one_more x (λ y. (os ∷ y.0, y.1, y.2)) (after_commands (k.m + 1)) (after_commands k.m)
          (λ y _. let c : k.m + 1 + length y.0 ≡ k.m + suc (length y.0) = omega arith in ap (λ (z : ℕ). (z, y.1, y.2)) c) in
          rw (d, p) (on ∙ ap (λ (z : ℕ × ℕ × List ℕ). answer (after_commands z.0) (commands n (end - z.0) z.1 z.2)) q)

pub commands_all : (file : List ℕ) (n count : ℕ) (k : Mark)
    → commands_left file n (k.m + count) k ≡ answer (after_commands k.m) (commands n count k.t (bytes_from file k))
commands_all file n count k = let e : k.m + count - k.m ≡ count = omega arith in rw e

-- ---- states

-- a state that was passed
module _ (file : List ℕ) (k next : Mark)
    (e : answer (λ x. after_field file k 5) (state k.m (bytes_from file k)) ≡ given (next.m, next.t, bytes_from file next)) where
  pub state_room : (8 ≤ length (bytes_from file k)) × (next.m + be16 (bytes_from file k) 4 ≤ max_commands)
  state_room =
      let (v, p, q) = answer_inv (λ x. after_field file k 5) (state k.m (bytes_from file k)) e in
      let g = state_inv k.m (bytes_from file k) v p in
      let m : next.m ≡ k.m = ap (λ (x : ℕ × ℕ × List ℕ). x.0) (sym q) in
      (g.framed.fits, omega (arith, g.few, ap (λ (x : StateField). x.count) g.is))

-- the states after a state and its commands, with m commands before them
unfoldable follow : (n k m : ℕ) → StateField → List (List ℕ) × ℕ × List ℕ → Answer (List State × List ℕ)
follow n k m v y = do
  z ← states n k m y.1 y.2
  given (state_from v y.0 ∷ z.0, z.1)

states_open : (n k m t : ℕ) (s : List ℕ) {v : StateField} → state m s ≡ given v
    → states n (suc k) m t s ≡ (commands n v.count t (drop 8 s) >>= follow n k (m + v.count) v)
unfolding states ◌>>=◌ follow
states_open n k m t s e = rw e

-- a state and its commands are counted first
state_counts : {c t₁ : ℕ} (cs : List (List ℕ)) (m t : ℕ) (v : StateField) → length cs ≡ c → t₁ ≡ t + length (joined cs)
    → (z : List State × List ℕ)
    → after_states (m + c) t₁ z ≡ after_states m t (state_from v cs ∷ z.0, z.1)
unfolding all_commands
state_counts {c} {t₁} cs m t v d e z =
    let a : m + c + length (all_commands z.0) ≡ m
    + length (cs ++ all_commands z.0) = omega (arith, length-append cs (all_commands z.0)) in
    let b : t₁ + length (joined (all_commands z.0)) ≡ t
    + length (joined (cs ++ all_commands z.0)) = omega (arith, length_joined cs (all_commands z.0)) in
    ap₂ (λ (p q : ℕ). (p, q, z.1)) a b

module _ (file : List ℕ) (n : ℕ) where
  abbrev pub states_left : ℕ → Mark → Answer (ℕ × ℕ × List ℕ)
  states_left i k = answer (after_states k.m k.t) (states n (n - i) k.m k.t (bytes_from file k))

  pub states_none : (i : ℕ) (k : Mark) → n ≤ i → given (k.m, k.t, bytes_from file k) ≡ states_left i k
  unfolding states answer all_commands joined
  states_none i k h =
      let e : n - i ≡ 0 = omega arith in
      rw e (ap₂ (λ (y z : ℕ). given (y, z, bytes_from file k)) (sym (add-zero k.m)) (sym (add-zero k.t)))

  module _ (i : ℕ) (k : Mark) (h : i < n) where
    more : n - i ≡ suc (n - (i + 1))
    more = omega arith

    pub states_end : {f : Result Mark Refusal} {r : Refusal} → f ≡ Err r
        → Walks file f (answer (λ x. after_field file k 5) (state k.m (bytes_from file k)))
        → Walks file f (states_left i k)
    unfolding states
    states_end told w = rw more (ends _ _ _ _ told w)

    module _ (next : Mark) (c : ℕ) (d : c ≡ be16 (bytes_from file k) 4)
        (e : answer (λ x. after_field file k 5) (state k.m (bytes_from file k)) ≡ given (next.m, next.t, bytes_from file next)) where
      -- the state's commands come next
      opened : (v : StateField) × (states_left i k
          ≡ answer (after_states next.m next.t)
          (commands n c next.t (bytes_from file next) >>= follow n (n - (i + 1)) (next.m + c) v))
      opened =
          let s : List ℕ = bytes_from file k in
          let (v, p, q) = answer_inv (λ x. after_field file k 5) (state k.m s) e in
          let g = state_inv k.m s v p in
          let same : v.count ≡ c = sym (ap (λ (x : StateField). x.count) g.is) ∙ sym d in
          let goes : ℕ → ℕ × ℕ × List ℕ → Answer (ℕ × ℕ × List ℕ)
          = λ x z. answer (after_states z.0 z.1) (commands n x z.1 z.2 >>= follow n (n - (i + 1)) (z.0 + x) v) in
          let first : states_left i k ≡ goes v.count (after_field file k 5)
          = rw more (ap (answer (after_states k.m k.t)) (states_open n (n - (i + 1)) k.m k.t s p)) in
          (v, first ∙ ap₂ goes same q)

      pub states_stop : {f : Result Mark Refusal} {r : Refusal} → f ≡ Err r
          → Walks file f (answer (after_commands next.m) (commands n c next.t (bytes_from file next))) → Walks file f (states_left i k)
      states_stop told w = let (v, q) = opened in rw q (ends _ _ _ _ told w)

      pub states_more : (past : Mark)
          → answer (after_commands next.m) (commands n c next.t (bytes_from file next)) ≡ given (past.m, past.t, bytes_from file past)
          → states_left i k ≡ states_left (i + 1) past
      unfolding ◌>>=◌ follow
      states_more past w =
          let (v, a) = opened in
          let (y, p, q) = answer_inv (after_commands next.m) (commands n c next.t (bytes_from file next)) w in
          let r = commands_inv n c next.t (bytes_from file next) y p in
          let x : Answer (List State × List ℕ) = states n (n - (i + 1)) (next.m + c) y.1 y.2 in
          let at : ◌≡◌ {A = ℕ × ℕ × List ℕ} (next.m + c, y.1, y.2) (past.m, past.t, bytes_from file past)
          = ap (λ (z : ℕ). (next.m + z, y.1, y.2)) (sym (commands_count r)) ∙ q in
          a ∙ ap (λ (z : Answer (List (List ℕ) × ℕ × List ℕ)). answer (after_states next.m next.t)
          (z >>= follow n (n - (i + 1)) (next.m + c) v)) p
          ∙ one_more x _ (after_states (next.m + c) y.1) (after_states next.m next.t)
          (λ z _. state_counts y.0 next.m next.t v (commands_count r) (outcomes_count r) z)
          ∙ ap (λ (z : ℕ × ℕ × List ℕ). answer (after_states z.0 z.1) (states n (n - (i + 1)) z.0 z.1 z.2)) at

pub states_all : (file : List ℕ) (n : ℕ) (k : Mark) → states_left file n 0 k
    ≡ answer (after_states k.m k.t) (states n n k.m k.t (bytes_from file k))
states_all file n k = let e : n - 0 ≡ n = omega arith in rw e

-- ---- the whole file

-- what comes after the states
unfoldable finish : ℕ → List State × List ℕ → Answer Tree
finish start x = do
  _ ← field end_tag x.1
  need Surplus (leb (length x.1) 3)
  given (record { start = start; states = x.0 })

read_open : (s : List ℕ) {n start : ℕ} → head s ≡ given (n, start) → read s ≡ (states n n 0 0 (drop 7 s) >>= finish start)
unfolding read ◌>>=◌ finish
read_open s e = rw e

module _ (file : List ℕ) (first : Mark)
    (e : answer (λ x. after_field file head_mark 4) (head file) ≡ given (first.m, first.t, bytes_from file first)) where
  pub head_room : 7 ≤ length file
  head_room =
      let ((n, start), p, q) = answer_inv (λ x. after_field file head_mark 4) (head file) e in
      (head_inv file n start p).framed.fits

  module _ {n : ℕ} (d : n ≡ be16 file 3) where
    begun : (start : ℕ) × (read file ≡ (states n n first.m first.t (bytes_from file first) >>= finish start))
    begun =
        let ((n₀, start), p, q) = answer_inv (λ x. after_field file head_mark 4) (head file) e in
        let same : n₀ ≡ n = sym (head_inv file n₀ start p).counts ∙ sym d in
        let goes : ℕ → ℕ × ℕ × List ℕ → Answer Tree = λ x z. states x x z.0 z.1 z.2 >>= finish start in
        (start, read_open file p ∙ ap₂ goes same q)

    pub file_stops : {f : Result Mark Refusal} {r : Refusal} → f ≡ Err r
        → Walks file f (answer (after_states first.m first.t) (states n n first.m first.t (bytes_from file first)))
        → Walks file f (answer after_file (read file))
    file_stops told w = let (start, q) = begun in rw q (ends _ _ _ _ told w)

    module _ (last : Mark)
        (w : answer (after_states first.m first.t) (states n n first.m first.t (bytes_from file first))
        ≡ given (last.m, last.t, bytes_from file last)) where
      record Stood : Type 0 where
        start : ℕ
        ss : List State
        is : read file ≡ finish start (ss, bytes_from file last)
        few : length (all_commands ss) ≡ last.m
        outcomes : length (joined (all_commands ss)) ≡ last.t

      stood : Stood
      unfolding ◌>>=◌
      stood =
          let (start, a) = begun in
          let (y, i, j) = answer_inv (λ x. after_field file head_mark 4) (head file) e in
          let (x, p, q) = answer_inv (after_states first.m first.t) (states n n first.m first.t (bytes_from file first)) w in
          let m₀ : 0 ≡ first.m = ap (λ (z : ℕ × ℕ × List ℕ). z.0) j in
          let t₀ : 0 ≡ first.t = ap (λ (z : ℕ × ℕ × List ℕ). z.1) j in
          let m₁ : first.m + length (all_commands x.0) ≡ last.m = ap (λ (z : ℕ × ℕ × List ℕ). z.0) q in
          let t₁ : first.t + length (joined (all_commands x.0)) ≡ last.t = ap (λ (z : ℕ × ℕ × List ℕ). z.1) q in
          let at : x.1 ≡ bytes_from file last = ap (λ (z : ℕ × ℕ × List ℕ). z.2) q in
          let there : (states n n first.m first.t (bytes_from file first) >>= finish start) ≡ finish start (x.0, bytes_from file last)
          = ap (λ (z : Answer (List State × List ℕ)). z >>= finish start) p ∙ ap (λ (z : List ℕ). finish start (x.0, z)) at in
          record { start = start; ss = x.0; is = a ∙ there; few = omega arith; outcomes = omega arith }

      pub end_stops : {f : Result Mark Refusal} {r : Refusal} → f ≡ Err r
          → Walks file f (answer (after_field file last) (field end_tag (bytes_from file last)))
          → Walks file f (answer after_file (read file))
      unfolding finish
      end_stops told v = let t = stood in rw t.is (ends _ _ _ _ told v)

      module _ (end : Mark) (v : answer (after_field file last) (field end_tag (bytes_from file last))
          ≡ given (end.m, end.t, bytes_from file end)) where
        ended : (field end_tag (bytes_from file last) ≡ given 0) × (3 ≤ length (bytes_from file last))
            × (◌≡◌ {A = ℕ × ℕ × List ℕ} (end.m, end.t, bytes_from file end) (after_field file last 0))
        ended = fixed_inv end_tag 0 (bytes_from file last) (after_field file last) (λ l t. eqb-true l 0 t) v

        over : length (bytes_from file end) ≡ length (bytes_from file last) - 3
        over = ap (λ (z : ℕ × ℕ × List ℕ). length z.2) ended.2 ∙ length-drop 3 (bytes_from file last)

        pub file_surplus : 0 < length (bytes_from file end) → refused Surplus ≡ answer after_file (read file)
        unfolding finish ◌>>=◌ ◌>>◌ need answer
        file_surplus h =
            let t = stood in
            let o = over in
            let l : 3 < length (bytes_from file last) = omega arith in
            rw (t.is, ended.0, lt-leb _ _ l)

        pub file_read : length (bytes_from file end) ≤ 0 → given (end.m, end.t, bytes_from file end) ≡ answer after_file (read file)
        unfolding finish ◌>>=◌ ◌>>◌ need answer tables_of
        file_read h =
            let t = stood in
            let o = over in
            let l : length (bytes_from file last) ≤ 3 = omega arith in
            let none : drop 3 (bytes_from file last) ≡ [] = drop_of_length-le (bytes_from file last) l in
            rw (t.is, ended.0, le-leb _ _ l, t.few, t.outcomes) (ap given (ended.2 ∙ ap (λ (z : List ℕ). (last.m, last.t, z)) none))

-- the size record of a file that was read
module _ (file : List ℕ) (k : Mark) (e : answer after_file (read file) ≡ given (k.m, k.t, bytes_from file k)) where
  pub read_long : 7 ≤ length file
  read_long = let (p, i, j) = answer_inv after_file (read file) e in (read_inv file p i).headed.framed.fits

  pub read_size : {n start : ℕ} → n ≡ be16 file 3 → start ≡ be16 file 5
      → given (record { n = n; m = k.m; t = k.t; start = start }) ≡ answer (λ p. (tables_of p).size) (read file)
  unfolding answer tables_of
  read_size a b =
      let (p, i, j) = answer_inv after_file (read file) e in
      let r = read_inv file p i in
      let n₁ = states_count r.stated ∙ sym r.headed.counts ∙ sym a in
      let s₁ = sym r.headed.starts ∙ sym b in
      let m₁ = ap (λ (z : ℕ × ℕ × List ℕ). z.0) j in
      let t₁ = ap (λ (z : ℕ × ℕ × List ℕ). z.1) j in
      rw (i, n₁, s₁, m₁, t₁)

pub read_refused : {file : List ℕ} {f : Result Mark Refusal} {r : Refusal} → f ≡ Err r → Walks file f (answer after_file (read file))
    → refused (refusal_of r) ≡ answer (λ p. (tables_of p).size) (read file)
unfolding answer
read_refused {file} told w = rw (refused_inv after_file (read file) (sym w.answers ∙ ap (passed_of file) told))
