-- The bytes of a good tree are read as that tree.
use mathlib.Core.Path.{◌≡◌, refl, ap₂, sym, ◌∙◌}
use mathlib.Core.Bool.{true}
use mathlib.Core.List.{List, [], ◌∷◌}
use Prim.Native.Nat.{ℕ, ◌+◌, ◌*◌, ◌%◌, ◌<◌, ◌≤◌}
use native.Mathlib.Omega.{arith}
use native.Mathlib.Nat.{add-zero, add_assoc}
use lib.ListN.{length, drop, length-append}
use lib.Seq.{drop-drop}
use borrow.Author.Tests.{le-leb, eq-eqb}
use Rattle.laws.specs.Entry.{two, twos}
use Rattle.laws.specs.Lists.{joined}
use Rattle.laws.proofs.All.{All, none, more}
use Rattle.laws.proofs.Entry.{be16_two, length_twos, drop_twos}
use Rattle.laws.proofs.Joins.{length_joined}
use Rattle.model.specs.Refusal.{given, need, ◌>>=◌, ◌>>◌}
use Rattle.model.specs.File.{
  max_states,
  max_commands,
  max_outcomes,
  State,
  StateField,
  field_of,
  Tree,
  head_tag,
  state_tag,
  command_tag,
  end_tag,
  allowed,
  not_idle,
  head,
  state,
  entries,
  command,
  commands,
  states,
  read,
}
use Rattle.model.specs.Bytes.{state_bytes, commands_bytes, states_bytes, bytes_of}
use Rattle.model.specs.Tables.{all_commands}
use Rattle.model.proofs.Fields.{Framed, field_gives, head_gives, state_gives, command_gives}
use Rattle.model.proofs.Good.{GoodCommand, GoodState, Good}

framed : (tag len : ℕ) (r : List ℕ) → allowed tag len ≡ true → len ≤ length r → Framed tag (tag ∷ two len r) len
framed tag len r a l = record { tagged = refl; long = be16_two len r; right = a; fits = omega arith }

head_forth : (n start : ℕ) (r : List ℕ) → 1 ≤ n → n ≤ max_states → start < n → head (head_tag ∷ two 4 (two n (two start r)))
    ≡ given (n, start)
head_forth n start r h l i = head_gives _ n start (record {
  framed = framed head_tag 4 (two n (two start r)) refl (omega arith);
  counts = be16_two n [];
  starts = be16_two start r;
  some = h;
  few = l;
  inside = i;
})

state_forth : (m : ℕ) (q : StateField) (r : List ℕ) → q.kind ≤ 2 → not_idle q ≡ true → m + q.count ≤ max_commands
    → state m (state_bytes q r) ≡ given q
state_forth m q r h b l = state_gives m _ q (record {
  framed = framed state_tag 5 (q.kind ∷ two q.count (two q.practice r)) refl (omega arith);
  is = λ i. record { kind = q.kind; count = be16_two q.count r i; practice = be16_two q.practice r i };
  low = h;
  works = b;
  few = l;
})

entries_forth : (os r : List ℕ) → entries (length os) (twos os r) ≡ os
unfolding entries twos
entries_forth [] r = refl
entries_forth (o ∷ os) r = ap₂ (λ (x : ℕ) (q : List ℕ). x ∷ q) (be16_two o r) (entries_forth os r)

even : (k : ℕ) → 1 ≤ k → allowed command_tag (k * 2) ≡ true
even k h = rw (eq-eqb (k * 2 % 2) 0 (omega arith), le-leb 2 (k * 2) (omega arith))

command_forth : (n t : ℕ) (os r : List ℕ) → t + length os ≤ max_outcomes → GoodCommand n os
    → command n t (command_tag ∷ two (length os * 2) (twos os r)) ≡ given os
command_forth n t os r l g = command_gives n t _ os (record {
  framed = framed command_tag (length os * 2) (twos os r) (even (length os) g.some) (omega (arith, length_twos os r));
  are = entries_forth os r;
  some = g.some;
  few = l;
  rise = g.rise;
})

after_command_lem : (os r : List ℕ) → drop (3 + length os * 2) (command_tag ∷ two (length os * 2) (twos os r)) ≡ r
after_command_lem os r = sym (drop-drop (length os * 2) 3 (command_tag ∷ two (length os * 2) (twos os r))) ∙ drop_twos os r

commands_forth : {n : ℕ} {cs : List (List ℕ)} (t : ℕ) (r : List ℕ) → All (GoodCommand n) cs → t + length (joined cs) ≤ max_outcomes
    → commands n (length cs) t (commands_bytes cs r) ≡ given (cs, t + length (joined cs), r)
unfolding commands commands_bytes joined ◌>>=◌
commands_forth t r none l = rw (add-zero t)
commands_forth {n} t r (more {x = c} {xs = cs} g gs) l =
    let e = length-append c (joined cs) in
    let rest = commands_bytes cs r in
    rw (command_forth n t c rest (omega arith) g, after_command_lem c rest, commands_forth (t + length c) r gs (omega arith), e, add_assoc)

states_forth : {n : ℕ} {ss : List State} (m t : ℕ) (r : List ℕ) → All (GoodState n) ss
    → m + length (all_commands ss) ≤ max_commands → t + length (joined (all_commands ss)) ≤ max_outcomes
    → states n (length ss) m t (states_bytes ss r) ≡ given (ss, r)
unfolding states states_bytes all_commands ◌>>=◌
states_forth m t r none l k = refl
states_forth m t r (more {x = s} {xs = ss} g gs) l k =
    let d = length-append s.commands (all_commands ss) in
    let e = length_joined s.commands (all_commands ss) in
    rw (
      state_forth m (field_of s) (commands_bytes s.commands (states_bytes ss r)) g.low g.works (omega arith),
      commands_forth t (states_bytes ss r) g.good (omega arith),
      states_forth (m + length s.commands) (t + length (joined s.commands)) r gs (omega arith) (omega arith),
    )

pub read_forth : (p : Tree) → Good p → read (bytes_of p) ≡ given p
unfolding read bytes_of ◌>>=◌ ◌>>◌ need
read_forth p g =
    rw (
      head_forth (length p.states) p.start (states_bytes p.states (end_tag ∷ two 0 [])) g.some g.few g.inside,
      states_forth 0 0 (end_tag ∷ two 0 []) g.good (omega arith) (omega arith),
      field_gives end_tag _ 0 (framed end_tag 0 [] refl (omega arith)),
    )
