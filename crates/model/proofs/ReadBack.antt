-- What is read of a file is written as that file.
use mathlib.Core.Path.{◌≡◌, refl, ap, sym, ◌∙◌}
use mathlib.Core.List.{List, ◌∷◌}
use Prim.Native.Nat.{ℕ, zero, suc, ◌+◌, ◌*◌, ◌≤◌}
use native.Mathlib.Omega.{arith}
use lib.ListN.{length, drop, length-drop, drop_of_length-le}
use lib.Seq.{drop-cons, drop-drop}
use Rattle.laws.specs.Entry.{Bytes, be16, two, twos}
use Rattle.laws.proofs.Entry.{pair_at, bytes_drop}
use Rattle.model.specs.Refusal.{given}
use Rattle.model.specs.File.{State, StateField, Tree, head_tag, command_tag, end_tag, entries, read}
use Rattle.model.specs.Bytes.{state_bytes, commands_bytes, states_bytes, bytes_of}
use Rattle.model.proofs.Fields.{Framed, Headed, Stated, Commanded}
use Rattle.model.proofs.Readings.{CommandsRead, StatesRead, none, more, commands_count, states_count, read_inv}

field_back : {tag : ℕ} {s : List ℕ} {len : ℕ} → Bytes s → Framed tag s len → s ≡ tag ∷ two len (drop 3 s)
field_back {tag} {s} b f =
    drop-cons s 0 0 (omega arith)
    ∙ rw f.tagged (ap (λ (r : List ℕ). tag ∷ r) (rw f.long at (pair_at s 1 b (omega arith))))

head_back : {s : List ℕ} {n start : ℕ} → Bytes s → Headed s n start → s ≡ head_tag ∷ two 4 (two n (two start (drop 7 s)))
head_back {s} b h =
    let fits = h.framed.fits in
    rw (← h.counts, ← h.starts, ← (pair_at s 5 b fits), ← (pair_at s 3 b (omega arith))) (field_back b h.framed)

state_back : {m : ℕ} {s : List ℕ} {q : StateField} → Bytes s → Stated m s q → s ≡ state_bytes q (drop 8 s)
state_back {m} {s} b h =
    let fits = h.framed.fits in
    rw (← h.is, ← (pair_at s 6 b fits), ← (pair_at s 4 b (omega arith)), ← (drop-cons s 3 0 (omega arith)))
    (field_back b h.framed)

entries_back : (k : ℕ) (s : List ℕ) → Bytes s → k * 2 ≤ length s → s ≡ twos (entries k s) (drop (k * 2) s)
unfolding entries twos
entries_back zero s b l = refl
entries_back (suc k) s b l =
    let more : 2 + k * 2 ≡ suc k * 2 = omega arith in
    let r = entries_back k (drop 2 s) (bytes_drop 2 s b) (rw length-drop (omega arith)) in
    pair_at s 0 b (omega arith) ∙ ap (two (be16 s 0)) (rw (drop-drop, more) at r)

command_back : {n t : ℕ} {s os : List ℕ} → Bytes s → Commanded n t s os
    → s ≡ command_tag ∷ two (length os * 2) (twos os (drop (3 + length os * 2) s))
command_back {n} {t} {s} {os} b c =
    let r = entries_back (length os) (drop 3 s) (bytes_drop 3 s b) (rw length-drop (omega (arith, c.framed.fits))) in
    field_back b c.framed ∙ ap (λ (r : List ℕ). command_tag ∷ two (length os * 2) r) (rw (c.are, drop-drop) at r)

commands_back : {n k t t₁ : ℕ} {s s₁ : List ℕ} {cs : List (List ℕ)} → Bytes s → CommandsRead n k t s cs t₁ s₁ → Bytes s₁
    × (s ≡ commands_bytes cs s₁)
unfolding commands_bytes
commands_back b none = (b, refl)
commands_back b (more {s} {os} c r) =
    let (b₁, e) = commands_back (bytes_drop (3 + length os * 2) s b) r in
    (b₁, command_back b c ∙ ap (λ (z : List ℕ). command_tag ∷ two (length os * 2) (twos os z)) e)

states_back : {n k m t : ℕ} {s s₁ : List ℕ} {ss : List State} → Bytes s → StatesRead n k m t s ss s₁ → Bytes s₁ × (s ≡ states_bytes ss s₁)
unfolding states_bytes
states_back b none = (b, refl)
states_back b (more {q} {s} {cs} g c r) =
    let (b₁, d) = commands_back (bytes_drop 8 s b) c in
    let (b₂, e) = states_back b₁ r in (
      b₂,
      state_back b g
          ∙ rw (commands_count c) (ap (state_bytes q) (d ∙ ap (commands_bytes cs) e)),
    )

pub read_back : (s : List ℕ) (p : Tree) → Bytes s → read s ≡ given p → bytes_of p ≡ s
unfolding bytes_of
read_back s p b e =
    let r = read_inv s p e in
    let (b₁, d) = states_back (bytes_drop 7 s b) r.stated in
    let end = field_back b₁ r.ended ∙ ap (λ (z : List ℕ). end_tag ∷ two 0 z) (drop_of_length-le r.rest r.last) in
    sym (head_back b r.headed
    ∙ rw (states_count r.stated)
    (ap (λ (z : List ℕ). head_tag ∷ two 4 (two r.n (two p.start z))) (d ∙ ap (states_bytes p.states) end)))
