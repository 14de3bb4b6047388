-- Numbers of two bytes and lists of bytes: what is written is what is read, and the other way round.
use mathlib.Core.Path.{◌≡◌, refl}
use mathlib.Core.List.{List, [], ◌∷◌}
use Prim.Native.Nat.{ℕ, zero, suc, ◌+◌, ◌*◌, ◌/◌, ◌%◌, ◌<◌, ◌≤◌}
use native.Mathlib.Omega.{arith}
use native.Mathlib.Nat.{div-add-mod'}
use native.Mathlib.Numerals.{add-one}
use lib.ListN.{length, get_or, drop}
use lib.Seq.{drop-cons, get_or-drop}
use Rattle.laws.specs.Entry.{Bytes, be16, two, twos}
use Rattle.laws.proofs.All.{All, none, more}

-- two bytes of a number are that number
pub be16_two : (v : ℕ) (r : List ℕ) → be16 (two v r) 0 ≡ v
be16_two v r = div-add-mod' v 256

-- two bytes at place i are the number there
pub pair_at : (s : List ℕ) (i : ℕ) → Bytes s → i + 2 ≤ length s → drop i s ≡ two (be16 s i) (drop (i + 2) s)
pair_at s i b h =
    let x = b.byte i in
    let y = b.byte (i + 1) in
    let p : be16 s i / 256 ≡ get_or s i 0 = omega arith in
    let q : be16 s i % 256 ≡ get_or s (i + 1) 0 = omega arith in
    let e : suc (i + 1) ≡ i + 2 = omega arith in
    rw (p, q, drop-cons s i 0 (omega arith), ← (add-one i), drop-cons s (i + 1) 0 (omega arith), e)

pub length_twos : (vs r : List ℕ) → length (twos vs r) ≡ length vs * 2 + length r
unfolding twos
length_twos [] r = omega arith
length_twos (v ∷ vs) r = omega (arith, length_twos vs r)

pub drop_twos : (vs r : List ℕ) → drop (length vs * 2) (twos vs r) ≡ r
unfolding twos
drop_twos [] r = refl
drop_twos (v ∷ vs) r = let e : suc (length vs) * 2 ≡ suc (suc (length vs * 2)) = omega arith in rw e (drop_twos vs r)

pub bytes_drop : (k : ℕ) (s : List ℕ) → Bytes s → Bytes (drop k s)
bytes_drop k s b = record { byte = λ i. rw get_or-drop (b.byte (k + i)) }

pub bytes_nil : Bytes []
bytes_nil = record { byte = λ i. omega arith }

pub bytes_cons : {x : ℕ} {r : List ℕ} → x < 256 → Bytes r → Bytes (x ∷ r)
bytes_cons {x} {r} h b = record { byte = at }
  where
    at : (i : ℕ) → get_or (x ∷ r) i 0 < 256
    at zero = h
    at (suc i) = b.byte i

pub bytes_two : (v : ℕ) {r : List ℕ} → v < 65536 → Bytes r → Bytes (two v r)
bytes_two v h b = bytes_cons (omega arith) (bytes_cons (omega arith) b)

pub bytes_twos : {n : ℕ} {vs r : List ℕ} → n ≤ 65536 → All (λ v. v < n) vs → Bytes r → Bytes (twos vs r)
unfolding twos
bytes_twos l none b = b
bytes_twos l (more {x} h hs) b = bytes_two x (omega arith) (bytes_twos l hs b)
