-- A word copied into the middle of bytes.
use mathlib.Core.Path.{◌≡◌, refl, sym, ap, ap₂, ◌∙◌}
use mathlib.Core.List.{List, ◌++◌, append_assoc}
use Prim.Native.Nat.{ℕ, ◌+◌, ◌-◌, ◌≤◌}
use native.Mathlib.Nat.{zero-add}
use native.Mathlib.Omega.{arith}
use borrow.Rule.Slice.PartMut.{put_mid}
use lib.ListN.{length, take, drop, length-append}
use lib.Seq.{length-take-le}
use Rattle.std.proofs.Common.{take-append-drop, drop-drop}
use Rattle.laws.specs.Lists.{overwrite}
use Rattle.laws.specs.Writes.{put_all}
use Rattle.laws.specs.Wrote.{Wrote}
use Rattle.laws.proofs.Writes.{put_append, put_front}

module _ (l xs : List ℕ) (i : ℕ) (room : i + length xs ≤ length l) where
  abbrev front : List ℕ
  front = take i l

  front_long : length front ≡ i
  front_long = length-take-le i l (omega (arith, room))

  front_put : put_all l 0 front ≡ l
  unfolding overwrite
  front_put = put_front l front (omega (arith, room, front_long)) ∙ ap (λ (n : ℕ). front ++ drop n l) front_long ∙ take-append-drop i l

  middle_put : put_all l i xs ≡ put_mid i (length xs) l xs
  unfolding overwrite
  middle_put =
      ap₂ (λ (r : List ℕ) (j : ℕ). put_all r j xs) (sym front_put) (sym (zero-add (length front) ∙ front_long))
      ∙ sym (put_append l 0 front xs)
      ∙ put_front l (front ++ xs) (omega (arith, room, front_long, length-append front xs))
      ∙ append_assoc front xs (drop (length (front ++ xs)) l)
      ∙ ap (λ (n : ℕ). front ++ (xs ++ drop n l)) (length-append front xs ∙ ap (λ (n : ℕ). n + length xs) front_long)
      ∙ ap (λ (r : List ℕ). front ++ (xs ++ r)) (sym (drop-drop (length xs) i l))

pub copied : {l xs copy : List ℕ} {i : ℕ} → i + length xs ≤ length l → copy ≡ xs
    → Wrote l i xs (put_mid i (i + length xs - i) l copy) (i + length xs)
copied {l} {xs} {copy} {i} room e =
    let k : i + length xs - i ≡ length xs = omega arith in
    record { stored = ap₂ (λ (n : ℕ) (ys : List ℕ). put_mid i n l ys) k e ∙ sym (middle_put l xs i room); past = refl }
