-- The two bytes of an entry, and entries that are stored one after another: a row's three, a size record's four, and those of several rows.
use mathlib.Core.Path.{◌≡◌, refl, ap, ◌∙◌}
use mathlib.Core.List.{List, [], ◌∷◌, ◌++◌}
use Prim.Native.Nat.{ℕ, ◌+◌, ◌*◌, ◌%◌, ◌<◌, ◌≤◌}
use native.Mathlib.Omega.{arith}
use lib.ListN.{length}
use Rattle.std.specs.Int.{w16, to_be_bytes}
use Rattle.laws.specs.Entry.{two, twos}
use Rattle.laws.specs.Lists.{overwrite}
use Rattle.laws.specs.Writes.{put_all}
use Rattle.laws.proofs.Blocks.{Blocks}
use Rattle.laws.proofs.Writes.{put_then, put_front}
use Rattle.model.specs.Tables.{Row as ModelRow, Size as ModelSize}
use Rattle.model.specs.Boundary.{entry_bytes, row_width, row_bytes, size_bytes, bytes_for, row_entries, size_entries}

pub bytes_two : (x : ℕ) → x < 65536 → {bytes : List ℕ} → bytes ≡ to_be_bytes w16 x → bytes ≡ two x []
bytes_two x h e = e ∙ ap (λ (high : ℕ). high ∷ x % 256 ∷ []) (omega arith)

pub row_stored : (w : ModelRow) (s : ℕ) (l₀ : List ℕ) {l₁ l₂ l₃ : List ℕ} → l₁ ≡ put_all l₀ (s * row_width * entry_bytes) (two w.kind [])
    → l₂ ≡ put_all l₁ ((s * row_width + 1) * entry_bytes) (two w.first []) → l₃
    ≡ put_all l₂ ((s * row_width + 2) * entry_bytes) (two w.practice [])
    → l₃ ≡ put_all l₀ (s * row_bytes) (bytes_for (row_entries (w ∷ [])))
unfolding row_entries twos
row_stored w s l₀ p q r =
    let k : List ℕ = two w.kind [] in
    let f : List ℕ = two w.first [] in
    let e : s * row_width * entry_bytes ≡ s * row_bytes = omega arith in
    let p' = p ∙ ap (λ (i : ℕ). put_all l₀ i k) e in
    put_then l₀ (s * row_bytes) (k ++ f) (two w.practice []) (put_then l₀ (s * row_bytes) k f p' q (omega arith)) r (omega arith)

pub size_stored : (z : ModelSize) (l₀ : List ℕ) {l₁ l₂ l₃ l₄ : List ℕ} → size_bytes ≤ length l₀ → l₁ ≡ put_all l₀ 0 (two z.n [])
    → l₂ ≡ put_all l₁ 2 (two z.m []) → l₃ ≡ put_all l₂ 4 (two z.t []) → l₄ ≡ put_all l₃ 6 (two z.start [])
    → l₄ ≡ overwrite (bytes_for (size_entries z)) l₀
unfolding size_entries twos
size_stored z l₀ h p q r u =
    let n : List ℕ = two z.n [] in
    let m : List ℕ = two z.m [] in
    let t : List ℕ = two z.t [] in
    let start : List ℕ = two z.start [] in
    put_then l₀ 0 ((n ++ m) ++ t) start (put_then l₀ 0 (n ++ m) t (put_then l₀ 0 n m p q refl) r refl) u refl
    ∙ put_front l₀ (((n ++ m) ++ t) ++ start) h

pub rows_blocks : Blocks row_bytes (λ (ws : List ModelRow). bytes_for (row_entries ws))
unfolding row_entries twos
rows_blocks = record { none = refl; more = λ w ws. refl; wide = λ w. refl }
