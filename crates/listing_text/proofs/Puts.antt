-- Bytes put one after another.
use mathlib.Core.Path.{◌≡◌, ◌∙◌}
use mathlib.Core.List.{List, ◌++◌}
use Prim.Native.Nat.{ℕ}
use Rattle.laws.specs.Wrote.{Wrote}
use Rattle.laws.proofs.Wrote.{wrote_then, wrote_length}
use Rattle.listing_text.specs.declared.Output.{Output}
use Rattle.listing_text.specs.Puts.{Put}

module _ {a b : Output} {xs : List ℕ} where
  pub wrote : Put a xs b → Wrote a.bytes.now a.place xs b.bytes.now b.place
  wrote p = record { stored = p.stored; past = p.past }

  pub put : b.bytes.ghost_name ≡ a.bytes.ghost_name → Wrote a.bytes.now a.place xs b.bytes.now b.place → Put a xs b
  put e w = record { same = e; keeps = wrote_length w; stored = w.stored; past = w.past }

pub put_then : {a b c : Output} {xs ys : List ℕ} → Put a xs b → Put b ys c → Put a (xs ++ ys) c
put_then p q = put (q.same ∙ p.same) (wrote_then (wrote p) (wrote q))
