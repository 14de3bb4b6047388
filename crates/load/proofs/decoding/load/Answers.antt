-- The invariant is that the entries left to load make the table what all of them make it.
use mathlib.Core.List.{List}
use Prim.Native.Nat.{ℕ, ◌*◌}
use Rattle.model.proofs.Lent.{take_entries}
use Rattle.laws.proofs.Writes.{ruled_next, ruled_last, ruled_first}
use Rattle.laws.specs.Lists.{overwrite}
use Rattle.laws.specs.Entry.{be16}
use lib.ListN.{length-set}
use mathlib.Core.Path.{sym, ap, ◌∙◌}
use native.Mathlib.Omega.{arith}
use Rattle.load.proofs.decoding.load.Goals as goal

pub loop-i-preserved : goal.loop-i-preserved
loop-i-preserved c =
    let bytes = c.args.bytes.now in (
      omega arith,
      simp length-set c.loop-i.invariant.1,
      ruled_next (λ j. be16 bytes (j * 2)) c.args.n c.loop-i.i c.loop-i.table
          c.loop-i-test.true c.entry_at.ensures ∙ c.loop-i.invariant.2,
    )

pub returns : goal.returns
returns c =
    let a = c.args in
    let f : ℕ → ℕ = λ j. be16 a.bytes.now (j * 2) in
    sym (ruled_last f a.n c.loop-i.i c.loop-i.table c.loop-i-test.false)
    ∙ c.loop-i.invariant.2
    ∙ ruled_first f a.n a.table.now c.requires.1
    ∙ ap (λ (xs : List ℕ). overwrite xs a.table.now) (sym (take_entries a.n a.bytes.now c.requires.0))
