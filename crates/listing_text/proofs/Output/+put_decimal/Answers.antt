-- Below ten a number is its last digit; otherwise the call of itself stores the digits of its tenth, and the last one follows.
use Prim.Native.Nat.{ℕ, ◌+◌, ◌<◌, ◌≤◌}
use native.Mathlib.Omega.{arith}
use Rattle.model.specs.Listing.{decimal}
use Rattle.model.proofs.Decimals.{decimal_one, decimal_more, decimal_short}
use Rattle.listing_text.specs.declared.Output.{Output}
use Rattle.listing_text.specs.Puts.{Put}
use Rattle.listing_text.proofs.Puts.{put_then}
use Rattle.listing_text.proofs.Output.+put_decimal.Goals.{then-x-ge-TWO_DIGITS, else-x-ge-TWO_DIGITS}
use Rattle.listing_text.proofs.Output.+put_decimal.Goals as goal

-- a number with a digit to spare
five_bytes : {a b : Output} {x : ℕ} → Put a (decimal x) b → x < 100000 → b.place ≤ a.place + 5
five_bytes {x = x} w h = omega (arith, w.past, decimal_short x h)

pub put_byte-requires : goal.put_byte-requires
put_byte-requires t c =
    elim c.if-x-ge-TWO_DIGITS.branch [
      | then-x-ge-TWO_DIGITS w ↦ rw w.self-is (omega (arith, five_bytes w.put_decimal.ensures.wrote (omega arith)))
      | else-x-ge-TWO_DIGITS w ↦ rw w.self-is (omega arith)
    ]

pub returns-clause-wrote : goal.returns-clause-wrote
returns-clause-wrote t c =
    let low = rw c.last_digit.ensures at c.put_byte.ensures in
    elim c.if-x-ge-TWO_DIGITS.branch [
      | then-x-ge-TWO_DIGITS w ↦
          rw (decimal_more c.args.x (omega (arith, w.if-x-ge-TWO_DIGITS.true)) (omega arith)) (put_then w.put_decimal.ensures.wrote (rw w.self-is at low))
      | else-x-ge-TWO_DIGITS w ↦ rw (decimal_one c.args.x (omega (arith, w.if-x-ge-TWO_DIGITS.false))) (rw w.self-is at low)
    ]

pub returns-clause-ends : goal.returns-clause-ends
returns-clause-ends t c =
    elim c.if-x-ge-TWO_DIGITS.branch [
      | then-x-ge-TWO_DIGITS w ↦ omega (arith, (rw w.self-is at c.put_byte.ensures).past, five_bytes w.put_decimal.ensures.wrote (omega arith))
      | else-x-ge-TWO_DIGITS w ↦ omega (arith, (rw w.self-is at c.put_byte.ensures).past)
    ]
