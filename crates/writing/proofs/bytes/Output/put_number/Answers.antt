-- The high byte of a number below 65536 is the number by 256.
use mathlib.Core.Path.{◌≡◌}
use Prim.Native.Nat.{◌/◌, ◌%◌}
use native.Mathlib.Omega.{arith}
use Rattle.writing.proofs.Puts.{put_then}
use Rattle.writing.proofs.bytes.Output.put_number.Goals as goal

pub returns : goal.returns
returns c =
    let high : c.args.x / 256 % 256 ≡ c.args.x / 256 = omega (arith, c.ranges.x.fits) in
    rw high at (rw c.to_be_bytes.ensures at (put_then c.put_byte.ensures c.put_byte-2.ensures))
