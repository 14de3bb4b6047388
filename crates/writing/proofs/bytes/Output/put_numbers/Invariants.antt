-- When the loop comes to a number, the bytes of those before it are put, and there is room for the rest.
use lib.ListN.{length, get_or}
use Rattle.laws.specs.Entry.{twos}
use Rattle.writing.proofs.Puts.{Putting}
use Rattle.writing.proofs.bytes.Output.put_numbers.Given as goal

abbrev pub invariant-loop-x : goal.invariant-loop-x
invariant-loop-x l = Putting twos (λ i. get_or l.numbers i 0) (length l.numbers) 0 l.initial.self l.self l.x-index
