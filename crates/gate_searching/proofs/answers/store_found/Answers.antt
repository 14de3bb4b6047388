-- The verdict and the rounds are stored one behind the other; together they are the bytes of the answer.
use Rattle.gate_searching.proofs.Delivering.{flag_told, found_stored}
use Rattle.gate_searching.proofs.answers.store_found.Goals as goal

pub returns : goal.returns
returns c = record {
  stored = let f = c.args.found in
      found_stored (f.lost, f.rounds) _ c.requires.fits.1 (rw (c.from.ensures, flag_told f.lost) at c.store_entry.ensures)
      c.store_entry-2.ensures;
}
