-- The two bytes written are those of the number, by the definition of writing them one after another.
use native.Mathlib.Omega.{arith}
use mathlib.Core.Path.{refl}
use Rattle.laws.specs.Writes.{put_all}
use Rattle.store.proofs.Entries.{bytes_two}
use Rattle.store.proofs.encoding.store_entry.Goals as goal

pub returns : goal.returns
unfolding put_all
returns c = rw (bytes_two c.args.x (omega arith) c.to_be_bytes.ensures) refl
