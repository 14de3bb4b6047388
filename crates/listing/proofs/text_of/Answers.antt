-- The text is put at the front of zeros, which is what is answered.
use mathlib.Core.Path.{refl, ap}
use Rattle.listing.specs.declared.Text.{Text}
use Rattle.listing.proofs.Files.{text_put}
use Rattle.listing.proofs.text_of.Goals as goal

pub returns : goal.returns
returns c = record {
  text = text_put c.args.input.now (ap (λ (t : Text). t.bytes) c.new-text.ensures) refl c.write_listing.ensures;
}
