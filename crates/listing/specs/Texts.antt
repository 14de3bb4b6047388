-- A text, as the listing is answered.
use Rattle.std.specs.Prelude.{List, ℕ, length, replicate}
use Rattle.laws.specs.Lists.{overwrite}
use Rattle.model.specs.Listing.{max_listing}
use Rattle.listing.specs.declared.Text.{Text}

-- nothing yet
abbrev pub blank : Text
blank = record { bytes = replicate max_listing 0; length = 0 }

-- at the front of bytes that hold every listing, with zeros past it
abbrev pub text_of : List ℕ → Text
text_of text = record { bytes = overwrite text (replicate max_listing 0); length = length text }
