-- The text of a listing fits the bytes that hold it.
use Rattle.listing.proofs.Files.{text_room}
use Rattle.list.proofs.print.Goals as goal

pub as_bytes-requires : goal.as_bytes-requires
as_bytes-requires c = text_room _ _ c.text_of-text.ensures.text
