-- An input over the limit is refused, and any other is listed: those are the two cases of `listing`.
use Rattle.listing.proofs.Files.{over_limit, in_limit}
use Rattle.listing.proofs.write_listing.Goals as goal

pub returns-then-input-gt-LIMIT : goal.returns-then-input-gt-LIMIT
returns-then-input-gt-LIMIT c =
    rw (over_limit c.args.input.now c.if-input-gt-LIMIT.true) c.put_refusal.ensures.wrote

pub returns-else-input-gt-LIMIT : goal.returns-else-input-gt-LIMIT
returns-else-input-gt-LIMIT c =
    rw (in_limit c.args.input.now c.if-input-gt-LIMIT.false) c.list_file.ensures
