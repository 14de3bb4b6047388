-- A lack of room leaves the slices as they were; else each slice begins with what the search left.
use mathlib.Core.Path.{sym, ◌∙◌}
use lib.ListN.{length}
use Rattle.model.specs.Boundary.{code}
use Rattle.gate_searching.proofs.Delivering.{cramped, fits, room_facts, refused_after, given_after}
use Rattle.gate_searching.proofs.answers.deliver.Goals as goal

pub returns-then-not-room : goal.returns-then-not-room
unfolding code
returns-then-not-room c = record {
  call = refused_after _ _ _ _ _ _ _ (cramped _ _ _ _ _ (sym c.room.ensures.tested ∙ c.if-not-room.true));
}

pub store-requires : goal.store-requires
store-requires c = (c.requires.fits.0, (room_facts _ _ _ _ (sym c.room.ensures.tested ∙ c.if-not-room.false)).0)

pub store-requires-2 : goal.store-requires-2
store-requires-2 c = (c.requires.fits.1, (room_facts _ _ _ _ (sym c.room.ensures.tested ∙ c.if-not-room.false)).1)

pub store_found-requires : goal.store_found-requires
store_found-requires c = record {
  fits = let a = c.args in (
    c.requires.fits.2,
    (room_facts a.n (length a.commands.now) (length a.scratch.now) (length a.answer.now)
        (sym c.room.ensures.tested ∙ c.if-not-room.false)).2,
  );
}

pub returns : goal.returns
unfolding code
returns c = record {
  call = given_after _ _ _ _ _ _ _ (fits _ _ _ _ _ (sym c.room.ensures.tested ∙ c.if-not-room.false)) c.store.ensures c.store-2.ensures
      c.store_found.ensures.stored;
}
