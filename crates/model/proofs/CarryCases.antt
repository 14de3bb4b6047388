-- Carrying back, computed on small tables: what is answered, and the lent table afterwards.
use mathlib.Core.Path.{◌≡◌, refl}
use mathlib.Core.List.{[], ◌∷◌}
use lib.ListN.{replicate}
use Rattle.laws.specs.Sets.{every, or_else, lowest}
use Rattle.laws.specs.Lists.{tabulate, overwrite}
use Rattle.laws.specs.Entry.{FFFF}
use Rattle.model.specs.Refusal.{Cramped, Unsound, given, refused, answer, need, ◌>>◌}
use Rattle.model.specs.Calls.{left}
use Rattle.model.specs.Carry.{new_in, entry_at, carried, picked, carry_sound, carrying, carry_call}

-- 0, 3 and 4 are kept of five states: the third entry is FFFF, the fourth has no state, and a place to spare stays as it was
carry_some : carry_call 5 (0 ∷ 3 ∷ 4 ∷ []) (8 ∷ 9 ∷ FFFF ∷ 10 ∷ []) (replicate 6 7)
    ≡ record { answers = given tt; places = 8 ∷ FFFF ∷ FFFF ∷ 9 ∷ FFFF ∷ 7 ∷ [] }
unfolding every or_else lowest tabulate overwrite answer need ◌>>◌ left new_in entry_at carried carry_sound carrying
carry_some = refl

-- what is picked out of it is the front of the table
pick_some : picked (0 ∷ 3 ∷ 4 ∷ []) (8 ∷ FFFF ∷ FFFF ∷ 9 ∷ FFFF ∷ 7 ∷ []) ≡ 8 ∷ 9 ∷ FFFF ∷ []
unfolding picked
pick_some = refl

-- a map without entries
carry_none : carry_call 2 [] [] (7 ∷ 7 ∷ []) ≡ record { answers = given tt; places = FFFF ∷ FFFF ∷ [] }
unfolding every or_else lowest tabulate overwrite answer need ◌>>◌ left new_in entry_at carried carry_sound carrying
carry_none = refl

-- one that has every state
carry_whole : carry_call 2 (0 ∷ 1 ∷ []) (0 ∷ 65534 ∷ []) (7 ∷ 7 ∷ []) ≡ record { answers = given tt; places = 0 ∷ 65534 ∷ [] }
unfolding every or_else lowest tabulate overwrite answer need ◌>>◌ left new_in entry_at carried carry_sound carrying
carry_whole = refl

-- equal entries, falling ones, one that is n and one that is FFFF, a table that is too short, no states and too many: 10, though no place
-- is lent
carry_unsound : carrying 5 (3 ∷ 3 ∷ []) (8 ∷ 9 ∷ []) 0 ∷ carrying 5 (3 ∷ 2 ∷ []) (8 ∷ 9 ∷ []) 0 ∷ carrying 5 (0 ∷ 5 ∷ []) (8 ∷ 9 ∷ []) 0
    ∷ carrying 5 (FFFF ∷ []) (8 ∷ []) 0 ∷ carrying 5 (0 ∷ 3 ∷ []) (8 ∷ []) 0 ∷ carrying 0 [] [] 0 ∷ carrying 1025 [] [] 0 ∷ []
    ≡ replicate 7 (refused Unsound)
unfolding every need ◌>>◌ carry_sound carrying
carry_unsound = refl

-- one place too few, and none, also of the most states that there can be
carry_cramped : carrying 5 (0 ∷ 4 ∷ []) (8 ∷ 9 ∷ []) 4 ∷ carrying 1 [] [] 0 ∷ carrying 1024 [] [] 1023 ∷ [] ≡ replicate 3 (refused Cramped)
unfolding every need ◌>>◌ carry_sound carrying
carry_cramped = refl

-- what is refused leaves the table as it was
carry_unwritten : carry_call 5 (0 ∷ 4 ∷ []) (8 ∷ 9 ∷ []) (replicate 4 7) ∷ carry_call 5 (4 ∷ 0 ∷ []) (8 ∷ 9 ∷ []) (replicate 6 7) ∷ []
    ≡ record { answers = refused Cramped; places = replicate 4 7 } ∷ record { answers = refused Unsound; places = replicate 6 7 } ∷ []
unfolding every answer need ◌>>◌ left carry_sound carrying
carry_unwritten = refl
