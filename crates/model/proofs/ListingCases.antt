-- The listing of what is refused, computed.
use mathlib.Core.Path.{◌≡◌, refl}
use mathlib.Core.List.{List, [], ◌∷◌, ◌++◌, map}
use Prim.Native.Nat.{ℕ}
use lib.ListN.{replicate}
use Rattle.model.specs.Refusal.{Cut, Stranger, ◌>>=◌, need, ◌>>◌}
use Rattle.model.specs.File.{field, head, read}
use Rattle.model.specs.Listing.{last_digit, digits, decimal, line, refusal_text, answer_text, listing}

-- the word and a space
abbrev refused_space : List ℕ
refused_space = 114 ∷ 101 ∷ 102 ∷ 117 ∷ 115 ∷ 101 ∷ 100 ∷ 32 ∷ []

-- "refused 1" and "refused 11": the number, not the word of the table, without a leading zero, and the line's end
refusal_texts : map refusal_text (Cut ∷ Stranger ∷ []) ≡ (refused_space ++ 49 ∷ 10 ∷ []) ∷ (refused_space ++ 49 ∷ 49 ∷ 10 ∷ []) ∷ []
unfolding last_digit digits decimal line refusal_text
refusal_texts = refl

-- the empty input is refused in print; the text is not empty
listing_empty : listing [] ≡ refused_space ++ 49 ∷ 10 ∷ []
unfolding ◌>>=◌ need ◌>>◌ field head read last_digit digits decimal line refusal_text answer_text listing
listing_empty = refl

-- 65,537 bytes are refused as such, 65,536 for what they hold: a tag of 0
listing_limit : listing (replicate 65537 0) ≡ refused_space ++ 56 ∷ 10 ∷ []
unfolding ◌>>=◌ need ◌>>◌ field head read last_digit digits decimal line refusal_text answer_text listing
listing_limit = refl

listing_at_limit : listing (replicate 65536 0) ≡ refused_space ++ 51 ∷ 10 ∷ []
unfolding ◌>>=◌ need ◌>>◌ field head read last_digit digits decimal line refusal_text answer_text listing
listing_at_limit = refl
