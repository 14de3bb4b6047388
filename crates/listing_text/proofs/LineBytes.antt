-- Words and lines put one after another.
use mathlib.Core.Path.{◌≡◌, refl, ◌∙◌}
use mathlib.Core.List.{List, [], ◌∷◌, ◌++◌, append_assoc, append-nil}
use Prim.Native.Nat.{ℕ}
use Rattle.laws.specs.Wrote.{Wrote}
use Rattle.laws.proofs.Wrote.{wrote_then}
use Rattle.model.specs.Listing.{line}
use Rattle.listing_text.specs.declared.Output.{Output}
use Rattle.listing_text.specs.Puts.{Put}
use Rattle.listing_text.specs.Words.{spaced}
use Rattle.listing_text.proofs.Puts.{wrote, put}

spaced_append : (ws vs : List (List ℕ)) → spaced ws ++ spaced vs ≡ spaced (ws ++ vs)
unfolding spaced
spaced_append [] vs = refl
spaced_append (w ∷ ws) vs = rw (append_assoc w (spaced ws) (spaced vs), spaced_append ws vs)

line_words : (w : List ℕ) (ws : List (List ℕ)) → w ++ (spaced ws ++ (10 ∷ [])) ≡ line (w ∷ ws)
unfolding spaced line
line_words w [] = refl
line_words w (v ∷ ws) = rw (append_assoc v (spaced ws) (10 ∷ []), line_words v ws)

-- ---- stored in a list

pub word_wrote : {l m w : List ℕ} {i j : ℕ} → Wrote l i (32 ∷ w) m j → Wrote l i (spaced (w ∷ [])) m j
unfolding spaced
word_wrote {w = w} x = rw (append-nil w) x

pub words_wrote : {l m r : List ℕ} {i j k : ℕ} (ws vs : List (List ℕ)) → Wrote l i (spaced ws) m j → Wrote m j (spaced vs) r k
    → Wrote l i (spaced (ws ++ vs)) r k
words_wrote ws vs x y = rw (← spaced_append ws vs) (wrote_then x y)

pub line_wrote : {l m n r w : List ℕ} {i j k e : ℕ} (ws : List (List ℕ))
    → Wrote l i w m j → Wrote m j (spaced ws) n k → Wrote n k (10 ∷ []) r e → Wrote l i (line (w ∷ ws)) r e
line_wrote {w = w} ws x y z = rw (← line_words w ws) (wrote_then x (wrote_then y z))

-- ---- put into the bytes lent

pub word_put : {a b : Output} {w : List ℕ} → Put a (32 ∷ w) b → Put a (spaced (w ∷ [])) b
word_put x = put x.same (word_wrote (wrote x))

pub words_put : {a b c : Output} (ws vs : List (List ℕ)) → Put a (spaced ws) b → Put b (spaced vs) c → Put a (spaced (ws ++ vs)) c
words_put ws vs x y = put (y.same ∙ x.same) (words_wrote ws vs (wrote x) (wrote y))

pub line_put : {a b c d : Output} {w : List ℕ} (ws : List (List ℕ)) → Put a w b → Put b (spaced ws) c → Put c (10 ∷ []) d → Put a (line (w ∷ ws)) d
line_put ws x y z = put (z.same ∙ y.same ∙ x.same) (line_wrote ws (wrote x) (wrote y) (wrote z))
