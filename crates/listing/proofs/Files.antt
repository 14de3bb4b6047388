-- A file that was read, and the limit of the input.
use mathlib.Core.Path.{◌≡◌, sym, ap, subst, ◌∙◌}
use mathlib.Core.Bool.{true}
use mathlib.Core.List.{List}
use Prim.Native.Nat.{ℕ, ◌<◌, ◌≤◌}
use native.Mathlib.Nat.{zero-add}
use native.Mathlib.Omega.{arith}
use lib.ListN.{length, take, replicate, length-map, length-replicate}
use borrow.Author.Tests.{lt-ltb, le-ltb}
use Rattle.std.specs.Prelude.{Result, Ok, Err}
use Rattle.laws.specs.Wrote.{Wrote}
use Rattle.laws.proofs.Lists.{take_overwrite}
use Rattle.laws.proofs.Writes.{put_front}
use Rattle.model.specs.Refusal.{Limit}
use Rattle.model.specs.File.{read}
use Rattle.model.specs.Tables.{Size as ModelSize, Tables}
use Rattle.model.specs.Held.{tree_of}
use Rattle.model.specs.SoundTest.{sound}
use Rattle.model.specs.Calls.{reading, AfterRead, read_call}
use Rattle.model.specs.Listing.{max_input, max_listing, refusal_text, plan_text, answer_text, listing}
use Rattle.model.proofs.ListingLength.{listing_length}
use Rattle.model.proofs.ReadPlans.{reads_plan, refuses_file}
use Rattle.tables.specs.declared.Row.{Row}
use Rattle.tables.specs.declared.Size.{Size}
use Rattle.tables.specs.declared.Refusal.{Refusal}
use Rattle.tables.specs.Meaning.{numbers, refusal_of, row_of, rows_of, held}
use Rattle.reading.specs.Answers.{answer_of, after_read}
use Rattle.reading.proofs.Passing.{refused_inv}
use Rattle.reading.proofs.Leaves.{answered, leaves}
use Rattle.listing_text.specs.declared.Output.{Output}
use Rattle.listing_text.specs.Puts.{Put}
use Rattle.listing_text.proofs.Puts.{wrote}
use Rattle.listing.specs.declared.Text.{Text}
use Rattle.listing.specs.Texts.{blank, text_of}

-- by the equation of the reading's contract
module _ (file : List ℕ) (rows : List Row) (firsts outcomes : List ℕ) (r : Result Size Refusal) (rows' : List Row) (firsts' outcomes' : List ℕ)
    (e : after_read r rows' firsts' outcomes' ≡ read_call file (rows_of rows) firsts outcomes) where
  pub plan_read : (z : Size) → r ≡ Ok z
      → (sound (held z rows' firsts' outcomes') ≡ true) × (answer_text (read file) ≡ plan_text (tree_of (held z rows' firsts' outcomes')))
  unfolding answer_text
  plan_read z q =
      let (sounds, reads) = reads_plan file (rows_of rows) firsts outcomes (numbers z)
      (answered file rows firsts outcomes r rows' firsts' outcomes' e z q) in
      subst (λ (T : Tables). (sound T ≡ true) × (answer_text (read file) ≡ plan_text (tree_of T)))
      (sym (leaves file rows firsts outcomes r rows' firsts' outcomes' e z))
      (sounds, ap answer_text reads)

  pub refusal_read : (w : Refusal) → r ≡ Err w → 1024 ≤ length rows → 4096 ≤ length firsts → 16384 ≤ length outcomes
      → answer_text (read file) ≡ refusal_text (refusal_of w)
  unfolding answer_text
  refusal_read w q lr lf lo =
      let size : Tables → ModelSize = λ T. T.size in
      let long : 1024 ≤ length (rows_of rows) = rw (length-map rows row_of) lr in
      ap answer_text (refuses_file (length (rows_of rows)) (length firsts) (length outcomes) long lf lo file (refusal_of w)
      (refused_inv size (reading (length (rows_of rows)) (length firsts) (length outcomes) file)
      (ap (λ (x : AfterRead). x.answers) (sym e) ∙ ap answer_of q)))

-- after is before with the bytes xs behind its own
abbrev pub Added : Text → List ℕ → Text → Type 0
Added before xs after = Wrote before.bytes before.length xs after.bytes after.length

abbrev text_with : List ℕ → ℕ → Text
text_with bytes length = record { bytes = bytes; length = length }

module _ (input : List ℕ) where
  pub over_limit : max_input < length input → listing input ≡ refusal_text Limit
  unfolding listing
  over_limit h = rw (lt-ltb max_input (length input) h)

  pub in_limit : length input ≤ max_input → listing input ≡ answer_text (read input)
  unfolding listing
  in_limit h = rw (le-ltb max_input (length input) h)

  -- the text stands at the front of zeros
  pub text_stands : {text : Text} → Added blank (listing input) text → text ≡ text_of (listing input)
  text_stands w =
      let zeros : List ℕ = replicate max_listing 0 in
      let count = w.past ∙ zero-add _ in
      let fits : length (listing input) ≤ length zeros = omega (arith, listing_length input, length-replicate {A = ℕ} max_listing 0) in
      let whole = w.stored ∙ put_front zeros (listing input) fits in
      λ i. record { bytes = whole i; length = count i }

  pub text_put : {a b : Output} → a.bytes.now ≡ blank.bytes → a.place ≡ 0 → Put a (listing input) b
      → text_with b.bytes.now b.place ≡ text_of (listing input)
  text_put {a} {b} zeros begins p =
      let w : Wrote a.bytes.now a.place (listing input) b.bytes.now b.place = wrote p in
      text_stands {text = text_with b.bytes.now b.place} (rw (zeros, begins) at w)

  -- it is no longer than the bytes that hold it
  pub text_room : (r : Text) → r ≡ text_of (listing input) → r.length ≤ max_listing
  text_room r e = rw e (listing_length input)

  -- and so many bytes begin it
  pub text_fits : (r : Text) → r ≡ text_of (listing input) → length (take r.length r.bytes) ≡ r.length
  text_fits r e = rw e (ap length (take_overwrite (listing input) (replicate max_listing 0)))
