-- No line of the listing is long, so 65,536 bytes hold every listing.
use mathlib.Core.Path.{◌≡◌, refl, ap}
use mathlib.Core.Logic.{⊎_elim}
use mathlib.Core.List.{List, [], ◌++◌}
use mathlib.Core.Option.{Option, none, some}
use Prim.Native.Nat.{ℕ, ◌≤◌}
use native.Mathlib.Omega.{arith}
use lib.Dec.{ltb}
use lib.ListN.{length, get_or, length-append}
use Rattle.laws.specs.Lists.{tabulate, joined}
use Rattle.laws.proofs.Tests.{true_or_false}
use Rattle.laws.proofs.Joins.{joined_bound}
use Rattle.model.specs.Plan.{Plan}
use Rattle.model.specs.Practice.{fault_outcome, tally}
use Rattle.model.specs.Verdict.{rank}
use Rattle.model.specs.Command.{chosen}
use Rattle.model.specs.Search.{Result, search}
use Rattle.model.specs.Refusal.{Refusal, Limit, Answer, given, refused, number}
use Rattle.model.specs.File.{Tree, read}
use Rattle.model.specs.Tables.{Size, tables_of}
use Rattle.model.specs.Held.{plan_of}
use Rattle.model.specs.Listing.{
  decimal,
  line,
  refusal_text,
  kind_letter,
  verdict_letter,
  number_or_dash,
  practice_letter,
  fault_sign,
  plan_line,
  state_line,
  tally_line,
  start_line,
  plan_text,
  answer_text,
  listing,
}
use Rattle.model.proofs.Good.{read_good}
use Rattle.model.proofs.Valid.{few_states}
use Rattle.model.proofs.Decimals.{decimal_length}

dash_length : (o : Option ℕ) → length (number_or_dash o) ≤ 6
unfolding number_or_dash
dash_length none = omega arith
dash_length (some x) = decimal_length x

sign_length : (o : Option ℕ) → length (fault_sign o) ≤ 7
unfolding fault_sign
sign_length none = omega arith
sign_length (some x) = omega (arith, decimal_length x)

pub refusal_length : (r : Refusal) → length (refusal_text r) ≤ 15
unfolding refusal_text line
refusal_length r = simp length-append (omega (arith, decimal_length (number r)))

pub plan_length : (z : Size) → length (plan_line z) ≤ 26
unfolding plan_line line
plan_length z = simp length-append (omega (arith, decimal_length z.n, decimal_length z.m, decimal_length z.t))

pub state_length : (P : Plan) (s : ℕ) → length (state_line P s) ≤ 35
unfolding state_line line kind_letter verdict_letter practice_letter
state_length P s =
    simp length-append
    (omega (arith, decimal_length s, dash_length (rank P s), dash_length (chosen P s), sign_length (fault_outcome P s)))

pub tally_length : (rows : List (List ℕ)) → length (tally_line rows) ≤ 50
unfolding tally_line line
tally_length rows =
    let at : (r c : ℕ) → length (decimal (get_or (get_or rows r []) c 0)) ≤ 6 = λ r c. decimal_length (get_or (get_or rows r []) c 0) in
    simp length-append (omega (arith, at 0 0, at 0 1, at 0 2, at 1 0, at 1 1, at 1 2))

pub start_length : (start : ℕ) (R : Result) → length (start_line start R) ≤ 22
unfolding start_line line verdict_letter
start_length start R = simp length-append (omega (arith, decimal_length start, decimal_length R.rounds))

-- the lines of a plan of at most 1,024 states
plan_text_length : (p : Tree) → (plan_of p).states ≤ 1024 → length (plan_text p) ≤ 65536
unfolding plan_text
plan_text_length p few =
    let P = plan_of p in
    let first = plan_line (tables_of p).size in
    let states = joined (tabulate (state_line P) 0 P.states) in
    let counts = tally_line (tally P) in
    let last = start_line P.start (search P P.start) in
    let text : plan_text p ≡ first ++ states ++ counts ++ last = refl in
    omega (
      arith,
      plan_length (tables_of p).size,
      joined_bound (state_line P) 0 P.states 35 (state_length P),
      tally_length (tally P),
      start_length P.start (search P P.start),
      ap length text,
      length-append (first ++ states ++ counts) last,
      length-append (first ++ states) counts,
      length-append first states,
    )

answer_length : (a : Answer Tree) → ((p : Tree) → a ≡ given p → (plan_of p).states ≤ 1024) → length (answer_text a) ≤ 65536
unfolding answer_text
answer_length (given p) few = plan_text_length p (few p refl)
answer_length (refused r) few = omega (arith, refusal_length r)

pub listing_length : (input : List ℕ) → length (listing input) ≤ 65536
unfolding listing
listing_length input =
    ⊎_elim (λ e. rw e (omega (arith, refusal_length Limit)))
    (λ e. rw e (answer_length (read input) (λ p g. few_states p (read_good input p g))))
    (true_or_false (ltb 65536 (length input)))
