-- The text that the listing program prints (docs/SPECIFICATION.md, part L), as bytes.
use Rattle.std.specs.Prelude.{Bool, cond, List, [], ◌∷◌, ◌++◌, ℕ, zero, suc, ◌+◌, ◌-◌, ◌*◌, ◌/◌, ◌%◌, ltb, eqb, length, get_or}
use Rattle.std.proofs.Math.Option.{Option, none, some}
use Rattle.laws.specs.Lists.{tabulate, joined}
use Rattle.model.specs.Plan.{Plan}
use Rattle.model.specs.Verdict.{rank, lost}
use Rattle.model.specs.Command.{chosen}
use Rattle.model.specs.Practice.{practice_fails, fault_outcome, tally}
use Rattle.model.specs.Search.{Result, search}
use Rattle.model.specs.Refusal.{Refusal, Limit, Answer, given, refused, number}
use Rattle.model.specs.File.{Tree, read}
use Rattle.model.specs.Tables.{Size, tables_of}
use Rattle.model.specs.Held.{plan_of}

-- ---- numbers (rule L5)

-- the last digit of x, as a byte
unfoldable pub last_digit : ℕ → ℕ
last_digit x = 48 + x % 10

-- the digits of x, or its last k if there are more: those of x / 10, unless x is below 10, and then the last
unfoldable pub digits : ℕ → ℕ → List ℕ
digits zero x = []
digits (suc k) x = cond (ltb x 10) [] (digits k (x / 10)) ++ last_digit x ∷ []

-- six are enough for every number that is printed
unfoldable pub decimal : ℕ → List ℕ
decimal x = digits 6 x

-- the number that digits tell, with those of a in front
unfoldable pub told : ℕ → List ℕ → ℕ
told a [] = a
told a (d ∷ ds) = told (a * 10 + (d - 48)) ds

-- ---- lines (rule L4): words with a space between them, and byte 10

unfoldable pub line : List (List ℕ) → List ℕ
line [] = 10 ∷ []
line (w ∷ []) = w ++ 10 ∷ []
line (w ∷ v ∷ ws) = w ++ 32 ∷ line (v ∷ ws)

-- rule L3: the line of a refusal
unfoldable pub refusal_text : Refusal → List ℕ
refusal_text r =
    let refused_word : List ℕ = 114 ∷ 101 ∷ 102 ∷ 117 ∷ 115 ∷ 101 ∷ 100 ∷ [] in
    line (refused_word ∷ decimal (number r) ∷ [])

-- rule L7: o, f or r
unfoldable pub kind_letter : ℕ → List ℕ
kind_letter kind = cond (eqb kind 0) 111 (cond (eqb kind 1) 102 114) ∷ []

-- rules L7 and L9: S or L
unfoldable pub verdict_letter : Bool → List ℕ
verdict_letter isLost = cond isLost 76 83 ∷ []

-- rule L7: a number, and - where there is none
unfoldable pub number_or_dash : Option ℕ → List ℕ
number_or_dash none = 45 ∷ []
number_or_dash (some x) = decimal x

-- rule L7: H or F
unfoldable pub practice_letter : Bool → List ℕ
practice_letter fails = cond fails 70 72 ∷ []

-- rule L7: ! and the outcome at a fault, and . where there is none
unfoldable pub fault_sign : Option ℕ → List ℕ
fault_sign none = 46 ∷ []
fault_sign (some x) = 33 ∷ decimal x

-- rule L6
unfoldable pub plan_line : Size → List ℕ
plan_line z =
    let plan_word : List ℕ = 112 ∷ 108 ∷ 97 ∷ 110 ∷ [] in
    line (plan_word ∷ decimal z.n ∷ decimal z.m ∷ decimal z.t ∷ [])

-- rule L7
unfoldable pub state_line : Plan → ℕ → List ℕ
state_line P s =
    line (decimal s ∷ kind_letter (P.kind s) ∷ verdict_letter (lost P s) ∷ number_or_dash (rank P s) ∷ number_or_dash (chosen P s)
    ∷ practice_letter (practice_fails P s) ∷ fault_sign (fault_outcome P s) ∷ [])

-- rule L8: the tally's rows with a slash between them
unfoldable pub tally_line : List (List ℕ) → List ℕ
tally_line rows =
    let tally_word : List ℕ = 116 ∷ 97 ∷ 108 ∷ 108 ∷ 121 ∷ [] in
    let at : ℕ → ℕ → List ℕ = λ r c. decimal (get_or (get_or rows r []) c 0) in
    line (tally_word ∷ at 0 0 ∷ at 0 1 ∷ at 0 2 ∷ (47 ∷ []) ∷ at 1 0 ∷ at 1 1 ∷ at 1 2 ∷ [])

-- rule L9: the search is from the plan's own start
unfoldable pub start_line : ℕ → Result → List ℕ
start_line start R =
    let start_word : List ℕ = 115 ∷ 116 ∷ 97 ∷ 114 ∷ 116 ∷ [] in
    line (start_word ∷ decimal start ∷ verdict_letter R.lost ∷ decimal R.rounds ∷ [])

unfoldable pub plan_text : Tree → List ℕ
plan_text p =
    let P = plan_of p in
    plan_line (tables_of p).size ++ joined (tabulate (state_line P) 0 P.states) ++ tally_line (tally P)
    ++ start_line P.start (search P P.start)

unfoldable pub answer_text : Answer Tree → List ℕ
answer_text (given p) = plan_text p
answer_text (refused r) = refusal_text r

-- rule L2: as many bytes of input are read
abbrev pub max_input : ℕ
max_input = 65536

-- and as many hold every listing
abbrev pub max_listing : ℕ
max_listing = 65536

unfoldable pub listing : List ℕ → List ℕ
listing input = cond (ltb max_input (length input)) (refusal_text Limit) (answer_text (read input))
