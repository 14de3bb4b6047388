-- Deciding on tables of the limit's length, delivered, is the call on the plan that they hold.
use mathlib.Core.Path.{◌≡◌, refl, sym, ap, ◌∙◌}
use mathlib.Core.List.{List}
use Prim.Native.Nat.{ℕ, ◌≤◌}
use native.Mathlib.Omega.{arith}
use Rattle.std.specs.Prelude.{Ok}
use lib.ListN.{length, take, length-take, length-replicate}
use Rattle.laws.specs.Lists.{joined}
use Rattle.laws.proofs.Lists.{length_tabulate, take_overwritten}
use Rattle.model.specs.Plan.{Plan}
use Rattle.model.specs.Practice.{tally}
use Rattle.model.specs.Refusal.{Cramped, Unsound, Answer, given, answer, need, ◌>>=◌, ◌>>◌}
use Rattle.model.specs.Tables.{Tables}
use Rattle.model.specs.SoundTest.{sound}
use Rattle.model.specs.Calls.{left, AfterDecide, deciding, rank_table, command_table, mark_table, cleared}
use Rattle.model.specs.Boundary.{bytes_for, tally_entries, code, gate_decide, AfterGateDecide, gate_decide_call}
use Rattle.model.proofs.Answers.{given_inj, need_inv, answer_inv}
use Rattle.model.proofs.HeldPlan.{states_held}
use Rattle.model.proofs.Gates.{whole_deciding, gate_decide_lem, code_from, left_from_lem}
use Rattle.model.specs.Rooms.{decide_room}
use Rattle.decide.specs.Answers.{after_decide}
use Rattle.gate_deciding.specs.Delivery.{delivery, delivery_call}

-- the plan that is decided has as many states as the size record says
states_decided : (T : Tables) (P : Plan) → whole_deciding T ≡ given P → P.states ≡ T.size.n
unfolding deciding
states_decided T P e =
    let (_, f) = need_inv Unsound (sound T) _ e in
    let (_, is) = need_inv Cramped _ _ f in
    sym (ap (λ (q : Plan). q.states) (given_inj is)) ∙ states_held T

long_ranks : (P : Plan) → length (rank_table P) ≡ P.states
unfolding rank_table
long_ranks P = length_tabulate _ 0 P.states

long_commands : (P : Plan) → length (command_table P) ≡ P.states
unfolding command_table
long_commands P = length_tabulate _ 0 P.states

long_marks : (P : Plan) → length (mark_table P) ≡ P.states
unfolding mark_table
long_marks P = length_tabulate _ 0 P.states

long_cleared : (P : Plan) → length (cleared P.states) ≡ P.states
unfolding cleared
long_cleared P = length-replicate P.states 0

module _ (T : Tables) (zeros : List ℕ) where
  abbrev n : ℕ
  n = T.size.n

  -- what deciding answers and leaves
  abbrev decided : AfterDecide
  decided = record {
    answers = answer tally (whole_deciding T);
    ranks = left rank_table (whole_deciding T) zeros;
    commands = left command_table (whole_deciding T) zeros;
    marks = left mark_table (whole_deciding T) zeros;
    scratch = left (λ P. cleared P.states) (whole_deciding T) zeros;
  }

  -- what a table begins with where the plan is decided
  taken : (f : Plan → List ℕ) → ((P : Plan) → length (f P) ≡ P.states) → (P : Plan) → whole_deciding T ≡ given P
      → take n (left f (whole_deciding T) zeros) ≡ f P
  unfolding left
  taken f long P g = rw g (take_overwritten n (f P) zeros (long P ∙ states_decided T P g))

  long_front : (f : Plan → List ℕ) → ((P : Plan) → length (f P) ≡ P.states) → (P : Plan) → whole_deciding T ≡ given P
      → n ≤ length (left f (whole_deciding T) zeros)
  long_front f long P g =
      omega (arith, length-take n (left f (whole_deciding T) zeros), ap length (taken f long P g), long P, states_decided T P g)

  -- the tables that deciding leaves have a place for each state
  pub decided_long : {t : List (List ℕ)} {r c m s : List ℕ} → after_decide (Ok t) r c m s ≡ decided
      → (n ≤ length r) × (n ≤ length c) × (n ≤ length m) × (n ≤ length s)
  decided_long {t} {r} {c} {m} {s} is =
      let (P, g, _) = answer_inv tally (whole_deciding T) t (sym (ap (λ (x : AfterDecide). x.answers) is)) in
      let long : (table : AfterDecide → List ℕ) (f : Plan → List ℕ) → ((Q : Plan) → length (f Q) ≡ Q.states)
      → table decided ≡ left f (whole_deciding T) zeros → n ≤ length (table (after_decide (Ok t) r c m s))
      = λ table f each e. rw (ap table is ∙ e) (long_front f each P g) in (
        long (λ x. x.ranks) rank_table long_ranks refl,
        long (λ x. x.commands) command_table long_commands refl,
        long (λ x. x.marks) mark_table long_marks refl,
        long (λ x. x.scratch) (λ Q. cleared Q.states) long_cleared refl,
      )

  module _ (R C M X Y : List ℕ) where
    -- what is delivered, and what the call answers
    abbrev out : Answer (List (List ℕ))
    out = delivery (answer tally (whole_deciding T)) n (length R) (length C) (length M) (length X) (length Y)

    abbrev call : Answer Plan
    call = gate_decide (given T) (length R) (length C) (length M) (length X) (length Y)

    call_is : call ≡ (whole_deciding T >>= λ P. need Cramped (decide_room n (length R) (length C) (length M) (length X) (length Y)) >> given
        P)
    call_is = gate_decide_lem T (length R) (length C) (length M) (length X) (length Y)

    returns : code out ≡ code call
    unfolding delivery
    returns = code_from (whole_deciding T) tally _ refl (λ P. P) _ ∙ sym (ap code call_is)

    leaves : (f : List (List ℕ) → List ℕ) (g : Plan → List ℕ) → ((P : Plan) → whole_deciding T ≡ given P → f (tally P) ≡ g P) → (l : List ℕ)
        → left f out l ≡ left g call l
    unfolding delivery
    leaves f g same l = left_from_lem (whole_deciding T) tally _ refl (λ P. P) _ f g same l ∙ sym (ap (λ (q : Answer Plan). left g q l) call_is)

    stored : (f : Plan → List ℕ) → ((P : Plan) → length (f P) ≡ P.states) → (l : List ℕ)
        → left (λ _. bytes_for (take n (left f (whole_deciding T) zeros))) out l ≡ left (λ P. bytes_for (f P)) call l
    stored f long l = leaves _ (λ P. bytes_for (f P)) (λ P g. ap bytes_for (taken f long P g)) l

    delivers : delivery_call decided n R C M X Y ≡ gate_decide_call (given T) R C M X Y
    unfolding tally_entries
    delivers = λ i. record {
      returns = returns i;
      ranks = stored rank_table long_ranks R i;
      commands = stored command_table long_commands C i;
      marks = stored mark_table long_marks M i;
      scratch = stored (λ P. cleared P.states) long_cleared X i;
      tally = leaves (λ t. bytes_for (joined t)) (λ P. bytes_for (tally_entries P)) (λ P g. refl) Y i;
    }

    pub decision_delivered : {y : AfterGateDecide} (x : AfterDecide) → x ≡ decided → y ≡ delivery_call x n R C M X Y → y
        ≡ gate_decide_call (given T) R C M X Y
    decision_delivered x is e = e ∙ ap (λ (d : AfterDecide). delivery_call d n R C M X Y) is ∙ delivers
