-- A reading that gave a value, field by field, and what it counted.
use mathlib.Core.Path.{◌≡◌, refl, ap, sym, ◌∙◌, subst}
use mathlib.Core.List.{List, [], ◌∷◌}
use Prim.Native.Nat.{ℕ, zero, suc, ◌+◌, ◌*◌, ◌≤◌}
use native.Mathlib.Omega.{arith}
use native.Mathlib.Nat.{add-zero, add_assoc}
use lib.ListN.{length, drop, length-append}
use borrow.Author.Tests.{leb-true, eqb-true}
use Rattle.laws.specs.Lists.{joined}
use Rattle.laws.proofs.Joins.{length_joined}
use Rattle.model.specs.Refusal.{given}
use Rattle.model.specs.File.{
  max_commands,
  max_outcomes,
  State,
  StateField,
  state_from,
  Tree,
  end_tag,
  field,
  head,
  state,
  command,
  commands,
  states,
  read,
}
use Rattle.model.specs.Tables.{all_commands}
use Rattle.model.proofs.Answers.{given_inj, need_inv, bind_inv}
use Rattle.model.proofs.Fields.{Framed, Headed, Stated, Commanded, field_inv, head_inv, state_inv, command_inv}

-- k commands at the front of s, with t outcomes before and t₁ after them, and the bytes after them
pub data CommandsRead (n : ℕ) : ℕ → ℕ → List ℕ → List (List ℕ) → ℕ → List ℕ → Type 0 where
  none : {t : ℕ} {s : List ℕ} → CommandsRead n 0 t s [] t s
  more : {k t t₁ : ℕ} {s os s₁ : List ℕ} {cs : List (List ℕ)} → Commanded n t s os
      → CommandsRead n k (t + length os) (drop (3 + length os * 2) s) cs t₁ s₁ → CommandsRead n (suc k) t s (os ∷ cs) t₁ s₁

pub commands_inv : (n k t : ℕ) (s : List ℕ) (x : List (List ℕ) × ℕ × List ℕ) → commands n k t s ≡ given x
    → CommandsRead n k t s x.0 x.1 x.2
unfolding commands
commands_inv n zero t s x e = rw (← (given_inj e)) none
commands_inv n (suc k) t s x e =
    let (os, p, q) = bind_inv (command n t s) _ e in
    let (y, i, j) = bind_inv (commands n k (t + length os) (drop (3 + length os * 2) s)) _ q in
    rw (← (given_inj j)) (more (command_inv n t s os p) (commands_inv n k _ _ y i))

pub commands_count : {n k t t₁ : ℕ} {s s₁ : List ℕ} {cs : List (List ℕ)} → CommandsRead n k t s cs t₁ s₁ → length cs ≡ k
commands_count none = refl
commands_count (more c r) = ap suc (commands_count r)

pub outcomes_count : {n k t t₁ : ℕ} {s s₁ : List ℕ} {cs : List (List ℕ)} → CommandsRead n k t s cs t₁ s₁ → t₁ ≡ t + length (joined cs)
unfolding joined
outcomes_count (none {t}) = sym (add-zero t)
outcomes_count (more c r) = outcomes_count r ∙ simp (length-append, add_assoc)

outcomes_few : {n k t t₁ : ℕ} {s s₁ : List ℕ} {cs : List (List ℕ)} → CommandsRead n k t s cs t₁ s₁ → t ≤ max_outcomes → t₁ ≤ max_outcomes
outcomes_few none h = h
outcomes_few (more c r) h = outcomes_few r c.few

-- k states at the front of s, with m commands and t outcomes before them, and the bytes after them
pub data StatesRead (n : ℕ) : ℕ → ℕ → ℕ → List ℕ → List State → List ℕ → Type 0 where
  none : {m t : ℕ} {s : List ℕ} → StatesRead n 0 m t s [] s
  more : {k m t t₁ : ℕ} {q : StateField} {s s₁ s₂ : List ℕ} {cs : List (List ℕ)} {ss : List State} → Stated m s q
      → CommandsRead n q.count t (drop 8 s) cs t₁ s₁ → StatesRead n k (m + q.count) t₁ s₁ ss s₂
      → StatesRead n (suc k) m t s (state_from q cs ∷ ss) s₂

states_inv : (n k m t : ℕ) (s : List ℕ) (x : List State × List ℕ) → states n k m t s ≡ given x → StatesRead n k m t s x.0 x.1
unfolding states
states_inv n zero m t s x e = rw (← (given_inj e)) none
states_inv n (suc k) m t s x e =
    let (v, p, q) = bind_inv (state m s) _ e in
    let (y, i, j) = bind_inv (commands n v.count t (drop 8 s)) _ q in
    let (z, a, b) = bind_inv (states n k (m + v.count) y.1 y.2) _ j in
    rw (← (given_inj {a = (state_from v y.0 ∷ z.0, z.1)} b))
    (more (state_inv m s v p) (commands_inv n _ t _ y i) (states_inv n k _ _ _ z a))

pub states_count : {n k m t : ℕ} {s s₁ : List ℕ} {ss : List State} → StatesRead n k m t s ss s₁ → length ss ≡ k
states_count none = refl
states_count (more g c r) = ap suc (states_count r)

pub few_commands : {n k m t : ℕ} {s s₁ : List ℕ} {ss : List State} → StatesRead n k m t s ss s₁
    → m ≤ max_commands → m + length (all_commands ss) ≤ max_commands
unfolding all_commands
few_commands none h = omega arith
few_commands (more {cs} {ss} g c r) h = omega (arith, few_commands r g.few, commands_count c, length-append cs (all_commands ss))

pub few_outcomes : {n k m t : ℕ} {s s₁ : List ℕ} {ss : List State} → StatesRead n k m t s ss s₁
    → t ≤ max_outcomes → t + length (joined (all_commands ss)) ≤ max_outcomes
unfolding all_commands joined
few_outcomes none h = omega arith
few_outcomes (more {cs} {ss} g c r) h =
    omega (arith, few_outcomes r (outcomes_few c h), outcomes_count c, length_joined cs (all_commands ss))

-- a file
pub record TreeRead (s : List ℕ) (p : Tree) : Type 0 where
  pub n : ℕ
  pub rest : List ℕ
  pub headed : Headed s n p.start
  pub stated : StatesRead n n 0 0 (drop 7 s) p.states rest
  pub ended : Framed end_tag rest 0
  pub last : length rest ≤ 3

pub read_inv : (s : List ℕ) (p : Tree) → read s ≡ given p → TreeRead s p
unfolding read
read_inv s p e =
    let ((n, start), i, j) = bind_inv (head s) _ e in
    let ((ss, rest), k, l) = bind_inv (states n n 0 0 (drop 7 s)) _ j in
    let (len, f, g) = bind_inv (field end_tag rest) _ l in
    let (a, b) = need_inv _ _ _ g in
    let c = field_inv end_tag rest len f in
    let z : len ≡ 0 = eqb-true _ _ c.right in
    subst (TreeRead s) (given_inj b) (record {
      n = n;
      rest = rest;
      headed = head_inv s n start i;
      stated = states_inv n n 0 0 (drop 7 s) (ss, rest) k;
      ended = rw z at c;
      last = leb-true _ _ a;
    })
