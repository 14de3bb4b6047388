-- The fields of a file: what the bytes hold where a field gives a value, and that it gives it where they do.
use mathlib.Core.Path.{◌≡◌, refl, ap, sym, ◌∙◌, subst}
use mathlib.Core.Bool.{true}
use mathlib.Core.List.{List}
use Prim.Native.Nat.{ℕ, zero, suc, ◌+◌, ◌*◌, ◌/◌, ◌%◌, ◌<◌, ◌≤◌}
use native.Mathlib.Omega.{arith}
use lib.ListN.{length, get_or, drop}
use borrow.Author.Tests.{leb-true, ltb-true, eqb-true, le-leb, lt-ltb, eq-eqb}
use Rattle.laws.specs.Entry.{be16}
use Rattle.laws.proofs.Tests.{and_both}
use Rattle.model.specs.Refusal.{given, need, ◌>>=◌, ◌>>◌}
use Rattle.model.specs.File.{
  max_states,
  max_commands,
  max_outcomes,
  head_tag,
  state_tag,
  command_tag,
  allowed,
  StateField,
  not_idle,
  state_values,
  field,
  head,
  state,
  entries,
  rising,
  command,
}
use Rattle.model.proofs.Answers.{given_inj, need_inv, then_inv, bind_inv}

pub record Framed (tag : ℕ) (s : List ℕ) (len : ℕ) : Type 0 where
  pub tagged : get_or s 0 0 ≡ tag
  pub long : be16 s 1 ≡ len
  pub right : allowed tag len ≡ true
  pub fits : 3 + len ≤ length s

module _ (tag : ℕ) (s : List ℕ) (len : ℕ) where
  pub field_inv : field tag s ≡ given len → Framed tag s len
  unfolding field
  field_inv e =
      let (_, e₁) = need_inv _ _ _ e in
      let (tag_test, e₂) = need_inv _ _ _ e₁ in
      let (allows, e₃) = need_inv _ _ _ e₂ in
      let (long_test, e₄) = need_inv _ _ _ e₃ in
      let l : be16 s 1 ≡ len = given_inj e₄ in
      record { tagged = eqb-true _ _ tag_test; long = l; right = rw (← l) allows; fits = rw (← l) (leb-true _ _ long_test) }

  pub field_gives : Framed tag s len → field tag s ≡ given len
  unfolding field need ◌>>◌
  field_gives f = rw (le-leb 3 (length s) (omega arith), eq-eqb _ _ f.tagged, f.long, f.right, le-leb _ _ f.fits)

pub record Headed (s : List ℕ) (n start : ℕ) : Type 0 where
  pub framed : Framed head_tag s 4
  pub counts : be16 s 3 ≡ n
  pub starts : be16 s 5 ≡ start
  pub some : 1 ≤ n
  pub few : n ≤ max_states
  pub inside : start < n

module _ (s : List ℕ) (n start : ℕ) where
  pub head_inv : head s ≡ given (n, start) → Headed s n start
  unfolding head
  head_inv e =
      let (len, f, e₁) = bind_inv (field head_tag s) _ e in
      let (tests, e₂) = need_inv _ _ _ e₁ in
      let (start_test, e₃) = need_inv _ _ _ e₂ in
      let (some_test, few_test) = and_both _ _ tests in
      let g = field_inv head_tag s len f in
      let four : len ≡ 4 = eqb-true _ _ g.right in
      let v = given_inj e₃ in
      let a : be16 s 3 ≡ n = ap (λ (x : ℕ × ℕ). x.0) v in
      let b : be16 s 5 ≡ start = ap (λ (x : ℕ × ℕ). x.1) v in
      record {
        framed = rw four at g;
        counts = a;
        starts = b;
        some = rw (← a) (leb-true _ _ some_test);
        few = rw (← a) (leb-true _ _ few_test);
        inside = rw (← a, ← b) (ltb-true _ _ start_test);
      }

  pub head_gives : Headed s n start → head s ≡ given (n, start)
  unfolding head need ◌>>◌ ◌>>=◌
  head_gives h = rw (
    field_gives head_tag s 4 h.framed,
    h.counts,
    h.starts,
    le-leb _ _ h.some,
    le-leb _ _ h.few,
    lt-ltb _ _
        h.inside,
  )

pub record Stated (m : ℕ) (s : List ℕ) (q : StateField) : Type 0 where
  pub framed : Framed state_tag s 5
  pub is : state_values s ≡ q
  pub low : q.kind ≤ 2
  pub works : not_idle q ≡ true
  pub few : m + q.count ≤ max_commands

module _ (m : ℕ) (s : List ℕ) (q : StateField) where
  pub state_inv : state m s ≡ given q → Stated m s q
  unfolding state
  state_inv e =
      let (len, f, e₁) = bind_inv (field state_tag s) _ e in
      let (kind_test, e₂) = need_inv _ _ _ e₁ in
      let (not_idle_lem, e₃) = need_inv _ _ _ e₂ in
      let (few_test, e₄) = need_inv _ _ _ e₃ in
      let g = field_inv state_tag s len f in
      let five : len ≡ 5 = eqb-true _ _ g.right in
      let v = given_inj e₄ in
      record {
        framed = rw five at g;
        is = v;
        low = rw (← v) (leb-true _ _ kind_test);
        works = rw (← v) not_idle_lem;
        few = rw (← v) (leb-true _ _ few_test);
      }

  pub state_gives : Stated m s q → state m s ≡ given q
  unfolding state need ◌>>◌ ◌>>=◌
  state_gives h = subst (λ (x : StateField). state m s ≡ given x) h.is (gives (rw (← h.is) at h))
    where
      gives : Stated m s (state_values s) → state m s ≡ given (state_values s)
      gives g = rw (field_gives state_tag s 5 g.framed, le-leb _ _ g.low, g.works, le-leb _ _ g.few)

pub record Commanded (n t : ℕ) (s os : List ℕ) : Type 0 where
  pub framed : Framed command_tag s (length os * 2)
  pub are : entries (length os) (drop 3 s) ≡ os
  pub some : 1 ≤ length os
  pub few : t + length os ≤ max_outcomes
  pub rise : rising n 0 os ≡ given tt

pub length_entries : (k : ℕ) (s : List ℕ) → length (entries k s) ≡ k
unfolding entries
length_entries zero s = refl
length_entries (suc k) s = ap suc (length_entries k (drop 2 s))

module _ (n t : ℕ) (s os : List ℕ) where
  pub command_inv : command n t s ≡ given os → Commanded n t s os
  unfolding command
  command_inv e =
      let (len, f, e₁) = bind_inv (field command_tag s) _ e in
      let (few_test, e₂) = need_inv _ _ _ e₁ in
      let (rises, e₃) = then_inv _ _ e₂ in
      let g = field_inv command_tag s len f in
      let (even_test, some_test) = and_both _ _ g.right in
      let even : len % 2 ≡ 0 = eqb-true _ _ even_test in
      let some : 2 ≤ len = leb-true _ _ some_test in
      let v : entries (len / 2) (drop 3 s) ≡ os = given_inj e₃ in
      let l : length os ≡ len / 2 = ap length (sym v) ∙ length_entries (len / 2) (drop 3 s) in
      let twice : len ≡ length os * 2 = omega arith in
      record {
        framed = rw twice at g;
        are = rw l v;
        some = omega arith;
        few = rw l (leb-true _ _ few_test);
        rise = rw v at rises;
      }

  pub command_gives : Commanded n t s os → command n t s ≡ given os
  unfolding command need ◌>>◌ ◌>>=◌
  command_gives c =
      let half : length os * 2 / 2 ≡ length os = omega arith in
      rw (field_gives command_tag s (length os * 2) c.framed, half, le-leb _ _ c.few, c.are, c.rise)
