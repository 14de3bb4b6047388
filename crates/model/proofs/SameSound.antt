-- Tables that agree up to their counts: both are sound or neither, and deciding and the search answer the same on both.
use mathlib.Core.Path.{◌≡◌, refl, sym, ap, ◌∙◌}
use mathlib.Core.Bool.{Bool, true, false, ◌&&◌}
use Prim.Native.Nat.{ℕ}
use lib.Dec.{leb, ltb}
use Rattle.laws.proofs.Tests.{same_test}
use Rattle.model.specs.Plan.{Plan}
use Rattle.model.specs.Search.{search}
use Rattle.model.specs.Refusal.{Refusal, Cramped, Unsound, Stranger, Answer, given, need, ◌>>◌}
use Rattle.model.specs.Tables.{Size, Tables, Same, tables_of}
use Rattle.model.specs.SoundTest.{sound}
use Rattle.model.specs.Held.{tree_of, plan_of, plan_in}
use Rattle.model.specs.Calls.{deciding, searching}
use Rattle.model.proofs.TablesBack.{tables_back}
use Rattle.model.proofs.GoodTables.{sound_good, good_sound}
use Rattle.model.proofs.SameTables.{held}

pub same_back : {T U : Tables} → Same T U → Same U T
same_back same = record {
  size = sym same.size;
  rows = sym same.rows;
  lists = record { firsts = sym same.lists.firsts; entries = sym same.lists.entries };
}

pub same_on : {S T U : Tables} → Same S T → Same T U → Same S U
same_on f g = record {
  size = f.size ∙ g.size;
  rows = f.rows ∙ g.rows;
  lists = record { firsts = f.lists.firsts ∙ g.lists.firsts; entries = f.lists.entries ∙ g.lists.entries };
}

-- where T is sound, tables that agree with it agree with those of its tree
like_tree : {T U : Tables} → Same T U → sound T ≡ true → Same U (tables_of (tree_of T))
like_tree {T} same e = same_on (same_back same) (tables_back T e)

sound_on : {T U : Tables} → Same T U → sound T ≡ true → sound U ≡ true
sound_on {T} {U} same e = good_sound U (tree_of T) (sound_good T e) (like_tree same e)

pub sound_same : {T U : Tables} → Same T U → sound T ≡ sound U
sound_same {T} {U} same = same_test (sound T) (sound U) (sound_on same) (sound_on (same_back same))

pub plan_same : {T U : Tables} → Same T U → sound T ≡ true → plan_in T ≡ plan_in U
unfolding plan_in
plan_same {T} {U} same e = ap plan_of (sym (held U (tree_of T) (like_tree same e)))

-- what is answered behind a test that both pass or neither
needed_same : {A : Type 0} (r : Refusal) (b c : Bool) (x y : Answer A) → b ≡ c → (b ≡ true → x ≡ y) → (need r b >> x) ≡ (need r c >> y)
unfolding need ◌>>◌
needed_same r true c x y e h = rw (← e) (h refl)
needed_same r false c x y e h = rw (← e)

module _ {T U : Tables} (same : Same T U) where
  pub deciding_same : (ranks commands marks scratch : ℕ) → deciding T ranks commands marks scratch ≡ deciding U ranks commands marks scratch
  unfolding deciding
  deciding_same a b c d =
      needed_same Unsound _ _ _ _ (sound_same same) (λ e.
      needed_same Cramped _ _ _ _
      (ap (λ (z : Size). leb z.n a && leb z.n b && leb z.n c && leb z.n d) same.size)
      (λ _. ap given (plan_same same e)))

  pub searching_same : (start commands scratch : ℕ) → searching T start commands scratch ≡ searching U start commands scratch
  unfolding searching
  searching_same start a b =
      needed_same Unsound _ _ _ _ (sound_same same) (λ e.
      needed_same Stranger _ _ _ _ (ap (λ (z : Size). ltb start z.n) same.size) (λ _.
      needed_same Cramped _ _ _ _ (ap (λ (z : Size). leb z.n a && leb z.n b) same.size) (λ _.
      ap (λ (P : Plan). given (search P start)) (plan_same same e))))
