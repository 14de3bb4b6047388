-- An entry that is not FFFF holds a number, and is read as what it holds; and what is read tells the entry.
use mathlib.Core.Path.{◌≡◌, refl, sym, ap, ◌∙◌}
use mathlib.Core.Logic.{⊎_elim}
use mathlib.Core.Option.{Option, none, some}
use Prim.Native.Nat.{ℕ, ◌<◌, ◌≤◌}
use native.Mathlib.Omega.{arith}
use lib.Dec.{leb, eqb}
use borrow.Author.Tests.{le-leb, eqb-true, ne_eqb}
use Rattle.laws.specs.Entry.{FFFF, entry, from_entry}
use Rattle.laws.specs.Sets.{found}
use Rattle.laws.proofs.Tests.{true_or_false}

pub entry_found : (o : Option ℕ) → ((i : ℕ) → o ≡ some i → i ≤ 65534) → leb (entry o) 65534 ≡ found o
unfolding entry found
entry_found none h = refl
entry_found (some i) h = le-leb i 65534 (h i refl)

pub from_number : (i : ℕ) → (i ≡ FFFF → ⊥) → from_entry i ≡ some i
unfolding from_entry
from_number i h = rw (ne_eqb i FFFF h)

pub from_entry_lem : (o : Option ℕ) → ((i : ℕ) → o ≡ some i → i < FFFF) → from_entry (entry o) ≡ o
unfolding entry from_entry
from_entry_lem none h = refl
from_entry_lem (some i) h = from_number i (λ q. omega (arith, h i refl))

-- what is read of an entry tells the entry
pub entry_from : (a : ℕ) → entry (from_entry a) ≡ a
unfolding entry from_entry
entry_from a =
    ⊎_elim
    (λ e. let q = eqb-true a FFFF e in rw (e, q))
    (λ e. rw e)
    (true_or_false (eqb a FFFF))

-- so entries that are read alike are the same
pub from_same : {a b : ℕ} → from_entry a ≡ from_entry b → a ≡ b
from_same {a} {b} e = sym (entry_from a) ∙ ap entry e ∙ entry_from b
