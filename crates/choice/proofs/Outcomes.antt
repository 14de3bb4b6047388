-- The places of a list, and the lowest outcome that a command has in a set, by what is read there.
use mathlib.Core.Path.{◌≡◌, refl, sym, ap, ◌∙◌}
use mathlib.Core.Bool.{Bool, true, not}
use Prim.Native.Nat.{ℕ, ◌+◌, ◌<◌, ◌≤◌, suc}
use native.Mathlib.Numerals.{add-one}
use native.Mathlib.Omega.{arith}
use mathlib.Core.List.{List}
use mathlib.Core.Option.{none, some}
use lib.ListN.{length, get_or}
use lib.Seq.{slice}
use Rattle.std.specs.Prelude.{Option, Some, None, is_some}
use Rattle.laws.specs.Sets.{any, least, found}
use Rattle.laws.specs.Rising.{RisesIn}
use Rattle.laws.specs.Starts.{Parts}
use Rattle.laws.specs.First.{FirstNot}
use Rattle.laws.proofs.Tries.{first_stop, first_done}
use Rattle.laws.proofs.Least.{least_first, least_missing, found_least}
use Rattle.laws.proofs.Starts.{start_next, start_le}
use Rattle.model.specs.Tables.{Lists}
use Rattle.model.specs.Places.{start_in, list_at}
use Rattle.tables.specs.Meaning.{option_of}
use Rattle.tables.specs.Ready.{States, Ready}
use Rattle.choice.specs.Within.{command_hit, command_hits}

-- a command has an outcome in the set if some entry of its list is in it
pub command_hits_any : (L : Lists) (K : ℕ → Bool) (c : ℕ) → command_hits L K c ≡ any K (list_at L c)
unfolding command_hits command_hit
command_hits_any L K c = found_least K (list_at L c)

-- states below n are below more
pub states_below : {n k end : ℕ} {entries : List ℕ} → n ≤ k → States n end entries → States k end entries
states_below h v = record { few = v.few; long = v.long; inside = λ j l. omega (arith, v.inside j l) }

-- a list whose entries are read from place `from` up to place `end`
module _ (L : Lists) (i from end : ℕ) (p : from ≡ start_in L i) (q : end ≡ start_in L (i + 1)) where
  pub outcomes_read : slice from end L.entries ≡ list_at L i
  unfolding list_at
  outcomes_read = rw (p, q, add-one i)

  -- they are in range, and so is what they name in a table of so many places
  pub entries_inside : {places : ℕ} → i < L.count → Parts L.firsts L.count L.end → States places L.end L.entries
      → (from ≤ end) × (end ≤ length L.entries) × ((j : ℕ) → j < end → get_or L.entries j 0 < places)
  entries_inside l parts states =
      let rises = parts.rises i l in
      let below = start_le L.firsts L.count L.end parts (suc i) l in
      let next : end ≡ start_in L (suc i) = q ∙ start_next L.firsts L.count L.end i in
      (omega arith, omega (arith, states.long), λ j k. omega (arith, states.inside j (omega arith)))

pub outcomes_inside : {n : ℕ} {L : Lists} → Ready n L → (i from end places : ℕ) → i < L.count → from ≡ start_in L i → end
    ≡ start_in L (i + 1)
    → n ≤ places → (from ≤ end) × (end ≤ length L.entries) × ((j : ℕ) → j < end → get_or L.entries j 0 < places)
outcomes_inside {L = L} ready i from end places l p q h =
    entries_inside L i from end p q l ready.parts (states_below h ready.states)

-- the scan of list i, whose end was read, for an entry in K
module _ {n : ℕ} {L : Lists} (ready : Ready n L) (i : ℕ) (l : i < L.count) {end : ℕ} (q : end ≡ start_in L (i + 1)) where
  pub scan_inside : {places : ℕ} → n ≤ places
      → (start_in L i ≤ end) × (end ≤ length L.entries) × ((j : ℕ) → j < end → get_or L.entries j 0 < places)
  scan_inside h = outcomes_inside ready i (start_in L i) end _ l refl q h

  module _ (K : ℕ → Bool) {r : ℕ} (v : FirstNot (λ j. not (K (get_or L.entries j 0))) (start_in L i) r r) where
    -- the first that is found is the lowest
    pub scan_found : r < end → {x : ℕ} → x ≡ get_or L.entries r 0 → K x ≡ true → some x ≡ command_hit L K i
    unfolding command_hit
    scan_found h e t =
        let w = scan_inside {places = n} (omega arith) in
        let rises : RisesIn L.entries (start_in L i) end = rw (q, add-one i) (ready.rising i l) in
        ap some e
        ∙ sym (least_first K L.entries (start_in L i) end r w.0 w.1 (first_stop v end h (ap not (rw e at t))) rises h)
        ∙ ap (least K) (outcomes_read L i (start_in L i) end refl q)

    pub scan_missed : r ≤ end → end ≤ r → none ≡ command_hit L K i
    unfolding command_hit
    scan_missed g h =
        let w = scan_inside {places = n} (omega arith) in
        sym (least_missing K L.entries (start_in L i) end r w.0 w.1 (first_done v end g h) h)
        ∙ ap (least K) (outcomes_read L i (start_in L i) end refl q)

-- the answer for command i tells whether it has an outcome in the set
pub hits_told : (L : Lists) (K : ℕ → Bool) (i : ℕ) (r : Option ℕ) → option_of r ≡ command_hit L K i → command_hits L K i ≡ is_some r
unfolding command_hits found
hits_told L K i None e = rw (← e)
hits_told L K i (Some x) e = rw (← e)
