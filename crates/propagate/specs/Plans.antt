-- What a propagation does, in the words of the lists that it reads.
use Rattle.std.specs.Prelude.{List, ℕ}
use Rattle.tables.specs.Listed.{lists_of}
use Rattle.propagate.specs.declared.indexed.RangedLists.{RangedLists}
use Rattle.propagate.specs.Net.{Net, net_of}
use Rattle.propagate.specs.Progress.{Progress, Moved, Layered}

abbrev pub states_of : RangedLists → ℕ
states_of p = p.indexed.lists.n

abbrev pub entries_of : RangedLists → ℕ
entries_of p = p.indexed.lists.table.end

-- the net of the lists, where `froms` has where the commands that count begin
abbrev pub net_from : RangedLists → List ℕ → Net
net_from p froms = net_of (states_of p) (lists_of p.indexed.lists) froms p.tos.now

-- the commands of which Done holds are looked at
abbrev pub Moves : RangedLists → ℕ → (ℕ → Type 0) → Progress → Progress → Type 0
Moves p k Done X Y = Moved (states_of p) (lists_of p.indexed.lists) p.tos.now p.indexed.owner.now k Done X Y

-- layer k + 1 has its ranks too
abbrev pub LayerAdded : RangedLists → ℕ → ℕ → Progress → Progress → Type 0
LayerAdded p k lo X Y = Layered (states_of p) (lists_of p.indexed.lists) p.tos.now p.indexed.owner.now k lo X Y
