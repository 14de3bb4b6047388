-- The bytes of commands and of states are those of each, one after another.
use mathlib.Core.Path.{refl}
use Rattle.laws.proofs.Spreads.{Spread, front, twos_spread}
use Rattle.model.specs.Bytes.{commands_bytes, states_bytes}

pub commands_spread : Spread commands_bytes
unfolding commands_bytes
commands_spread = record { none = λ r. refl; more = λ c cs r. rw (front twos_spread c (commands_bytes cs r)) }

pub states_spread : Spread states_bytes
unfolding states_bytes
states_spread = record { none = λ r. refl; more = λ s ss r. rw (front commands_spread s.commands (states_bytes ss r)) }
