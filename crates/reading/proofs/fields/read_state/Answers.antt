-- Behind the frame the tests come in the order of `state`: each that fails is its refusal, and a field that passes them all is given.
use Rattle.reading.proofs.FieldWays.{state_long, state_kind, state_idle, state_limit, state_passes}
use Rattle.reading.proofs.Passing.{refuses, ends, went}
use Rattle.reading.specs.Meaning.{Within, bytes_from, after_field}
use Rattle.tables.specs.declared.Refusal.TheVariants.{Beyond, Idle, Limit}
use Rattle.model.specs.Refusal.{given, answer}
use Rattle.model.specs.File.{state_tag, field, state, state_values, not_idle}
use native.Mathlib.Omega.{arith}
use mathlib.Core.Path.{◌≡◌, sym, ◌∙◌}
use mathlib.Core.Bool.{true}
use Prim.Native.Nat.{◌≤◌}
use lib.ListN.{length, get_or}
use Rattle.reading.proofs.fields.read_state.Goals.{Else-kind-gt2, Else-not-not_idle, In-Ok}
use Rattle.reading.proofs.fields.read_state.Goals as goal

framed : (c : In-Ok) →
    let a = c.args in
    let next = c.in-Ok.next in
    (answer (after_field a.file.now a.k) (field state_tag (bytes_from a.file.now a.k))
    ≡ given (next.m, next.t, bytes_from a.file.now next)) × Within a.file.now next
framed c = went c.in-Ok.ensures

long : (c : In-Ok) → let a = c.args in 8 ≤ length (bytes_from a.file.now a.k)
long c =
    let a = c.args in
    state_long a.k.m (bytes_from a.file.now a.k) (after_field a.file.now a.k) (framed c).0

kind_right : (c : Else-kind-gt2) → let a = c.args in get_or (bytes_from a.file.now a.k) 3 0 ≤ 2
kind_right c = omega (arith, c.byte.ensures, c.if-kind-gt2.false)

idle_not : (c : Else-not-not_idle) →
    let a = c.args in
    not_idle (state_values (bytes_from a.file.now a.k)) ≡ true
idle_not c =
    sym (rw (c.from-kind.ensures, c.byte.ensures, c.number-count.ensures, c.number.ensures) at
    c.not_idle.ensures) ∙ c.if-not-not_idle.false

pub returns-in_default : goal.returns-in_default
unfolding state
returns-in_default c = ends _ _ _ _ c.in_default.is c.next-f.ensures

pub byte-requires : goal.byte-requires
byte-requires c = omega (arith, long (goal.at.byte-requires c).In-Ok)

pub number-count-requires : goal.number-count-requires
number-count-requires c = omega (arith, long (goal.at.number-count-requires c).In-Ok)

pub returns-then-kind-gt2 : goal.returns-then-kind-gt2
returns-then-kind-gt2 c =
    let a = c.args in
    refuses Beyond (state_kind a.k.m (bytes_from a.file.now a.k) (after_field a.file.now a.k) (framed (goal.at.returns-then-kind-gt2 c).In-Ok).0 _
    (omega (arith, c.byte.ensures)))

pub number-requires : goal.number-requires
number-requires c = omega (arith, long (goal.at.number-requires c).In-Ok)

pub returns-then-not-not_idle : goal.returns-then-not-not_idle
returns-then-not-not_idle c =
    let a = c.args in
    refuses Idle (state_idle a.k.m (bytes_from a.file.now a.k) (after_field a.file.now a.k) (framed (goal.at.returns-then-not-not_idle c).In-Ok).0 _
    (kind_right (goal.at.returns-then-not-not_idle c).Else-kind-gt2)
    (sym (rw (c.from-kind.ensures, c.byte.ensures, c.number-count.ensures, c.number.ensures) at
    c.not_idle.ensures) ∙ c.if-not-not_idle.true))

pub returns-then-k-count : goal.returns-then-k-count
returns-then-k-count c =
    let a = c.args in
    refuses Limit (state_limit a.k.m (bytes_from a.file.now a.k) (after_field a.file.now a.k) (framed (goal.at.returns-then-k-count c).In-Ok).0 _
    (kind_right (goal.at.returns-then-k-count c).Else-kind-gt2) (idle_not (goal.at.returns-then-k-count c).Else-not-not_idle) (omega (arith, c.number-count.ensures, c.requires)))

pub returns : goal.returns
returns c =
    let a = c.args in
    record {
      answers = state_passes a.k.m (bytes_from a.file.now a.k) (after_field a.file.now a.k) (framed (goal.at.returns c).In-Ok).0
          (kind_right (goal.at.returns c).Else-kind-gt2) (idle_not (goal.at.returns c).Else-not-not_idle) (omega (arith, c.number-count.ensures, c.requires));
      stays = (framed (goal.at.returns c).In-Ok).1;
    }
