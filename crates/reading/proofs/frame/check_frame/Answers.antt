-- Each test of the frame that fails is the refusal that `field` gives there, and a frame that passes them all is the field's length.
use Rattle.reading.proofs.FieldWays.{field_cut, field_tag, field_length, field_short, field_given, field_stops, field_walks}
use Rattle.reading.specs.Meaning.{bytes_from}
use Rattle.tables.specs.declared.Refusal.TheVariants.{Cut, Tag, Length}
use Rattle.model.specs.File.{allowed}
use native.Mathlib.Omega.{arith}
use mathlib.Core.Path.{sym, ap, ◌∙◌}
use Rattle.reading.proofs.frame.check_frame.Goals as goal

pub returns-then-left-lt3 : goal.returns-then-left-lt3
returns-then-left-lt3 c =
    let a = c.args in
    field_stops a.file.now a.k a.due Cut
    (field_cut a.due (bytes_from a.file.now a.k) (omega (arith, c.remaining-left.ensures)))

pub returns-then-byte-due : goal.returns-then-byte-due
returns-then-byte-due c =
    let a = c.args in
    field_stops a.file.now a.k a.due Tag
    (field_tag a.due (bytes_from a.file.now a.k) (omega (arith, c.remaining-left.ensures))
    (λ q. c.if-byte-due.true (c.byte.ensures ∙ q)))

pub returns-then-not-allowed : goal.returns-then-not-allowed
returns-then-not-allowed c =
    let a = c.args in
    field_stops a.file.now a.k a.due Length
    (field_length a.due (bytes_from a.file.now a.k) (omega (arith, c.remaining-left.ensures))
    (sym c.byte.ensures ∙ c.if-byte-due.false)
    (sym (c.allowed.ensures ∙ ap (allowed a.due) c.number-len.ensures) ∙ c.if-not-allowed.true))

pub returns-then-left-len : goal.returns-then-left-len
returns-then-left-len c =
    let a = c.args in
    field_stops a.file.now a.k a.due Cut
    (field_short a.due (bytes_from a.file.now a.k) (omega (arith, c.remaining-left.ensures))
    (sym c.byte.ensures ∙ c.if-byte-due.false)
    (sym (c.allowed.ensures ∙ ap (allowed a.due) c.number-len.ensures)
    ∙ c.if-not-allowed.false) (omega (arith, c.remaining-left.ensures, c.number-len.ensures)))

pub returns : goal.returns
returns c =
    let a = c.args in
    let given_len = field_given a.due (bytes_from a.file.now a.k) (omega (arith, c.remaining-left.ensures))
    (sym c.byte.ensures ∙ c.if-byte-due.false)
    (sym (c.allowed.ensures ∙ ap (allowed a.due) c.number-len.ensures)
    ∙ c.if-not-allowed.false) (omega (arith, c.remaining-left.ensures, c.number-len.ensures)) in
    field_walks a.file.now a.k a.due (rw (← c.number-len.ensures) at given_len) c.requires c.moved.ensures
