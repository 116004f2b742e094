use Rattle.std.proofs.Common.{sym, ◌∙◌, arith}
use Rattle.link_program.proofs.Numerals.{first-of_decimal, decimal-of_parse, same-of_parse, no-err_of_parse}
use Rattle.link_program.proofs.command.number_of.Goals as goal
use Rattle.link_program.proofs.command.number_of.Goals.{then-first-eq48-via-then-first-eq48, then-first-eq48-via-else-first-eq48+then-first-eq43}

pub returns-then-first-eq48-clause-none : goal.returns-then-first-eq48-clause-none
returns-then-first-eq48-clause-none c = λ n some within is.
    let lead = first-of_decimal c.as_str-text.result.now n some (omega (arith, c.ranges.most.fits)) (c.as_str-text.ensures ∙ is) in
    elim c.then-first-eq48.branch [
      | then-first-eq48-via-then-first-eq48 w ↦ omega (arith, lead, c.first_byte-first.ensures, w.if-first-eq48.true)
      | then-first-eq48-via-else-first-eq48+then-first-eq43 w ↦ omega (arith, lead, c.first_byte-first.ensures, w.if-first-eq43.true)
    ]

pub returns-in-Ok-clause-number : goal.returns-in-Ok-clause-number
returns-in-Ok-clause-number c =
    sym c.as_str-text.ensures
    ∙ decimal-of_parse c.as_str-text.result.now c.in-Ok.number c.parse.result (λ zero. c.if-first-eq48.false (c.first_byte-first.ensures ∙ zero))
    (λ plus. c.if-first-eq43.false (c.first_byte-first.ensures ∙ plus)) c.parse.ensures.value.0 c.in-Ok.is

pub returns-in_default-clause-none : goal.returns-in_default-clause-none
returns-in_default-clause-none c = λ n some within is.
    let same = same-of_parse c.as_str-text.result.now n c.in-Ok.number c.parse.result (omega (arith, c.ranges.most.fits)) (c.as_str-text.ensures ∙ is) c.parse.ensures.value.0 c.in-Ok.is in
    omega (arith, same, c.if-number-most.false)

pub returns-in_default-2-clause-none : goal.returns-in_default-2-clause-none
returns-in_default-2-clause-none c = λ n some within is.
    let same = same-of_parse c.as_str-text.result.now n c.in-Ok.number c.parse.result (omega (arith, c.ranges.most.fits)) (c.as_str-text.ensures ∙ is) c.parse.ensures.value.0 c.in-Ok.is in
    omega (arith, same, c.if-number-ge1.false)

pub returns-in_default-3-clause-none : goal.returns-in_default-3-clause-none
returns-in_default-3-clause-none c = λ n some within is.
    no-err_of_parse c.as_str-text.result.now n c.parse.result c.in_default.field-0 (omega (arith, c.ranges.most.fits)) (c.as_str-text.ensures ∙ is) c.parse.ensures.value.0 c.in_default.is
