use Rattle.std.proofs.Common.{◌≡◌, ◌∙◌, List, None, Some, ap, length, refl, slice_get, sym}
use Rattle.std.proofs.lemmas.Option.{slice_get_past, slice_get_read}
use Rattle.link_gc.specs.declared.numbers.SectionSpan.{SectionSpan}
use Rattle.link_gc.proofs.Numbering.{gone-by, gone-number, kept-number, loaded-there, lost-nowhere, lost-past, starts-there, unloaded-number}
use Rattle.link_gc.proofs.numbers.SectionNumbers.number.Goals as goal
use Rattle.link_gc.proofs.numbers.SectionNumbers.number.Goals.{then-section-span-via-then-section-span, then-section-span-via-else-section-span+then-is_discarded}

-- there is no such object
pub returns-in_err-span-clause-number : goal.returns-in_err-span-clause-number
returns-in_err-span-clause-number c = λ l are.
    let spans = c.args.self.now.spans.items in
    let f = c.args.object in
    let none : slice_get spans f ≡ None = ap (λ (xs : List SectionSpan). slice_get xs f) (sym c.deref.ensures.value) ∙ slice_get_past c.deref.result.now f c.in_err-span.ensures.lookup.3 in
    c.from_residual.ensures ∙ unloaded-number l f c.args.section (lost-nowhere l spans f c.args.section are.spans_are none)

-- the section has no number, or it goes with its group
pub returns-then-section-span-clause-number : goal.returns-then-section-span-clause-number
returns-then-section-span-clause-number c = λ l are.
    let spans = c.args.self.now.spans.items in
    let groups = c.args.self.now.groups.now in
    let slice = c.deref.result.now in
    let f = c.args.object in
    let section = c.args.section in
    let span = c.in_ok-span.span.now in
    let look = c.in_ok-span.ensures.lookup in
    let there : slice_get spans f ≡ Some span = ap (λ (xs : List SectionSpan). slice_get xs f) (sym c.deref.ensures.value) ∙ slice_get_read slice (length slice) f span refl look.3.0 look.1 in
    elim c.then-section-span.branch [
      | then-section-span-via-then-section-span w ↦ unloaded-number l f section (lost-past l spans f section span are.spans_are there w.if-section-span.true)
      | then-section-span-via-else-section-span+then-is_discarded w ↦
          gone-number l f section (sym (gone-by l spans groups f section are) ∙ (sym w.is_discarded.ensures ∙ w.if-is_discarded.true))
    ]

-- the section has a number
pub returns-clause-number : goal.returns-clause-number
returns-clause-number c = λ l are.
    let spans = c.args.self.now.spans.items in
    let groups = c.args.self.now.groups.now in
    let slice = c.deref.result.now in
    let f = c.args.object in
    let section = c.args.section in
    let span = c.in_ok-span.span.now in
    let look = c.in_ok-span.ensures.lookup in
    let there : slice_get spans f ≡ Some span = ap (λ (xs : List SectionSpan). slice_get xs f) (sym c.deref.ensures.value) ∙ slice_get_read slice (length slice) f span refl look.3.0 look.1 in
    kept-number l f section span.start (loaded-there l spans f section span are.spans_are there c.if-section-span.false)
    (sym (gone-by l spans groups f section are) ∙ (sym c.is_discarded.ensures ∙ c.if-is_discarded.false))
    (starts-there l spans f span are.spans_are there)
