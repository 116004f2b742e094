use Rattle.std.proofs.Common.{◌≡◌, ◌∙◌, ◌+◌, Bool, List, None, Some, ap, length, refl, slice_get, sym}
use Rattle.std.proofs.lemmas.Option.{slice_get_past, slice_get_read}
use Rattle.link_closure.specs.Closure.{is_marked}
use Rattle.link_gc.specs.declared.numbers.SectionSpan.{SectionSpan}
use Rattle.link_gc.proofs.Living.{dead-nowhere, dead-past, live-there}
use Rattle.link_gc.proofs.live.LiveSections.is_live.Goals as goal

-- the section has a number
pub returns-then-section-span : goal.returns-then-section-span
returns-then-section-span c = λ l are.
    let spans = c.args.self.now.spans.items in
    let marks = c.args.self.now.marks.items in
    let slice = c.deref.result.now in
    let f = c.args.object in
    let section = c.args.section in
    let span = c.in-Some.span.now in
    let look = c.in-Some.ensures.lookup in
    let there : slice_get spans f ≡ Some span = ap (λ (xs : List SectionSpan). slice_get xs f) (sym c.deref.ensures.value) ∙ slice_get_read slice (length slice) f span refl look.3.0 look.1 in
    c.is_marked_behind.ensures ∙ (ap (λ (ms : List Bool). is_marked ms (span.start + section)) c.deref-then-section-span.ensures.value
    ∙ live-there l spans marks f section span are.spans_are there c.if-section-span.true)

-- it has none
pub returns-else-section-span : goal.returns-else-section-span
returns-else-section-span c = λ l are.
    let spans = c.args.self.now.spans.items in
    let slice = c.deref.result.now in
    let f = c.args.object in
    let span = c.in-Some.span.now in
    let look = c.in-Some.ensures.lookup in
    let there : slice_get spans f ≡ Some span = ap (λ (xs : List SectionSpan). slice_get xs f) (sym c.deref.ensures.value) ∙ slice_get_read slice (length slice) f span refl look.3.0 look.1 in
    dead-past l spans c.args.self.now.marks.items f c.args.section span are.spans_are there c.if-section-span.false

-- there is no such object
pub returns-in-None : goal.returns-in-None
returns-in-None c = λ l are.
    let spans = c.args.self.now.spans.items in
    let f = c.args.object in
    let none : slice_get spans f ≡ None = ap (λ (xs : List SectionSpan). slice_get xs f) (sym c.deref.ensures.value) ∙ slice_get_past c.deref.result.now f c.in-None.ensures.lookup.3 in
    dead-nowhere l spans c.args.self.now.marks.items f c.args.section are.spans_are none
