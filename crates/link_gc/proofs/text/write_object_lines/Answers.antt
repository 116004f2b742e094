use Rattle.std.proofs.Common.{◌≡◌, ◌<◌, ◌++◌, ◌∙◌, ℕ, IsTrue, ap, arith}
use Rattle.std.specs.Prelude.{string_bytes}
use Rattle.link_input.specs.declared.object.ObjectTable.{ObjectTable}
use Rattle.link_input.specs.ObjectFile.{ObjectFile}
use Rattle.link_gc_sections.specs.LiveSections.{is_loaded_section}
use Rattle.link_gc_sections.specs.SectionText.{section_line}
use Rattle.link_gc.proofs.Lines.{lines-end, lines-more, lines-start, section-loaded}
use Rattle.link_gc.proofs.text.write_object_lines.Goals as goal

-- all lines are left
pub loop-section-init : goal.loop-section-init
loop-section-init g c = λ s are at within.
    let o = c.args.object.now in
    lines-start (λ n. section_line s c.args.live.now.marks.items (o.0, n)) o.1.object.sections (string_bytes c.args.text.now)

-- one section more
pub loop-section-preserved : goal.loop-section-preserved
loop-section-preserved g c = λ s are at within.
    let o = c.args.object.now in
    let k = c.loop-section.section in
    let marks = c.args.live.now.marks.items in
    let old = string_bytes c.loop-section.text in
    let place : c.object.inside.place ≡ o.0 = ap (λ (p : ℕ × ObjectFile). p.0) c.object.view_is in
    let count : c.num_sections-section-end.result ≡ o.1.object.sections =
    c.num_sections-section-end.ensures ∙ ap (λ (t : ObjectTable). t.sections) (c.object-2.ensures ∙ ap (λ (p : ℕ × ObjectFile). p.1.object) c.object.view_is) in
    let inside : k < o.1.object.sections = omega (arith, c.loop-section-test.true, count) in
    let loaded : IsTrue (is_loaded_section s (c.object.inside.place, k)) = ap (λ (f : ℕ). is_loaded_section s (f, k)) place ∙ section-loaded s o k within inside in
    lines-more (λ n. section_line s marks (o.0, n)) k o.1.object.sections old (string_bytes c.write_section_line.new.text) _ inside
    (c.in_ok-write_section_line.ensures s are at loaded ∙ ap (λ (f : ℕ). old ++ section_line s marks (f, k)) place) (c.loop-section.invariant s are at within)

-- no lines are left
pub returns : goal.returns
returns g c = λ s are at within.
    let o = c.args.object.now in
    let count : c.num_sections-section-end.result ≡ o.1.object.sections =
    c.num_sections-section-end.ensures ∙ ap (λ (t : ObjectTable). t.sections) (c.object-2.ensures ∙ ap (λ (p : ℕ × ObjectFile). p.1.object) c.object.view_is) in
    lines-end (λ n. section_line s c.args.live.now.marks.items (o.0, n)) c.loop-section.section o.1.object.sections (string_bytes c.loop-section.text) _
    (omega (arith, c.loop-section-test.false, count)) (c.loop-section.invariant s are at within)
