use Rattle.std.proofs.Common.{◌≡◌, ◌∙◌, false, sym, true}
use Rattle.link_gc_sections.specs.LiveSections.{is_gone}
use Rattle.link_resolve_discarded.proofs.Same.{same-sections}
use Rattle.link_gc.proofs.Lines.{word-dead, word-gone, word-live}
use Rattle.link_gc.proofs.text.section_word.Goals as goal

-- it goes with its group
pub returns-then-is_discarded : goal.returns-then-is_discarded
returns-then-is_discarded c = λ l are at loaded.
    let gone : is_gone l (c.args.object, c.args.section) ≡ true =
    sym (same-sections l.stage l.marks c.args.groups.now are c.args.object c.args.section) ∙ (sym c.is_discarded.ensures ∙ c.if-is_discarded.true) in
    word-gone l c.args.live.now.marks.items (c.args.object, c.args.section) gone

-- it is live
pub returns-then-is_live : goal.returns-then-is_live
returns-then-is_live c = λ l are at loaded.
    let stays : is_gone l (c.args.object, c.args.section) ≡ false =
    sym (same-sections l.stage l.marks c.args.groups.now are c.args.object c.args.section) ∙ (sym c.is_discarded.ensures ∙ c.if-is_discarded.false) in
    word-live l c.args.live.now.marks.items (c.args.object, c.args.section) stays loaded (sym (c.is_live.ensures l at) ∙ c.if-is_live.true)

-- nothing keeps it
pub returns-else-is_live : goal.returns-else-is_live
returns-else-is_live c = λ l are at loaded.
    let stays : is_gone l (c.args.object, c.args.section) ≡ false =
    sym (same-sections l.stage l.marks c.args.groups.now are c.args.object c.args.section) ∙ (sym c.is_discarded.ensures ∙ c.if-is_discarded.false) in
    word-dead l c.args.live.now.marks.items (c.args.object, c.args.section) stays loaded (sym (c.is_live.ensures l at) ∙ c.if-is_live.false)
