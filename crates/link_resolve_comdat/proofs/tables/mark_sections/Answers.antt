use Rattle.std.proofs.Common.{◌≡◌, ◌<◌, ◌||◌, ◌∙◌, sym, ap, [], length, get_or, drop, arith}
use Rattle.std.proofs.lemmas.Grind.{common_steps}
use Rattle.link_closure.specs.Closure.{is_marked}
use Rattle.link_rules.specs.Places.{contains}
use Rattle.link_resolve_comdat.proofs.Marks.{inside-members, inside-header, marked-step, marked-header}
use Rattle.link_resolve_comdat.proofs.Truth.{or-false}
use Rattle.link_resolve_comdat.proofs.tables.mark_sections.Goals as goal

pub loop-section-preserved : goal.loop-section-preserved
loop-section-preserved c = λ n.
    let members = c.args.group.now.members in
    let i = c.loop-section.section-index in
    let lt : i < length members = omega (arith, ap length c.members-section-items.ensures) in
    let inside : get_or members i 0 < length c.loop-section.marks = omega (arith, inside-members _ c.args.group.now c.requires i 0 lt) in
    rw c.members-section-items.ensures (marked-step c.args.marks.now c.loop-section.marks members i n lt inside (c.loop-section.invariant n))

pub bounds-marks-group : goal.bounds-marks-group
bounds-marks-group c = omega (arith, inside-header _ c.args.group.now c.requires)

pub returns : goal.returns
returns c = λ n.
    let members = c.args.group.now.members in
    let over : drop c.loop-section.section-index members ≡ [] = grind (arith, common_steps) in
    let inside : c.args.group.now.index < length c.loop-section.marks = omega (arith, inside-header _ c.args.group.now c.requires) in
    let all : is_marked c.loop-section.marks n ≡ (is_marked c.args.marks.now n || contains n members) = sym (or-false (is_marked c.loop-section.marks n)) ∙ (rw over at (c.loop-section.invariant n)) in
    marked-header c.args.marks.now c.loop-section.marks c.args.group.now n inside all
