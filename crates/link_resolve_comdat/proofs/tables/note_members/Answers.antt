use Rattle.std.proofs.Common.{◌≡◌, ◌<◌, ◌∙◌, false, length, get_or, arith}
use Rattle.std.proofs.lemmas.Grind.{common_steps}
use Rattle.std.proofs.lemmas.List.{get_or_default}
use Rattle.link_resolve_comdat.specs.Tables.{is_noted}
use Rattle.link_resolve_comdat.proofs.Noting.{again-step, noted-step}
use Rattle.link_resolve_comdat.proofs.tables.note_members.Goals as goal

pub loop-section-preserved : goal.loop-section-preserved
loop-section-preserved c =
    let table = c.loop-section.member_of in
    let members = c.args.members.now in
    let i = c.loop-section.section-index in
    let lt : i < length members = c.loop-section-test.true in
    let inside : get_or members i 0 < length table = grind (arith, c.requires i 0) in
    let new : is_noted table (get_or members i 0) ≡ false = grind (arith, common_steps, get_or_default) in
    record {
      again = c.loop-section.invariant.again ∙ again-step table members c.args.group i lt inside new;
      noted = λ n. noted-step c.args.member_of.now table members c.args.group i n lt inside new (c.loop-section.invariant.noted n);
    }
