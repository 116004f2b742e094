use Rattle.std.proofs.Common.{◌≡◌, ◌∙◌, Some, arith, length, refl, slice_get}
use Rattle.std.proofs.lemmas.Option.{slice_get_read}
use Rattle.link_names.specs.Names.{value_in}
use Rattle.link_check_groups.proofs.FirstKept.{first-grow}
use Rattle.link_check_groups.proofs.first.first_comdats.Goals as goal

pub loop-group-preserved : goal.loop-group-preserved
loop-group-preserved c = λ signature.
    let groups = c.args.groups.now in
    let i = c.loop-group.group-index in
    let g = c.group-item.result in
    let at : slice_get groups i ≡ Some g = slice_get_read groups (length groups) i g refl (omega arith) c.group-item.is in
    c.in_ok-note_group.ensures signature ∙ first-grow groups i g signature (value_in c.loop-group.first signature) at (c.loop-group.invariant signature)
