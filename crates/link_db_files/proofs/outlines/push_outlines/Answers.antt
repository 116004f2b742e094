use Rattle.std.proofs.Common.{◌++◌, ◌∙◌, [], ◌∷◌, ap}
use Rattle.link_input_groups.specs.Groups.{files_of}
use Rattle.link_input_groups.specs.SequencedInputs.{sequenced_file}
use Rattle.link_db_files.specs.Outlines.{group_outlines}
use Rattle.link_db_files.specs.declared.outlines.FileOutline.{FileOutline}
use Rattle.link_db_files.proofs.Outlined.{outline-more}
use Rattle.link_db_files.proofs.outlines.push_outlines.Goals as goal

-- one file more
pub loop-place-preserved : goal.loop-place-preserved
loop-place-preserved g c =
    let old = c.loop-place.outlines.items in
    outline-more (files_of c.args.group.now) c.loop-place.place (sequenced_file c.file.result) old c.push.new.self.items
    (c.args.outlines.now.items ++ group_outlines c.args.group.now) c.file.ensures (c.in_ok-push.ensures.items ∙ ap (λ (o : FileOutline). old ++ o ∷ []) c.outline_of.ensures) c.loop-place.invariant
