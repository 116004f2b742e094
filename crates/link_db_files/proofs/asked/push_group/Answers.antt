use Rattle.std.proofs.Common.{◌++◌}
use Rattle.link_input_groups.specs.Groups.{files_of}
use Rattle.link_input_groups.specs.SequencedInputs.{sequenced_file}
use Rattle.link_input.specs.SequencedFiles.{SequencedFile}
use Rattle.link_db_files.specs.Asked.{file_asked, group_asked}
use Rattle.link_db_files.proofs.Asking.{joined-more}
use Rattle.link_db_files.proofs.asked.push_group.Goals as goal

-- one file more
pub loop-place-preserved : goal.loop-place-preserved
loop-place-preserved g c =
    joined-more (λ (f : SequencedFile). file_asked f.file) (files_of c.args.group.now) c.loop-place.place (sequenced_file c.file.result) c.loop-place.asked.items c.push_file.new.asked.items
    (c.args.asked.now.items ++ group_asked c.args.group.now) c.file.ensures c.in_ok-push_file.ensures c.loop-place.invariant
