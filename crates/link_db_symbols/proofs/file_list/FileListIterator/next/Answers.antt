use Rattle.std.proofs.Common.{◌∙◌, sym}
use Rattle.link_input_groups.specs.SequencedInputs.{sequenced_file}
use Rattle.link_db_symbols.proofs.Walk.{files-next}
use Rattle.link_db_symbols.proofs.file_list.FileListIterator.next.Goals as goal

pub returns-then-self-num_files-clause-steps : goal.returns-then-self-num_files-clause-steps
returns-then-self-num_files-clause-steps g c =
    let here = c.loop-group.self-inside in
    let some = c.in-Some in
    let next = files-next here.place here.groups.now some.group.now some.rest.now (sequenced_file c.file-file.result) some.ensures.cases.0 c.file-file.ensures in
    ◌∙◌ {a = c.args.self.now} (sym c.self.view_is) (sym c.loop-group.invariant ∙ next)
