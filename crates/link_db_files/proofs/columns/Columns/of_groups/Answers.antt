use Rattle.std.proofs.Common.{◌≡◌, ◌∙◌, List}
use Rattle.std.specs.List.{flat_map}
use Rattle.link_input_groups.specs.Groups.{files_of}
use Rattle.link_input.specs.SequencedFiles.{SequencedFile}
use Rattle.link_db_files.specs.Columns.{columns_behind}
use Rattle.link_db_files.proofs.Asking.{groups-asked}
use Rattle.link_db_files.proofs.Kept.{same-columns}
use Rattle.link_db_files.proofs.Outlined.{outlines, outlines-are}
use Rattle.link_db_files.proofs.columns.Columns.of_groups.Goals as goal

-- each column is that of the groups
pub returns : goal.returns
returns g c =
    let groups = c.args.groups.now in
    let files : List SequencedFile = flat_map files_of groups in
    let told : c.as_slice.result.now ≡ outlines files = c.as_slice.ensures.value ∙ (c.in_ok-outlines.ensures ∙ outlines-are groups) in
    same-columns (record { outlines = c.in_ok-outlines.outlines.items; sources = c.in_ok-sources.sources.items; asked = c.in_ok-asked.asked.items }) (columns_behind c.args.objects groups)
    c.in_ok-outlines.ensures (c.in_ok-sources.ensures files told) (c.in_ok-asked.ensures ∙ groups-asked c.args.objects groups)
