use Rattle.std.proofs.Common.{◌∙◌, List, ap, length}
use Rattle.std.specs.List.{flat_map}
use Rattle.link_input_groups.specs.Groups.{files_of}
use Rattle.link_db_files.specs.HeldFiles.{HeldFiles}
use Rattle.link_db_files.specs.declared.starts.FileStart.{FileStart}
use Rattle.link_db_files.proofs.Places.{length-all-starts}
use Rattle.link_db_files.proofs.files.Files.num_files.Goals as goal

pub returns : goal.returns
returns g c =
    let fields = c.self.inside in
    c.len.ensures ∙ fields.starts.ok.0 ∙ ap (λ (l : List FileStart). length l) c.self.invariant.0.found ∙ length-all-starts fields.groups.items
    ∙ ap (λ (held : HeldFiles g.row.P.Denot). length (flat_map files_of held.groups)) c.self.view_is
