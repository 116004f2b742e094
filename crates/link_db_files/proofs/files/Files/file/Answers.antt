use Rattle.std.proofs.Common.{◌≡◌, get_or, subst}
use Rattle.std.specs.Prelude.{IsTrue, is_some}
use Rattle.link_input_groups.specs.SequencedInputs.{sequenced_file}
use Rattle.link_db_files.specs.GroupFiles.{file_at}
use Rattle.link_db_files.specs.HeldFiles.{HeldFiles}
use Rattle.link_db_files.specs.Numbered.{AreHeld}
use Rattle.link_db_files.proofs.Lookup.{few-read}
use Rattle.link_db_files.proofs.files.Files.file.Goals as goal

pub returns-clause-fits : goal.returns-clause-fits
returns-clause-fits g c =
    let starts = c.self.inside.starts.items in
    let held = c.args.self.now in
    let found : AreHeld held starts = subst (λ (h : HeldFiles g.row.P.Denot). AreHeld h starts) c.self.view_is c.self.invariant.0 in
    let some : IsTrue (is_some (file_at held.groups (record { group = c.group.result; file = c.file.result }))) = rw (c.group.ensures.value, c.file.ensures.value) c.requires in
    let read : c.index.result.now ≡ get_or held.groups c.group.result c.index.result.now = subst (λ (h : HeldFiles g.row.P.Denot). c.index.result.now ≡ get_or h.groups c.group.result c.index.result.now) c.self.view_is c.index.ensures in
    few-read held starts found c.group.result c.file.result c.index.result.now (sequenced_file c.file-2.result) some read c.file-2.ensures
