use Rattle.std.proofs.Common.{◌∙◌}
use Rattle.link_db_files.specs.GroupFiles.{symbols_in}
use Rattle.link_resolve_undefined.proofs.LeftIds.{left-ids, left-records, left-some}
use Rattle.link_resolve_undefined.proofs.references.references_left.Goals as goal

pub returns-clause-ids : goal.returns-clause-ids
returns-clause-ids g c =
    left-ids (symbols_in c.args.files.now.groups) c.args.loaded.now c.as_slice.result.now c.args.targets.now c.in_ok-left.left.items (c.as_slice.ensures.value ∙ c.in_ok-held.ensures) c.in_ok-left.ensures

pub returns-clause-records : goal.returns-clause-records
returns-clause-records g c =
    left-records (symbols_in c.args.files.now.groups) c.args.loaded.now c.as_slice.result.now c.args.targets.now c.in_ok-left.left.items (c.as_slice.ensures.value ∙ c.in_ok-held.ensures) c.in_ok-left.ensures

pub returns-clause-some : goal.returns-clause-some
returns-clause-some g c =
    left-some (symbols_in c.args.files.now.groups) c.args.loaded.now c.as_slice.result.now c.args.targets.now c.in_ok-left.left.items c.in_ok-left.ensures
