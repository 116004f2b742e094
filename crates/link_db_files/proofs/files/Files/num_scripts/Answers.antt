use Rattle.std.proofs.Common.{◌<◌, ◌^◌, List, ap, arith, length, subst, sym}
use Rattle.link_input_groups.specs.declared.group.Group.{Group}
use Rattle.link_db_files.specs.declared.starts.FileStart.{FileStart}
use Rattle.link_db_files.specs.Inputs.{scripts_in}
use Rattle.link_db_files.proofs.Picking.{few-scripts}
use Rattle.link_db_files.proofs.files.Files.num_scripts.Goals as goal

pub scripts_of_groups-requires : goal.scripts_of_groups-requires
scripts_of_groups-requires g c =
    let starts = c.self.inside.starts in
    let found = ap (λ (l : List FileStart). length l) c.self.invariant.0.found in
    let few : length (scripts_in c.self.inside.groups.items) < 2 ^ 64 = omega (arith, few-scripts c.self.inside.groups.items, found, starts.ok.0, starts.ok.1, starts.small) in
    subst (λ (gs : List (Group g.row.P.Denot)). length (scripts_in gs) < 2 ^ 64) (sym c.as_slice.ensures.value) few
