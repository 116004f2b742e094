use Rattle.std.proofs.Common.{◌<◌, ◌^◌, List, ap, arith, length, subst, sym}
use Rattle.link_input_groups.specs.declared.group.Group.{Group}
use Rattle.link_db_files.specs.declared.starts.FileStart.{FileStart}
use Rattle.link_db_files.specs.Inputs.{objects_in}
use Rattle.link_db_files.proofs.Picking.{few-objects}
use Rattle.link_db_files.proofs.files.Files.num_objects.Goals as goal

pub objects_of_groups-requires : goal.objects_of_groups-requires
objects_of_groups-requires g c =
    let starts = c.self.inside.starts in
    let found = ap (λ (l : List FileStart). length l) c.self.invariant.0.found in
    let few : length (objects_in c.self.inside.groups.items) < 2 ^ 64 = omega (arith, few-objects c.self.inside.groups.items, found, starts.ok.0, starts.ok.1, starts.small) in
    subst (λ (gs : List (Group g.row.P.Denot)). length (objects_in gs) < 2 ^ 64) (sym c.as_slice.ensures.value) few
