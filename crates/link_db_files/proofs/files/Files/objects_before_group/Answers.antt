use Rattle.std.proofs.Common.{◌∙◌, ap, arith, length, List, take}
use Rattle.link_input_groups.specs.declared.group.Group.{Group}
use Rattle.link_db_files.specs.declared.starts.FileStart.{FileStart}
use Rattle.link_db_files.specs.Inputs.{objects_in}
use Rattle.link_db_files.proofs.Picking.{few-before, few-objects}
use Rattle.link_db_files.proofs.files.Files.objects_before_group.Goals as goal

-- no more objects than files
pub objects_of_groups-requires : goal.objects_of_groups-requires
objects_of_groups-requires g c =
    let starts = c.self.inside.starts in
    let groups = c.self.inside.groups.items in
    let found = ap (λ (l : List FileStart). length l) c.self.invariant.0.found in
    let front = ap (λ (gs : List (Group g.row.P.Denot)). length (objects_in gs)) (c.split_at.ensures.front ∙ ap (λ (gs : List (Group g.row.P.Denot)). take c.min.result gs) c.deref.ensures.value) in
    omega (arith, front, few-before groups c.min.result, few-objects groups, found, starts.ok.0, starts.ok.1, starts.small)

pub returns-clause-fits : goal.returns-clause-fits
returns-clause-fits g c =
    let starts = c.self.inside.starts in
    let groups = c.self.inside.groups.items in
    let found = ap (λ (l : List FileStart). length l) c.self.invariant.0.found in
    let front = ap (λ (gs : List (Group g.row.P.Denot)). length (objects_in gs)) (c.split_at.ensures.front ∙ ap (λ (gs : List (Group g.row.P.Denot)). take c.min.result gs) c.deref.ensures.value) in
    omega (arith, c.objects_of_groups.ensures, front, few-before groups c.min.result, few-objects groups, found, starts.ok.0, starts.ok.1, starts.small)
