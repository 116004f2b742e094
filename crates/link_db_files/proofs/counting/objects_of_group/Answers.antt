use Rattle.std.proofs.Common.{◌∙◌, [], ◌∷◌, ap, length, sym}
use Rattle.link_input_groups.specs.declared.group.Group.{Group}
use Rattle.link_db_files.specs.Inputs.{objects_in}
use Rattle.link_db_files.proofs.Picking.{no-objects, objects-own}
use Rattle.link_db_files.proofs.counting.objects_of_group.Goals as goal

pub returns-in-Objects : goal.returns-in-Objects
returns-in-Objects g c =
    c.len.ensures ∙ (objects-own c.in-Objects.objects ∙ ap (λ (k : Group g.row.P.Denot). length (objects_in (k ∷ []))) (sym c.in-Objects.is))

pub returns-in_default : goal.returns-in_default
returns-in_default g c = no-objects c.args.group.now c.in_default.not-Objects
