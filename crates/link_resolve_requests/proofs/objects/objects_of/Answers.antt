use Rattle.std.proofs.Common.{◌∙◌, [], ◌∷◌, ap, map, sym}
use Rattle.std.proofs.lemmas.List.{nil_from_length}
use Rattle.link_input_groups.specs.declared.group.Group.{Group}
use Rattle.link_db_files.specs.Inputs.{objects_in}
use Rattle.link_db_files.proofs.Picking.{no-objects}
use Rattle.link_resolve_requests.proofs.GroupObjects.{objects-there}
use Rattle.link_resolve_requests.proofs.objects.objects_of.Goals as goal

pub returns-in-Objects : goal.returns-in-Objects
returns-in-Objects g c =
    ap (map (λ o. o.parsed)) c.as_slice.ensures ∙ objects-there c.in-Objects.objects ∙ ap (λ (k : Group g.row.P.Denot). objects_in (k ∷ [])) (sym c.in-Objects.is)

pub returns-in_default : goal.returns-in_default
returns-in_default g c = sym (nil_from_length (objects_in (c.args.group.now ∷ [])) (sym (no-objects c.args.group.now c.in_default.not-Objects)))
