use Rattle.std.proofs.Common.{◌≡◌, ◌++◌, ◌∙◌, [], ◌∷◌, List, ap, subst, sym}
use Rattle.link_input_groups.specs.declared.group.Group.{Group}
use Rattle.link_db_files.specs.Numbered.{CanBeHeld}
use Rattle.link_db_files.specs.Starts.{starts_of}
use Rattle.link_db_files.proofs.Growing.{held-group}
use Rattle.link_db_files.proofs.files.Files.add_group.Goals as goal

-- with a group without symbols they can be held
pub append_groups-requires : goal.append_groups-requires
append_groups-requires g c =
    let before = c.args.self.now in
    let one : c.push.new.self.items ≡ c.args.group ∷ [] = c.in_ok-push.ensures.items ∙ ap (λ (gs : List (Group g.row.P.Denot)). gs ++ c.args.group ∷ []) c.in_ok-groups.ensures.items in
    λ held. subst (λ (gs : List (Group g.row.P.Denot)). CanBeHeld (record before { groups = before.groups ++ gs })) (sym one) (held-group before (starts_of before.groups) c.args.group held c.requires)
