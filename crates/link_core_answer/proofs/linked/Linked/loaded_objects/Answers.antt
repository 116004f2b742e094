use Rattle.std.proofs.Common.{rules, ◌∙◌, ℕ, Bool, List, ap}
use Rattle.std.specs.Prelude.{filter}
use Rattle.std.specs.List.{enumerate_from}
use Rattle.std.proofs.lemmas.Fn.{filter_same}
use Rattle.link_closure.specs.Closure.{is_marked}
use Rattle.link_db_files.specs.Inputs.{objects_in}
use Rattle.link_input_groups.specs.declared.group.Group.{Group}
use Rattle.link_input.specs.ObjectFile.{ObjectFile}
use Rattle.link_core_answer.proofs.linked.Linked.loaded_objects.Goals as goal

-- what stays are the loaded objects
pub returns : goal.returns
returns g c =
    let is_loaded : ℕ × ObjectFile → Bool = λ o. is_marked c.args.self.now.resolver.known.marks o.0 in
    filter_same _ is_loaded _ (λ x b f' k. search rules) _ _ c.retain.ensures.filtered
    ∙ ap (filter is_loaded) (c.in_ok-objects.ensures ∙ ap (λ (gs : List (Group _)). enumerate_from 0 (objects_in gs)) c.groups.ensures)
