use Rattle.std.proofs.Common.{◌≡◌, ◌++◌, ◌∙◌, List, ap, sym}
use Rattle.std.specs.Option.{option_to_list}
use Rattle.link_input_groups.specs.declared.group.Group.{Group}
use Rattle.link_db_files.specs.Inputs.{scripts_in}
use Rattle.link_rules.specs.Loading.{entry_name, redirect_targets}
use Rattle.link_rules.specs.Places.{Bytes}
use Rattle.link_resolve_requests.proofs.names.referred_names.Goals as goal

pub returns : goal.returns
returns g c = λ demangle w at.
    let first = c.push_entry.new.names.items in
    let entry : first ≡ option_to_list (entry_name w) =
    c.in_ok-push_entry.ensures demangle w at ∙ ap (λ (l : List Bytes). l ++ option_to_list (entry_name w)) c.new-names.ensures.items in
    c.in_ok-push_redirect_targets.ensures w (at.options ∙ sym c.options.ensures) (at.scripts ∙ ap (λ (gs : List (Group g.row.P.Denot)). scripts_in gs) (sym c.groups.ensures))
    ∙ ap (λ (l : List Bytes). l ++ redirect_targets w) entry
