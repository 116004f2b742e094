use Rattle.std.proofs.Common.{◌≡◌, ◌++◌, ◌∙◌, List, ap, sym}
use Rattle.std.specs.Option.{option_to_list}
use Rattle.link_rules.specs.FoundRoots.{lasting_names}
use Rattle.link_rules.specs.Loading.{entry_name, forced_names, redirect_targets}
use Rattle.link_rules.specs.Places.{Bytes}
use Rattle.link_resolve_requests.proofs.Naming.{three-behind}
use Rattle.link_resolve_requests.proofs.names.root_names.Goals as goal

pub returns : goal.returns
returns g c = λ demangle w at.
    let first = c.push_entry.new.names.items in
    let entry : first ≡ option_to_list (entry_name w) =
    c.in_ok-push_entry.ensures demangle w at ∙ ap (λ (l : List Bytes). l ++ option_to_list (entry_name w)) c.new-names.ensures.items in
    c.in_ok-push_lasting.ensures demangle w at
    ∙ ap (λ (l : List Bytes). l ++ lasting_names w) entry
    ∙ sym (three-behind (option_to_list (entry_name w)) w.rules.required_exports (forced_names w.options) (redirect_targets w))
