use Rattle.std.proofs.Common.{◌≡◌, ◌++◌, ◌∙◌, List, ap, sym}
use Rattle.link_input.specs.declared.options.Options.{Options}
use Rattle.link_input_groups.specs.declared.group.Group.{Group}
use Rattle.link_db_files.specs.Inputs.{scripts_in}
use Rattle.link_rules.specs.Loading.{forced_names, redirect_targets}
use Rattle.link_rules.specs.Places.{Bytes}
use Rattle.link_resolve_requests.proofs.Naming.{three-behind}
use Rattle.link_resolve_requests.proofs.names.push_lasting.Goals as goal

pub returns : goal.returns
returns g c = λ demangle w at.
    let old = c.args.names.now.items in
    let second = c.push_names.new.names.items in
    let third = c.push_forced_names.new.names.items in
    let all = c.push_redirect_targets.new.names.items in
    let exports : second ≡ old ++ w.rules.required_exports =
    c.in_ok-push_names.ensures ∙ ap (λ (l : List Bytes). old ++ l) (c.required_export_symbols.ensures demangle w.rules at.rules) in
    let forced : third ≡ second ++ forced_names w.options =
    c.in_ok-push_forced_names.ensures ∙ ap (λ (o : Options). second ++ forced_names o) (c.options.ensures ∙ sym at.options) in
    let redirects : all ≡ third ++ redirect_targets w =
    c.in_ok-push_redirect_targets.ensures w (at.options ∙ sym c.options-2.ensures) (at.scripts ∙ ap (λ (gs : List (Group g.row.P.Denot)). scripts_in gs) (sym c.groups.ensures)) in
    redirects
    ∙ ap (λ (l : List Bytes). l ++ redirect_targets w) (forced ∙ ap (λ (l : List Bytes). l ++ forced_names w.options) exports)
    ∙ three-behind old w.rules.required_exports (forced_names w.options) (redirect_targets w)
