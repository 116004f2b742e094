use Rattle.std.proofs.Common.{◌≡◌, ◌++◌, ◌∙◌, List, ap}
use Rattle.link_input.specs.declared.internal_symbols.InternalSymDefInfo.{InternalSymDefInfo}
use Rattle.link_db_files.specs.Inputs.{scripts_in}
use Rattle.link_resolve_requests.specs.Names.{targets_in}
use Rattle.link_resolve_requests.proofs.Naming.{redirects-more}
use Rattle.link_resolve_requests.proofs.names.push_redirect_targets.Goals as goal

pub returns : goal.returns
returns g c = λ w same_options same_scripts.
    let options = c.args.options.now in
    let old = c.args.names.now.items in
    let own : c.push_targets.new.names.items ≡ old ++ targets_in options.linker_symbols =
    c.in_ok-push_targets.ensures ∙ ap (λ (l : List InternalSymDefInfo). old ++ targets_in l) c.as_slice.ensures in
    let defined : c.push_targets-2.new.names.items ≡ c.push_targets.new.names.items ++ targets_in options.defsym =
    c.in_ok-push_targets-2.ensures ∙ ap (λ (l : List InternalSymDefInfo). c.push_targets.new.names.items ++ targets_in l) c.as_slice-2.ensures in
    redirects-more w options (scripts_in c.args.groups.now) old c.push_targets.new.names.items c.push_targets-2.new.names.items c.push_group_targets.new.names.items
    same_options same_scripts own defined c.in_ok-push_group_targets.ensures
