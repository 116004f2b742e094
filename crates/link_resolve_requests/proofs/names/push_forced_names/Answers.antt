use Rattle.std.proofs.Common.{◌≡◌, ◌++◌, ◌∙◌, List, ap, sym}
use Rattle.link_input.specs.declared.internal_symbols.InternalSymDefInfo.{InternalSymDefInfo}
use Rattle.link_rules.specs.Places.{Bytes}
use Rattle.link_resolve_requests.specs.Names.{forced_in}
use Rattle.link_resolve_requests.proofs.Naming.{forced-parts, three-more}
use Rattle.link_resolve_requests.proofs.names.push_forced_names.Goals as goal

pub returns : goal.returns
returns c =
    let options = c.args.options.now in
    let old = c.args.names.now.items in
    let own : c.push_forced.new.names.items ≡ old ++ forced_in options.linker_symbols =
    c.in_ok-push_forced.ensures ∙ ap (λ (l : List InternalSymDefInfo). old ++ forced_in l) c.as_slice.ensures in
    let forced : c.push_names.new.names.items ≡ c.push_forced.new.names.items ++ options.force_undefined =
    c.in_ok-push_names.ensures ∙ ap (λ (l : List Bytes). c.push_forced.new.names.items ++ l) c.as_slice-2.ensures in
    let defined : c.push_forced-2.new.names.items ≡ c.push_names.new.names.items ++ forced_in options.defsym =
    c.in_ok-push_forced-2.ensures ∙ ap (λ (l : List InternalSymDefInfo). c.push_names.new.names.items ++ forced_in l) c.as_slice-3.ensures in
    three-more old c.push_forced.new.names.items c.push_names.new.names.items c.push_forced-2.new.names.items
    (forced_in options.linker_symbols) options.force_undefined (forced_in options.defsym) own forced defined
    ∙ ap (λ (l : List Bytes). old ++ l) (sym (forced-parts options))
