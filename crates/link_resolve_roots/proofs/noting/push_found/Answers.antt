use Rattle.std.proofs.Common.{◌∙◌, ◌++◌, ℕ, Option, ap}
use Rattle.std.specs.Option.{option_map, option_to_list}
use Rattle.link_rules.specs.declared.explanation.FoundRoot.{FoundRoot}
use Rattle.link_resolve_roots.proofs.noting.push_found.Goals as goal

pub returns : goal.returns
returns g c = λ demangle w at.
    let named : ℕ → FoundRoot = λ f. record { name = c.args.name.now; object = f } in
    c.in_ok-push_object.ensures ∙ ap (λ (o : Option ℕ). c.args.found.now ++ option_to_list (option_map named o)) (c.object_found-object.ensures demangle w at)
