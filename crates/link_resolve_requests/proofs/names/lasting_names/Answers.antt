use Rattle.std.proofs.Common.{◌≡◌, ◌++◌, ◌∙◌, List, ap}
use Rattle.link_rules.specs.FoundRoots.{lasting_names}
use Rattle.link_rules.specs.Places.{Bytes}
use Rattle.link_resolve_requests.proofs.names.lasting_names.Goals as goal

pub returns : goal.returns
returns g c = λ demangle w at.
    c.in_ok-push_lasting.ensures demangle w at ∙ ap (λ (l : List Bytes). l ++ lasting_names w) c.new-names.ensures.items
