use Rattle.std.proofs.Common.{◌∙◌, List, Option, Bor, ap, false, sym, ℕ}
use Rattle.std.specs.Option.{option_map_or}
use Rattle.link_names.specs.Names.{has_name}
use Rattle.link_check_undefined.proofs.Behind.{mark-behind}
use Rattle.link_check_undefined.proofs.boundaries.SectionNames.has_behind.Goals as goal

pub returns-in-None : goal.returns-in-None
returns-in-None c =
    let sections = c.args.self.now in
    ap (λ (r : Option (Bor (List ℕ))). option_map_or (λ (rest : Bor (List ℕ)). has_name sections rest.now) r false) (sym c.in-None.is)
    ∙ mark-behind c.args.prefix.now c.args.name.now sections c.behind.result c.behind.ensures
