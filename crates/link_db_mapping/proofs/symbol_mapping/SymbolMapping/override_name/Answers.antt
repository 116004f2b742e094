use Rattle.std.proofs.Common.{◌≡◌, subst}
use Rattle.std.specs.Prelude.{IfOk}
use Rattle.link_db_mapping.specs.Mapped.{Mapped, mapping_of}
use Rattle.link_db_mapping.proofs.symbol_mapping.SymbolMapping.override_name.Goals as goal

pub returns-clause-before : goal.returns-clause-before
returns-clause-before g c =
    let held = c.in_ok-place.ensures in
    subst (λ (m : Mapped g.row.P.Denot). IfOk c.override_held.result (λ before. before ≡ mapping_of m c.args.name)) held.same (c.override_held.ensures.before c.args.name held.held)
