use Rattle.std.proofs.Common.{◌∙◌, ap}
use Rattle.link_check_rivals.specs.Lists.{settled_table}
use Rattle.link_check_rivals.specs.declared.lists.Naming.TheVariants.{Versioned}
use Rattle.link_check_rivals.proofs.Tables.{versioned-settled}
use Rattle.link_check_rivals.proofs.loaded.LoadedSymbols.versioned_table.Goals as goal

pub returns : goal.returns
returns c = λ l tells targets.
    c.in_ok-settled.ensures l tells ∙ (ap (settled_table Versioned l) (c.deref.ensures.value ∙ c.in_ok-table.ensures l tells targets) ∙ versioned-settled l)
