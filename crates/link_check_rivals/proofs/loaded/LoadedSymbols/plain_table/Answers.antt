use Rattle.std.proofs.Common.{◌∙◌, ap}
use Rattle.link_check_rivals.specs.Lists.{settled_table}
use Rattle.link_check_rivals.specs.declared.lists.Naming.TheVariants.{Plain}
use Rattle.link_check_rivals.proofs.Tables.{plain-settled}
use Rattle.link_check_rivals.proofs.loaded.LoadedSymbols.plain_table.Goals as goal

pub returns : goal.returns
returns c = λ l tells targets.
    c.in_ok-settled.ensures l tells ∙ (ap (settled_table Plain l) (c.deref.ensures.value ∙ c.in_ok-table.ensures l tells targets) ∙ plain-settled l)
