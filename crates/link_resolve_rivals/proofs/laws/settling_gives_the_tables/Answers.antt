use Rattle.link_resolve_rivals.proofs.Tables.{plain-settled, versioned-settled}
use Rattle.link_resolve_rivals.proofs.laws.settling_gives_the_tables.Goals as goal

pub returns : goal.returns
returns c = record { plain = plain-settled; versioned = versioned-settled }
