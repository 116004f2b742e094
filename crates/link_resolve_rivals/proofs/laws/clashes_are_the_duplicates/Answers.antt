use Rattle.link_resolve_rivals.proofs.Tables.{plain-lines, versioned-lines}
use Rattle.link_resolve_rivals.proofs.laws.clashes_are_the_duplicates.Goals as goal

pub returns : goal.returns
returns c = record { plain = plain-lines; versioned = versioned-lines }
