use Rattle.link_resolve_rivals.proofs.NameLists.{plain-lists, versioned-lists}
use Rattle.link_resolve_rivals.proofs.laws.names_make_lists.Goals as goal

pub returns : goal.returns
returns c = record { plain = plain-lists; versioned = versioned-lists }
