use Rattle.link_resolve_rivals.proofs.TwoLists.{two-lists}
use Rattle.link_tests_tables.proofs.rivals.settle_two_lists.Goals as goal

pub settle-requires-clause-lists : goal.settle-requires-clause-lists
settle-requires-clause-lists c = rw c.requires.len two-lists
