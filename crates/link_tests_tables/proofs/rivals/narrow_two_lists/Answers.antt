use Rattle.link_resolve_rivals.proofs.TwoLists.{two-lists}
use Rattle.link_tests_tables.proofs.rivals.narrow_two_lists.Goals as goal

pub narrow-requires-clause-lists : goal.narrow-requires-clause-lists
narrow-requires-clause-lists c = two-lists
