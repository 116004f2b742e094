use Rattle.link_resolve_rivals.proofs.TwoLists.{two-lists}
use Rattle.link_tests_tables.proofs.rivals.two_choices.Goals as goal

pub choices-requires-clause-lists : goal.choices-requires-clause-lists
choices-requires-clause-lists c = rw c.table-table.ensures.len two-lists
