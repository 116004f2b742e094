use Rattle.link_resolve_rivals.proofs.TwoLists.{two-lists}
use Rattle.link_tests_tables.proofs.rivals.count_choices.Goals as goal

pub name_choices-requires-clause-plain : goal.name_choices-requires-clause-plain
name_choices-requires-clause-plain c = two-lists

pub name_choices-requires-clause-versioned : goal.name_choices-requires-clause-versioned
name_choices-requires-clause-versioned c = two-lists
