use Rattle.link_rules.proofs.NullEntries.{references-by}
use Rattle.link_rules.proofs.laws_world.undefined_entries_are_references.Goals as goal

pub returns : goal.returns
returns c = references-by
