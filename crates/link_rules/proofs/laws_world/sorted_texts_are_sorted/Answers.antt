use Rattle.link_rules.proofs.SortedTexts.{sorted_texts-sorted}
use Rattle.link_rules.proofs.laws_world.sorted_texts_are_sorted.Goals as goal

pub returns : goal.returns
returns c = sorted_texts-sorted
