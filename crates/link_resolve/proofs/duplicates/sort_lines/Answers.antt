use Rattle.link_rules.proofs.SortedOnce.{sorted-once}
use Rattle.link_rules.proofs.SortedTexts.{sorted_texts-sorted}
use Rattle.link_rules.specs.Sorting.{sorted_texts}
use Rattle.link_resolve.proofs.duplicates.sort_lines.Goals as goal

pub returns : goal.returns
returns c =
    let texts = c.args.lines.now.items in
    let known = sorted_texts-sorted texts in
    sorted-once texts c.sort.new.self.items (sorted_texts texts) c.in_ok-sort.ensures.permutation c.in_ok-sort.ensures.sorted known.0 known.1
