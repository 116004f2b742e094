use Rattle.std.proofs.Common.{◌∙◌, List, ap, sym}
use Rattle.link_input_groups.specs.declared.group.Group.{Group}
use Rattle.link_db_files.specs.Columns.{columns_of}
use Rattle.link_db_files.proofs.Batches.{held-none}
use Rattle.link_db_files.proofs.files.Files.new.Goals as goal

pub invariant_of-result : goal.invariant_of-result
invariant_of-result g c = (
  held-none c.new.result.items c.new-2.result.items c.new-3.result.items c.new.ensures.items c.new-2.ensures.items c.new-3.ensures.items,
  c.new-4.ensures ∙ sym (ap (λ (gs : List (Group g.row.P.Denot)). columns_of gs) c.new.ensures.items),
)
