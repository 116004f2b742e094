use Rattle.link_db_mapping.proofs.Telling.{named_empty}
use Rattle.link_db_mapping.proofs.symbol_mapping.SymbolMapping.new.Goals as goal

pub invariant_of-result : goal.invariant_of-result
invariant_of-result g c =
    let empty = c.in_ok-buckets.ensures in
    record { named = named_empty c.new.result c.new-2.result.items c.in_ok-buckets.buckets (empty.keyed _) (empty.definitions _) (empty.overridden _) }
