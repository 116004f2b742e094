use Rattle.std.proofs.Common.{◌≡◌, ◌+◌, ◌≤◌, ◌*◌, ◌^◌, drop}
use Rattle.link_input.specs.Limits.{total}
use Rattle.link_input_groups.proofs.group.symbols_of_objects.Given as goal

abbrev pub invariant-loop-object : goal.invariant-loop-object
invariant-loop-object g l = record {
  counted : l.count + total (λ o. o.symbol_id_range.len) (drop l.object-index l.objects) ≡ total (λ o. o.symbol_id_range.len) l.objects;
  small : l.count ≤ l.object-index * 2 ^ 32;
}
