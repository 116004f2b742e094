use Rattle.std.proofs.Common.{◌≡◌, ◌-◌, ◌<◌, ◌++◌, ℕ, All, filter_map, length, slice_index}
use Rattle.std.specs.List.{range_with_len}
use Rattle.link_rules.specs.Selection.{Selection}
use Rattle.link_resolve_rivals.specs.Settled.{IsInside, clash_at, clashes}
use Rattle.link_resolve_rivals.specs.Survivors.{Tells}
use Rattle.link_resolve_rivals.proofs.SettlePass.{settled_below}
use Rattle.link_resolve_rivals.proofs.settling.settle.Given as goal

abbrev pub invariant-loop-number : goal.invariant-loop-number
invariant-loop-number g l = record {
  inside : All (λ t. t < length l.table) l.table;
  table : (selection : Selection) → Tells l.survivors selection → (s : ℕ)
      → slice_index l.table s ≡ settled_below selection (g.L.RivalLists.listed l.lists) l.fn.table l.number s;
  clashes : (selection : Selection) → Tells l.survivors selection
      → l.clashes.items ++ filter_map (λ s. clash_at selection (g.L.RivalLists.listed l.lists s) l.fn.table s) (range_with_len l.number (length l.fn.table - l.number))
      ≡ clashes selection (g.L.RivalLists.listed l.lists) l.fn.table;
  told : All (IsInside (length l.fn.table)) l.clashes.items;
}
