use Rattle.std.proofs.Common.{map, take}
use Rattle.link_input.specs.declared.symbol_entry.SymbolEntry.{SymbolEntry}
use Rattle.link_input.specs.NameBlock.{IsAt}
use Rattle.link_input.proofs.InBlock.{names_kept, one_more}
use Rattle.link_input.proofs.name_block.put_names.Goals as goal

pub loop-entry-preserved : goal.loop-entry-preserved
loop-entry-preserved c =
    let block = c.put.new.block.items in
    let spans = c.loop-entry.spans.items in
    let entries = c.args.entries.now in
    let i = c.loop-entry.entry-index in
    let before = names_kept c.loop-entry.block.items block c.in_ok-put.ensures.kept spans (map (λ (e : SymbolEntry). e.name) (take i entries)) c.loop-entry.invariant in
    rw c.in_ok-push.ensures.items
    (one_more (IsAt block) (λ (e : SymbolEntry). e.name) spans entries i c.in_ok-put.field-0 c.entry-item.result c.loop-entry-test.true c.entry-item.is before
    (rw c.as_slice.ensures at c.in_ok-put.ensures.put))
