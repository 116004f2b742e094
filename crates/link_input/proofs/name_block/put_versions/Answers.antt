use Rattle.std.proofs.Common.{map, take}
use Rattle.link_input.specs.declared.symbol_entry.SymbolEntry.{SymbolEntry}
use Rattle.link_input.specs.NameBlock.{IsVersionAt}
use Rattle.link_input.proofs.InBlock.{versions_kept, one_more}
use Rattle.link_input.proofs.name_block.put_versions.Goals as goal

pub loop-entry-preserved : goal.loop-entry-preserved
loop-entry-preserved c =
    let block = c.put_version.new.block.items in
    let spans = c.loop-entry.spans.items in
    let entries = c.args.entries.now in
    let i = c.loop-entry.entry-index in
    let kept = c.in_ok-put_version.ensures.kept in
    let before = versions_kept c.loop-entry.block.items block kept spans (map (λ (e : SymbolEntry). e.version) (take i entries)) c.loop-entry.invariant.put in
    record {
      put = rw c.in_ok-push.ensures.items
          (one_more (IsVersionAt block) (λ (e : SymbolEntry). e.version) spans entries i c.in_ok-put_version.field-0 c.entry-item.result c.loop-entry-test.true c.entry-item.is before
          c.in_ok-put_version.ensures.put);
      kept = λ span name at. kept span name (c.loop-entry.invariant.kept span name at);
    }
