use Rattle.std.proofs.Common.{◌≡◌, ◌∙◌, ◌++◌, [], ◌∷◌, Some, ap, sym, slice_get}
use Rattle.link_input.specs.Symbols.{object_symbol}
use Rattle.link_check_symbols.proofs.Filing.{grown-by}
use Rattle.link_check_symbols.proofs.gathering.push_object.Goals as goal

pub loop-index-preserved : goal.loop-index-preserved
loop-index-preserved g c =
    let o = c.args.object.now in
    let row = c.symbol_at-row.result in
    let at : slice_get o.object.symbols c.loop-index.index ≡ Some row =
    ap (λ t. slice_get t.symbols c.loop-index.index) (sym c.object-table.ensures) ∙ c.symbol_at-row.ensures in
    let is : c.new.result ≡ object_symbol c.args.place o row = cc in
    c.in_ok-push.ensures.items
    ∙ (ap (λ x. c.loop-index.symbols.items ++ x ∷ []) is
    ∙ grown-by (object_symbol c.args.place o) o.object.symbols c.loop-index.index row c.args.symbols.now.items c.loop-index.symbols.items at c.loop-index.invariant)
