use Rattle.std.proofs.Common.{◌≡◌, ◌∙◌, ◌++◌, [], ◌∷◌, Some, ap, arith, refl, slice_get, length, map}
use Rattle.std.proofs.lemmas.List.{take_all}
use Rattle.std.proofs.lemmas.Option.{slice_get_read}
use Rattle.link_check_symbols.proofs.Filing.{grown-by}
use Rattle.link_check_targets.specs.Tables.{reference_target}
use Rattle.link_check_targets.proofs.AtStage.{targets-are}
use Rattle.link_check_targets.proofs.targets.reference_targets.Goals as goal

pub loop-symbol-preserved : goal.loop-symbol-preserved
loop-symbol-preserved c =
    let symbols = c.symbols-symbols.result.now in
    let i = c.loop-symbol.symbol-index in
    let x = c.symbol-item.result in
    let at : slice_get symbols i ≡ Some x = slice_get_read symbols (length symbols) i x refl (omega arith) c.symbol-item.is in
    let told = c.deref.ensures.value ∙ c.in_ok-hidden.ensures in
    c.in_ok-push.ensures.items
    ∙ (ap (λ t. c.loop-symbol.targets.items ++ t ∷ []) (c.reference_target.ensures c.args.weak_overrides_common told)
    ∙ grown-by (reference_target c.args.weak_overrides_common c.args.names.now) symbols i x [] c.loop-symbol.targets.items at c.loop-symbol.invariant)

pub returns : goal.returns
returns c = λ w is.
    let symbols = c.symbols-symbols.result.now in
    let target = reference_target c.args.weak_overrides_common c.args.names.now in
    c.loop-symbol.invariant
    ∙ (ap (map target) (take_all c.loop-symbol.symbol-index symbols c.loop-symbol-test.false ∙ c.symbols-symbols.ensures)
    ∙ targets-are c.args.weak_overrides_common c.args.names.now w is)
