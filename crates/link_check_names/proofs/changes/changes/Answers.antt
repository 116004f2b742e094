use Rattle.std.proofs.Common.{◌≡◌, [], Some, arith, refl, slice_get, length}
use Rattle.std.proofs.lemmas.Option.{slice_get_read}
use Rattle.link_check_names.specs.Named.{mapped_by}
use Rattle.link_check_names.specs.declared.wraps.WrappedName.{WrappedName}
use Rattle.link_check_names.proofs.Wrapping.{wraps-next}
use Rattle.link_check_names.proofs.changes.changes.Goals as goal

pub loop-name-preserved : goal.loop-name-preserved
loop-name-preserved c =
    let lists = c.args.lists.now in
    let wraps = c.args.wraps.now in
    let at : slice_get wraps c.loop-name.name-index ≡ Some c.name-item.result =
    slice_get_read wraps (length wraps) c.loop-name.name-index c.name-item.result refl (omega arith) c.name-item.is in
    wraps-next (λ (w : WrappedName). w.name) wraps c.loop-name.name-index c.name-item.result (mapped_by lists []) (mapped_by lists c.loop-name.changed) (mapped_by lists c.wrap.new.changed)
    at c.loop-name.invariant c.in_ok-wrap.ensures
