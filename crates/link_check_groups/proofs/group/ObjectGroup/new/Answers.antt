use Rattle.std.proofs.Common.{◌∙◌, ap, slice_get, sym}
use Rattle.std.specs.Option.{option_and_then}
use Rattle.link_check_groups.proofs.Listing.{group-lent}
use Rattle.link_check_groups.proofs.group.ObjectGroup.new.Goals as goal

pub returns : goal.returns
returns g c =
    let o = c.args.object.now in
    let i = c.args.index in
    let table = sym c.object-table.ensures in
    group-lent c.args.place o i c.group.result.now c.signature.result c.as_slice.result.now
    (ap (λ t. slice_get t.groups i) table ∙ c.group.ensures.group)
    (ap (λ t. option_and_then (λ x. slice_get t.symbols x.signature_symbol) (slice_get t.groups i)) table ∙ c.signature.ensures)
    (c.as_slice.ensures ∙ c.name.ensures)
