use Rattle.std.proofs.Common.{◌≡◌, ◌∙◌, ◌*◌, ◌-◌, ℕ, List, Some, ap, length, min, refl, slice_get, sym, take, drop, []}
use Rattle.std.specs.Option.{option_map_or}
use Rattle.std.proofs.lemmas.List.FromFn.{length-enumerate_from}
use Rattle.std.proofs.lemmas.Option.{slice_get_read}
use Rattle.link_input.specs.Symbols.{Symbol}
use Rattle.link_rules.specs.Work.{item_size}
use Rattle.link_db_symbols.specs.Walk.{with_ids}
use Rattle.link_resolve_extraction.proofs.Parts.{part-cut, part-with-ids}
use Rattle.link_resolve_extraction.proofs.items.item_symbols.Goals as goal

-- the part that is cut out
pub returns : goal.returns
returns g c =
    let o = c.in_ok-object.object.now in
    let start = c.min-start.result in
    let end = c.min-end.result in
    let own : List (ℕ × Symbol) = with_ids o in
    let look = c.in_ok-object.ensures.lookup in
    let there : slice_get c.args.objects.now c.args.item.object ≡ Some o = slice_get_read c.args.objects.now (length c.args.objects.now) c.args.item.object o refl look.3.0 look.1 in
    let count = length-enumerate_from o.next o.left ∙ sym c.num_symbols.ensures in
    let same = c.num_symbols-2.ensures ∙ sym c.num_symbols.ensures in
    ap with_ids c.part.ensures
    ∙ (part-with-ids o start (end - start)
    ∙ (part-cut own (item_size * c.args.item.part) item_size c.num_symbols.result c.saturating_mul.result start c.saturating_add.result end count c.num_symbols.type_inv c.saturating_mul.ensures c.min-start.ensures
    c.saturating_add.ensures (c.min-end.ensures ∙ ap (λ n. min c.saturating_add.result n) same)
    ∙ ap (λ p. take item_size (drop (item_size * c.args.item.part) (option_map_or with_ids p []))) (sym there)))
