use Rattle.std.proofs.Common.{◌≡◌, ◌∙◌, ℕ, List, [], ap, length, refl, subst, sym}
use Rattle.std.specs.Option.{option_map_or}
use Rattle.std.proofs.lemmas.Option.{same_Some, slice_get_read, slice_get_within}
use Rattle.link_input.specs.Symbols.{Symbol}
use Rattle.link_db_symbols.specs.Walk.{SymbolsLeft, with_ids}
use Rattle.link_db.specs.Seen.{seen}
use Rattle.link_db_files.specs.GroupFiles.{symbols_in}
use Rattle.link_resolve_extraction.specs.Asked.{ArePart, IsReadIn}
use Rattle.link_resolve_extraction.specs.Items.{symbols_of_item}
use Rattle.link_resolve_extraction.specs.Work.{known_of, read_in}
use Rattle.link_resolve_extraction.proofs.Told.{nothing-read, ok-each}
use Rattle.link_resolve_extraction.proofs.Unasked.{item_part}
use Rattle.link_resolve_extraction.proofs.planning.LinkPlanReadable.read.Goals as goal

-- the symbols of the item are symbols of the database
pub read_symbols-requires : goal.read_symbols-requires
read_symbols-requires g c =
    let plan = c.args.self.now in
    let z = c.index.result.now in
    let all = symbols_in (seen plan.db.now).mapping.files.groups in
    let same : with_ids c.in-Some.symbols ≡ symbols_of_item plan.objects.items z =
    ap (λ o. option_map_or with_ids o []) (sym c.in-Some.is) ∙ (c.item_symbols.ensures ∙ ap (λ (os : List SymbolsLeft). symbols_of_item os z) c.deref.ensures.value) in
    record { own = subst (λ (l : List (ℕ × Symbol)). ArePart all l) (sym same) (item_part plan.objects.items all plan.own z) }

-- what is read in the symbols of the item
pub returns-in-Some : goal.returns-in-Some
returns-in-Some g c =
    let plan = c.args.self.now in
    let z = c.index.result.now in
    let items = plan.items.items in
    ok-each c.read_symbols.result (IsReadIn (known_of plan) (with_ids c.in-Some.symbols)) (read_in plan c.args.item)
    c.read_symbols.ensures.read
    (λ read is it at.
    let same : z ≡ it = same_Some z it (sym (slice_get_read items (length items) c.args.item z refl (slice_get_within items c.args.item it at) c.index.ensures) ∙ at) in
    subst (λ (l : List (ℕ × Symbol)). IsReadIn (known_of plan) l read)
    (ap (λ o. option_map_or with_ids o []) (sym c.in-Some.is) ∙ (c.item_symbols.ensures ∙ (ap (λ (os : List SymbolsLeft). symbols_of_item os z) c.deref.ensures.value ∙ ap (symbols_of_item plan.objects.items) same))) is)

-- nothing where there is no such object
pub returns-in-None : goal.returns-in-None
returns-in-None g c = λ it at.
    let plan = c.args.self.now in
    let z = c.index.result.now in
    let items = plan.items.items in
    let same : z ≡ it = same_Some z it (sym (slice_get_read items (length items) c.args.item z refl (slice_get_within items c.args.item it at) c.index.ensures) ∙ at) in
    subst (λ (l : List (ℕ × Symbol)). IsReadIn (known_of plan) l c.none.result)
    (ap (λ o. option_map_or with_ids o []) (sym c.in-None.is) ∙ (c.item_symbols.ensures ∙ (ap (λ (os : List SymbolsLeft). symbols_of_item os z) c.deref.ensures.value ∙ ap (symbols_of_item plan.objects.items) same)))
    (nothing-read (known_of plan) c.none.result c.none.ensures.requests c.none.ensures.references)
