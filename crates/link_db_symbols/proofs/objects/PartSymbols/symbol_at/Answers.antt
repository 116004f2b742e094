use Rattle.std.proofs.Common.{◌≡◌, ◌+◌, ◌-◌, ◌<◌, ◌∙◌, Bool, List, Some, ap, arith, length, map, slice_get, sym}
use Rattle.std.specs.Prelude.{option_map}
use Rattle.std.proofs.lemmas.Option.{slice_get-map}
use Rattle.link_input.specs.declared.object.ObjectTable.{ObjectTable}
use Rattle.link_input.specs.declared.symbol_entry.SymbolEntry.{SymbolEntry}
use Rattle.link_input.specs.InputFiles.{object}
use Rattle.link_input.specs.Symbols.{Symbol, file_symbols, in_object, object_symbol}
use Rattle.link_db_symbols.specs.Walk.{SymbolsLeft}
use Rattle.link_db_symbols.proofs.OwnSymbols.{part-at, part-length}
use Rattle.link_db_symbols.proofs.objects.PartSymbols.symbol_at.Goals as goal

-- a place of the part is below its end
pub overflow_add-self-inside : goal.overflow_add-self-inside
overflow_add-self-inside g c =
    let here = c.self.inside in
    let own = file_symbols here.place (object here.parsed.now) in
    let left = ap (λ (s : SymbolsLeft). length s.left) c.self.view_is in
    omega (arith, c.requires, left, part-length own here.places.start here.places.end c.self.invariant.0, c.self.invariant.1)

-- it is that of the entry so far behind the first place
pub returns : goal.returns
returns g c =
    let here = c.self.inside in
    let make = object_symbol here.place here.parsed.now in
    let entries : List SymbolEntry = here.parsed.now.object.symbols in
    let at = c.args.at in
    let place = here.places.start + at in
    let row = c.symbol_at.result in
    let left = ap (λ (s : SymbolsLeft). s.left) c.self.view_is in
    let inside : at < here.places.end - here.places.start =
    omega (arith, c.requires, ap (λ (l : List Symbol). length l) left, part-length (map make entries) here.places.start here.places.end c.self.invariant.0) in
    let is : slice_get (map make entries) place ≡ Some c.new.result =
    slice_get-map make entries place
    ∙ (ap (λ (es : List SymbolEntry). option_map make (slice_get es place)) (sym (ap (λ (t : ObjectTable). t.symbols) c.object.ensures))
    ∙ (ap (option_map make) c.symbol_at.ensures
    ∙ ap (λ (x : Symbol). Some x) (ap (λ (b : Bool). record { name = row.name; version = row.version; origin = in_object here.place b row }) (sym c.is_dynamic.ensures) ∙ sym c.new.ensures))) in
    ap (λ (l : List Symbol). slice_get l at) (sym left) ∙ (part-at (map make entries) here.places.start (here.places.end - here.places.start) at inside ∙ is)
