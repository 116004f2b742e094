use Rattle.std.proofs.Common.{◌≡◌, ◌+◌, ◌∙◌, ◌∷◌, Option, Some, drop, ap, sym, slice_get}
use Rattle.link_input_groups.specs.declared.sequenced_input.SequencedInput.{SequencedInput}
use Rattle.link_input_groups.proofs.FileTotals.{drop-at}
use Rattle.link_db_symbols.specs.Walk.{symbols_of_file}
use Rattle.link_db_symbols.proofs.file_symbols.FileSymbolsIterator.next.Goals as goal

pub returns-clause-steps : goal.returns-clause-steps
returns-clause-steps g c =
    let here = c.self.inside in
    let own = symbols_of_file here.objects here.file in
    let steps = c.in_ok-place.ensures.steps in
    let is : slice_get own c.in_ok-place.place ≡ Some c.symbol_at.result =
    ap (λ (file : Option (SequencedInput g.row.P.Denot)). slice_get (symbols_of_file here.objects file) c.in_ok-place.place) c.in-Some.is ∙ c.symbol_at.ensures in
    sym c.self.view_is
    ∙ (ap (λ n. drop n own) (sym steps.1.1)
    ∙ (drop-at own c.in_ok-place.place c.symbol_at.result is
    ∙ ap (λ n. c.symbol_at.result ∷ drop n own) (ap (λ n. n + 1) steps.1.1 ∙ sym steps.1.2)))
