use Rattle.std.proofs.Common.{◌≡◌, ◌∙◌, ◌++◌, ℕ, List, arith, ap, sym}
use Rattle.std.specs.Prelude.{replicate}
use Rattle.link_db_files.specs.declared.outlines.FileOutline.{FileOutline}
use Rattle.link_input.specs.InputFiles.{symbol_count}
use Rattle.link_db_files.specs.declared.sources.SymbolSource.{SymbolSource}
use Rattle.link_db_files.proofs.OnePlace.{of-one-file}
use Rattle.link_db_files.proofs.sources.push_sources.Goals as goal

-- one for each of its symbols
pub returns : goal.returns
returns c = λ f is.
    let old = c.args.sources.now.items in
    let source = c.file_source-source.result in
    let all : c.args.outline.now.symbols ≡ symbol_count f = ap (λ (o : FileOutline). o.symbols) is in
    let count : c.loop.counter ≡ symbol_count f = omega (arith, c.loop.auto.counter-end, c.loop-test.false, all) in
    c.loop.invariant
    ∙ ap (λ (s : List SymbolSource). old ++ s)
    (ap (λ (n : ℕ). replicate n source) count
    ∙ (ap (λ (s : SymbolSource). replicate (symbol_count f) s) (c.file_source-source.ensures f is)
    ∙ sym (of-one-file c.args.objects f)))
