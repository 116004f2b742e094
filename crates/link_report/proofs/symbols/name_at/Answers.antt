use Rattle.std.proofs.Common.{◌∙◌, ◌<◌, ap, slice_get, subst, sym}
use Rattle.link_input.specs.InputFiles.{symbol_count}
use Rattle.link_input.specs.Symbols.{in_prelude, in_script, in_stub, object_symbol, stub_strength, symbol_of}
use Rattle.link_input.specs.declared.internal_symbols.InternalSymDefInfo.{InternalSymDefInfo}
use Rattle.link_input.specs.declared.world.StubSymbol.{StubSymbol}
use Rattle.link_input.specs.declared.symbol_entry.SymbolEntry.{SymbolEntry}
use Rattle.std.specs.Prelude.{option_map}
use Rattle.link_input_groups.specs.declared.sequenced_input.SequencedInput.{SequencedInput}
use Rattle.link_input_groups.specs.SequencedInputs.{sequenced_file}
use Rattle.link_report.specs.Runs.{names_of_file}
use Rattle.link_report.proofs.Walked.{named-at, named-row}
use Rattle.link_report.proofs.symbols.name_at.Goals as goal

pub returns-in-Prelude : goal.returns-in-Prelude
returns-in-Prelude g c =
    let is = c.in-Prelude.is in
    ap (λ (f : SequencedInput g.row.P.Denot). slice_get (names_of_file (sequenced_file f).file) c.args.place) is
    ∙ named-at (λ (d : InternalSymDefInfo). symbol_of d.name (in_prelude d)) c.in-Prelude.prelude.now c.symbols.result.now c.args.place
    c.index-symbols-place.result c.new.result c.symbols.ensures
    (subst (λ (f : SequencedInput g.row.P.Denot). c.args.place < symbol_count (sequenced_file f).file) is c.requires) (c.new.ensures ∙ c.as_slice.ensures)

pub returns-in-Object : goal.returns-in-Object
returns-in-Object g c =
    let o = c.in-Object.object.now.parsed in
    ap (λ (f : SequencedInput g.row.P.Denot). slice_get (names_of_file (sequenced_file f).file) c.args.place) c.in-Object.is
    ∙ (named-row (object_symbol 0 o) o.object.symbols c.args.place
    ∙ (ap (λ object. option_map (λ (e : SymbolEntry). e.name) (slice_get object.symbols c.args.place)) (sym c.object.ensures) ∙ c.symbol_name_at.ensures))

pub returns-in-LinkerScript : goal.returns-in-LinkerScript
returns-in-LinkerScript g c =
    let is = c.in-LinkerScript.is in
    ap (λ (f : SequencedInput g.row.P.Denot). slice_get (names_of_file (sequenced_file f).file) c.args.place) is
    ∙ named-at (λ (d : InternalSymDefInfo). symbol_of d.name (in_script d)) c.in-LinkerScript.script.now.parsed.symbol_defs c.as_slice-in-LinkerScript.result.now
    c.args.place c.index-as_slice-place.result c.new-in-LinkerScript.result c.as_slice-in-LinkerScript.ensures
    (subst (λ (f : SequencedInput g.row.P.Denot). c.args.place < symbol_count (sequenced_file f).file) is c.requires)
    (c.new-in-LinkerScript.ensures ∙ c.as_slice-in-LinkerScript-2.ensures)

pub returns-in-StubLibrary : goal.returns-in-StubLibrary
returns-in-StubLibrary g c =
    let is = c.in-StubLibrary.is in
    ap (λ (f : SequencedInput g.row.P.Denot). slice_get (names_of_file (sequenced_file f).file) c.args.place) is
    ∙ named-at (λ (s : StubSymbol). symbol_of s.name (in_stub (stub_strength s))) c.in-StubLibrary.stub.now.defined_symbols c.as_slice-in-StubLibrary.result.now
    c.args.place c.index-as_slice-place-in-StubLibrary.result c.new-in-StubLibrary.result c.as_slice-in-StubLibrary.ensures
    (subst (λ (f : SequencedInput g.row.P.Denot). c.args.place < symbol_count (sequenced_file f).file) is c.requires)
    (c.new-in-StubLibrary.ensures ∙ c.as_slice-in-StubLibrary-2.ensures)
