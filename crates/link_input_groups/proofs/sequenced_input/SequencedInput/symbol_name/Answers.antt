use Rattle.std.proofs.Common.{◌≡◌, ◌-◌, ◌∙◌, Some, ap, sym, slice_get, arith}
use Rattle.std.specs.Prelude.{option_map}
use Rattle.link_ids.specs.Span.{offset_in}
use Rattle.link_input.specs.Symbols.{Symbol, symbol_of, object_symbol, in_prelude, in_script, in_stub, stub_strength}
use Rattle.link_input_groups.proofs.Reading.{get-map}
use Rattle.link_input_groups.proofs.sequenced_input.SequencedInput.symbol_name.Goals as goal

pub returns-in-Prelude : goal.returns-in-Prelude
returns-in-Prelude g c =
    let symbols = c.in-Prelude.prelude.now in
    let at : c.args.id - 0 ≡ c.args.id = omega arith in
    let lent = c.new.ensures ∙ c.as_slice.ensures in
    rw c.in-Prelude.is (get-map (λ (x : Symbol). x.name) (λ d. symbol_of d.name (in_prelude d)) symbols (c.args.id - 0) ∙ ap (λ i. option_map (λ d. d.name) (slice_get symbols i)) at ∙ c.symbol_name.ensures ∙ ap Some (sym lent))

pub returns-in-Object : goal.returns-in-Object
returns-in-Object g c =
    let o = c.in-Object.object.now in
    rw c.in-Object.is (get-map (λ (x : Symbol). x.name) (object_symbol 0 o.parsed) o.parsed.object.symbols (offset_in o.symbol_id_range c.args.id) ∙ c.symbol_name-in-Object.ensures)

pub returns-in-LinkerScript : goal.returns-in-LinkerScript
returns-in-LinkerScript g c =
    let s = c.in-LinkerScript.script.now in
    rw c.in-LinkerScript.is (get-map (λ (x : Symbol). x.name) (λ d. symbol_of d.name (in_script d)) s.parsed.symbol_defs (offset_in s.symbol_id_range c.args.id) ∙ c.symbol_name-in-LinkerScript.ensures)

pub returns-in-StubLibrary : goal.returns-in-StubLibrary
returns-in-StubLibrary g c =
    let s = c.in-StubLibrary.stub.now in
    rw c.in-StubLibrary.is (get-map (λ (x : Symbol). x.name) (λ x. symbol_of x.name (in_stub (stub_strength x))) s.defined_symbols (offset_in s.symbol_id_range c.args.id) ∙ c.symbol_name-in-StubLibrary.ensures)
