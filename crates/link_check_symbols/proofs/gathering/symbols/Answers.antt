use Rattle.std.proofs.Common.{◌≡◌, ◌∙◌, ◌++◌, [], ap, sym, map}
use Rattle.std.specs.List.{flat_map}
use Rattle.link_input.specs.InputFiles.{batch_of, object, prelude}
use Rattle.link_input.specs.Symbols.{file_symbols, symbols_of}
use Rattle.link_check_symbols.specs.Gathered.{library_symbols, script_symbols}
use Rattle.link_check_symbols.proofs.Filing.{appended, gathered}
use Rattle.link_check_symbols.proofs.gathering.symbols.Goals as goal

pub returns : goal.returns
returns g c =
    let definitions = c.args.prelude.now in
    let batch = batch_of c.args.inputs.now in
    let first : c.push_prelude.new.symbols.items ≡ [] ++ file_symbols 0 (prelude definitions) = appended c.new-symbols.ensures.items (ap (λ d. file_symbols 0 (prelude d)) c.symbols.ensures) c.in_ok-push_prelude.ensures in
    let second : c.push_objects.new.symbols.items ≡ ([] ++ file_symbols 0 (prelude definitions)) ++ symbols_of 0 (map object batch.objects) = appended first (ap (λ os. symbols_of 0 (map object os)) c.as_slice.ensures) c.in_ok-push_objects.ensures in
    let third : c.push_scripts.new.symbols.items ≡ (([] ++ file_symbols 0 (prelude definitions)) ++ symbols_of 0 (map object batch.objects)) ++ flat_map script_symbols batch.scripts = appended second (ap (flat_map script_symbols) c.as_slice-2.ensures) c.in_ok-push_scripts.ensures in
    appended third (ap (flat_map library_symbols) c.as_slice-3.ensures) c.in_ok-push_libraries.ensures ∙ sym (gathered definitions batch)
