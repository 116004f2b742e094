use Rattle.std.proofs.Common.{◌≡◌, map, arith}
use Rattle.link_input.specs.InputFiles.{object, linker_script, stub_input, symbol_count, batch_of}
use Rattle.link_input.specs.Limits.{total}
use Rattle.link_input_groups.proofs.Whole.{in-batch}
use Rattle.link_input_groups.proofs.limits.batch_symbols.Goals as goal

pub returns-clause-value : goal.returns-clause-value
returns-clause-value g c =
    let inputs = c.args.inputs.now in
    let of_objects : c.object_symbols-objects.result ≡ total symbol_count (map object inputs.objects) = rw (← c.as_slice.ensures) c.object_symbols-objects.ensures.value in
    let of_scripts : c.script_symbols-scripts.result ≡ total symbol_count (map linker_script inputs.scripts) = rw (← c.as_slice-2.ensures) c.script_symbols-scripts.ensures.value in
    let of_stubs : c.stub_library_symbols-stubs.result ≡ total symbol_count (map stub_input inputs.stubs) = rw (← c.as_slice-3.ensures) c.stub_library_symbols-stubs.ensures.value in
    omega (arith, of_objects, of_scripts, of_stubs, in-batch symbol_count (batch_of inputs))
