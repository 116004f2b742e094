-- One file of a group.
use Rattle.link_input_groups.specs.declared.sequenced_input.SequencedInput.{SequencedInput}
use Rattle.link_input_groups.specs.declared.sequenced_input.SequencedInput.TheVariants as input
use Rattle.link_input.specs.SequencedFiles.{SequencedFile}
use Rattle.link_input_groups.specs.Groups.{sequenced_prelude, object_file, script_file, stub_file, synthetic_file}

-- the file with the ids of its symbols and sections
abbrev pub sequenced_file : {P : Type 0} → SequencedInput P → SequencedFile
sequenced_file (input.Prelude prelude) = sequenced_prelude prelude.now
sequenced_file (input.Object object) = object_file object.now
sequenced_file (input.LinkerScript script) = script_file script.now
sequenced_file (input.StubLibrary stub) = stub_file stub.now
sequenced_file (input.SyntheticSymbols synthetic) = synthetic_file synthetic.now
