use Rattle.std.proofs.Common.{◌≡◌, ◌++◌, drop, map}
use Rattle.link_input_groups.specs.declared.sequenced.SequencedStubLibrary.{SequencedStubLibrary}
use Rattle.link_input_groups.specs.Groups.{stub_file}
use Rattle.link_resolve_files.specs.ResolvedFiles.{other, resolved_file}
use Rattle.link_resolve_files.proofs.resolving.resolved_stubs.Given as goal

-- the libraries so far, and those that are left
abbrev pub invariant-loop-sequenced : goal.invariant-loop-sequenced
invariant-loop-sequenced g l =
    let to = λ (s : SequencedStubLibrary). other (stub_file s) s.file_id in
    map resolved_file l.files.items ++ map to (drop l.sequenced-index l.stubs) ≡ map to l.stubs
