use Rattle.std.proofs.Common.{◌≡◌, ◌++◌, drop, map}
use Rattle.link_input_groups.specs.declared.sequenced.SequencedLinkerScript.{SequencedLinkerScript}
use Rattle.link_input_groups.specs.Groups.{script_file}
use Rattle.link_resolve_files.specs.ResolvedFiles.{other, resolved_file}
use Rattle.link_resolve_files.proofs.resolving.resolved_scripts.Given as goal

-- the scripts so far, and those that are left
abbrev pub invariant-loop-sequenced : goal.invariant-loop-sequenced
invariant-loop-sequenced g l =
    let to = λ (s : SequencedLinkerScript). other (script_file s) s.file_id in
    map resolved_file l.files.items ++ map to (drop l.sequenced-index l.scripts) ≡ map to l.scripts
