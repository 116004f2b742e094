use Rattle.std.proofs.Common.{◌≡◌, ◌++◌, drop, map}
use Rattle.link_input_groups.specs.declared.sequenced.SequencedLinkerScript.{SequencedLinkerScript}
use Rattle.link_db_files.specs.Starts.{start_of}
use Rattle.link_db_files.proofs.starts.script_starts.Given as goal

abbrev pub invariant-loop-script : goal.invariant-loop-script
invariant-loop-script l = l.starts.items ++ map (λ (s : SequencedLinkerScript). start_of s.symbol_id_range s.file_id) (drop l.script-index l.scripts) ≡ map (λ (s : SequencedLinkerScript). start_of s.symbol_id_range s.file_id) l.scripts
