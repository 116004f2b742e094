use Rattle.std.proofs.Common.{◌≡◌, drop, length}
use Rattle.link_db_files.specs.GroupFiles.{symbols_in}
use Rattle.link_flags.specs.FlagWords.{words_of}
use Rattle.link_rules.specs.Undefined.{Resolution}
use Rattle.link_resolve_undefined.specs.Flagged.{IsEnd, all_passed, numbers_in}
use Rattle.link_resolve_undefined.specs.Records.{numbered_at}
use Rattle.link_resolve_undefined.proofs.flagging.pass_visibilities.Given as goal

abbrev pub invariant-loop-id : goal.invariant-loop-id
invariant-loop-id g l = record {
  passed : (r : Resolution) → IsEnd (symbols_in l.files.groups) l.asked (g.M.FirstDefinitions.mapping l.names) l.table r
      → all_passed r (numbered_at (symbols_in l.files.groups) (drop l.id-index l.left)) (numbers_in l.flags)
      ≡ all_passed r (numbered_at (symbols_in l.files.groups) l.left) (numbers_in l.fn.flags);
  len : length (words_of l.flags) ≡ length (words_of l.fn.flags);
}
