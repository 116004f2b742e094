use Rattle.std.proofs.Common.{◌≡◌, drop, length}
use Rattle.link_db_files.specs.GroupFiles.{symbols_in}
use Rattle.link_flags.specs.FlagWords.{words_of}
use Rattle.link_resolve_undefined.specs.Edited.{edited}
use Rattle.link_resolve_undefined.specs.Flagged.{numbers_in, with_own}
use Rattle.link_resolve_undefined.specs.Records.{numbered_at}
use Rattle.link_resolve_undefined.proofs.flagging.flag_own.Given as goal

abbrev pub invariant-loop-id : goal.invariant-loop-id
invariant-loop-id g l = record {
  own : edited (with_own l.output l.table) (numbered_at (symbols_in l.files.groups) (drop l.id-index l.left)) (numbers_in l.flags)
      ≡ edited (with_own l.output l.table) (numbered_at (symbols_in l.files.groups) l.left) (numbers_in l.fn.flags);
  len : length (words_of l.flags) ≡ length (words_of l.fn.flags);
}
