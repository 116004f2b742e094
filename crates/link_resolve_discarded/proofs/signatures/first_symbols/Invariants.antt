use Rattle.std.proofs.Common.{◌≡◌, ◌<◌, ℕ, length}
use Rattle.std.specs.Option.{option_or}
use Rattle.link_db_files.specs.GroupFiles.{symbols_in}
use Rattle.link_resolve_discarded.specs.Indexed.{index_at}
use Rattle.link_resolve_discarded.specs.Signatures.{first_id}
use Rattle.link_resolve_discarded.proofs.signatures.first_symbols.Given as goal

-- the first symbols so far, and those among the symbols that are left
abbrev pub invariant-loop-id : goal.invariant-loop-id
invariant-loop-id g l = record {
  long : length l.firsts.items ≡ l.objects;
  firsts : (f : ℕ) → f < l.objects → option_or (index_at l.firsts.items f) (first_id f l.id-iterator.next l.id-iterator.left) ≡ first_id f 0 (symbols_in l.files.groups);
}
