use Rattle.std.proofs.Common.{◌≡◌, ◌++◌, map}
use Rattle.link_db_files.specs.GroupFiles.{symbols_in}
use Rattle.link_db_symbols.specs.Lookups.{AreBelow}
use Rattle.link_rules.specs.Selection.{Selection}
use Rattle.link_gc.specs.Numbering.{AreNumbersOf, placed_number}
use Rattle.link_gc.proofs.homes.placed_numbers.Given as goal

-- the numbers so far, and those of the symbols that are left
abbrev pub invariant-loop-symbol : goal.invariant-loop-symbol
invariant-loop-symbol g l = record {
  numbers : (s : Selection) → AreNumbersOf s l.numbers.spans.items l.numbers.groups.now
      → l.placed.items ++ map (λ x. placed_number s x.origin) l.symbol-iterator.left ≡ map (λ x. placed_number s x.origin) (symbols_in l.files.groups);
  within : AreBelow l.numbers.count l.placed.items;
}
