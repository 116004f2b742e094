use Rattle.std.proofs.Common.{◌≡◌, List, ◌++◌, drop, take}
use Rattle.std.specs.Prelude.{filter_map}
use Rattle.std.specs.List.{enumerate_from}
use Rattle.link_script_syntax.specs.declared.matcher.ParsedSymbolMatcher.{ParsedSymbolMatcher}
use Rattle.link_script.specs.ExportList.{IsListOf}
use Rattle.link_rules.specs.Places.{Bytes, first_of}
use Rattle.link_rules.specs.Refusals.{forced_export_cause}
use Rattle.link_db_texts.specs.Causes.{forced_cause}
use Rattle.link_db_texts.specs.Holds.{forced_entries}
use Rattle.link_db_texts.proofs.reading.add_forced.Given as goal

abbrev pub invariant-loop-i : goal.invariant-loop-i
invariant-loop-i l = record {
  cause : first_of (filter_map forced_export_cause (enumerate_from l.i (drop l.i l.forced))) ≡ forced_cause l.forced;
  added : (entries : List ParsedSymbolMatcher) (required : List Bytes) → IsListOf entries required l.fn.list
      → IsListOf (entries ++ forced_entries (take l.i l.forced)) required l.list;
}
