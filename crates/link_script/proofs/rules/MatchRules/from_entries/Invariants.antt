use Rattle.link_script.specs.Filter.{HasEntries}
use Rattle.link_script.proofs.rules.MatchRules.from_entries.Given as goal

abbrev pub invariant-entries : goal.invariant-entries
invariant-entries l = HasEntries l.yielded l.rules
