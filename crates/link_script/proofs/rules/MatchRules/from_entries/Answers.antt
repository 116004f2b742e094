use Rattle.std.proofs.Common.{subst, sym, ◌∙◌, List}
use Rattle.std.proofs.lemmas.Iterator.Consumers.{YieldsList-end}
use Rattle.std.proofs.lemmas.Iterator.Adapters.{YieldsList-from_vec}
use Rattle.std.proofs.lemmas.List.{map-id}
use Rattle.link_script_syntax.specs.declared.matcher.ParsedSymbolMatcher.{ParsedSymbolMatcher}
use Rattle.link_script.specs.Filter.{HasEntries}
use Rattle.link_script.proofs.Pushing.{entries_grow, entries_none}
use Rattle.link_script.proofs.rules.MatchRules.from_entries.Goals as goal

pub returns : goal.returns
returns c =
    let g = c.into_iter-entry-iterator.ensures.into_iter_gives in
    let t = YieldsList-end (YieldsList-from_vec c.into_vec-entry-items.result.items g.0 (g.1 ∙ c.into_vec-entry-items.result.ok.0)) c.entries.yielded c.entries.entry-iterator c.entries.yielded_by _ c.next.new.self c.in-None.is c.next.ensures.steps in
    subst (λ (xs : List ParsedSymbolMatcher). HasEntries xs c.entries.rules) (sym (map-id c.entries.yielded) ∙ t.0 ∙ c.into_vec-entry-items.ensures) c.entries.invariant

pub entries-init : goal.entries-init
entries-init c = entries_none c.new-rules.result c.new-rules.ensures

pub entries-preserved : goal.entries-preserved
entries-preserved c = entries_grow c.entries.yielded c.in-Some.entry c.entries.rules c.push.new.self c.entries.invariant c.in_ok-push.ensures.ok
