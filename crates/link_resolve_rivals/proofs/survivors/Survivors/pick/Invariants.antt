use Rattle.std.proofs.Common.{◌≡◌, ◌<◌, drop, length, List}
use Rattle.std.specs.Prelude.{All, fold}
use Rattle.link_flags.specs.Pick.{Candidate}
use Rattle.link_flags.specs.Selector.{after, considered}
use Rattle.link_rules.specs.Rivals.{static_candidates}
use Rattle.link_rules.specs.Selection.{Selection}
use Rattle.link_resolve_rivals.specs.Survivors.{Tells}
use Rattle.link_resolve_rivals.proofs.survivors.Survivors.pick.Given as goal

abbrev pub invariant-loop-entry : goal.invariant-loop-entry
invariant-loop-entry l = record {
  value : (selection : Selection) → Tells l.self selection
      → fold after l.selector (static_candidates selection (drop l.entry-index l.entries)) ≡ considered (static_candidates selection l.entries);
  inside : (candidates : List Candidate) × (l.selector ≡ considered candidates) × All (λ c. c.0 < length l.self.strengths.now) candidates;
}
