use Rattle.link_manifest_json.specs.Spans.{AreJoined}
use Rattle.link_manifest_json.proofs.runs.joined.Given as goal

-- the lists so far are joined
abbrev pub invariant-results : goal.invariant-results
invariant-results g l = AreJoined l.yielded l.all.items
