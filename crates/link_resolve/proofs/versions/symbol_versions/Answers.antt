use Rattle.std.proofs.Common.{ap, arith, length}
use Rattle.link_rules.specs.Undefined.{resolved}
use Rattle.link_rules.specs.Versions.{version_given, version_refusal, versions_given}
use Rattle.link_resolve.proofs.Giving.{cause-none, given-more}
use Rattle.link_resolve.proofs.versions.symbol_versions.Goals as goal

-- one symbol more
pub loop-id-preserved : goal.loop-id-preserved
loop-id-preserved g c =
    let before = c.loop-id.invariant in
    let now = c.loop-id.id-iterator in
    let next = c.next.new.self in
    let steps = c.in-Some.ensures.steps in
    record {
      ids = omega (arith, before.ids, ap length steps.1.0, steps.1.1);
      given = λ s is. given-more (version_given (resolved s)) now.next next.next c.in-Some.id c.in-Some.symbol now.left next.left c.in_ok-index.index c.loop-id.versions.items c.push_version.new.versions.items (versions_given (resolved s))
          steps.0 steps.1.0 steps.1.1 (c.in_ok-index.ensures.version s is) c.in_ok-push_version.ensures (before.given s is);
      cause = λ s is. cause-none (version_given (resolved s)) now.next next.next c.in-Some.id c.in-Some.symbol now.left next.left c.in_ok-index.index (version_refusal (resolved s))
          steps.0 steps.1.0 steps.1.1 (c.in_ok-index.ensures.version s is) (before.cause s is);
    }
