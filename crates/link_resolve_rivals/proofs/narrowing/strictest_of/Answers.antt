use Rattle.std.proofs.Common.{◌∙◌, ap, map, drop, ◌+◌}
use Rattle.std.specs.Prelude.{fold}
use Rattle.link_flags.specs.Strictness as visibility
use Rattle.link_rules.specs.Visibility.{visibility_of}
use Rattle.link_resolve_rivals.proofs.Joining.{next-strictest}
use Rattle.link_resolve_rivals.proofs.narrowing.strictest_of.Goals as goal

pub loop-symbol-preserved : goal.loop-symbol-preserved
loop-symbol-preserved c = λ w seen.
    let later = c.args.later.now in
    let i = c.loop-symbol.symbol-index in
    ap (λ v. fold visibility.strictest v (map (visibility_of w) (drop (i + 1) later))) c.strictest-strictest.ensures
    ∙ next-strictest w c.args.visibilities.now later i c.loop-symbol.strictest _ c.loop-symbol-test.true (c.requires.later i 0 c.loop-symbol-test.true) seen
    ∙ c.loop-symbol.invariant w seen
