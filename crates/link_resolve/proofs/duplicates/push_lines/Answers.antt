use Rattle.link_resolve_rivals.specs.Settled.{clash_line}
use Rattle.std.proofs.Common.{◌++◌, map}
use Rattle.link_resolve.proofs.Lines.{line-more}
use Rattle.link_resolve.proofs.duplicates.push_lines.Goals as goal

-- one clash more
pub loop-clash-preserved : goal.loop-clash-preserved
loop-clash-preserved g c = λ w symbols names places.
    line-more w c.args.clashes.now c.loop-clash.clash-index c.clash-item.result c.loop-clash.lines.items c.push.new.self.items c.in_ok-clash_line.field-0
    (c.args.lines.now.items ++ map (clash_line w) c.args.clashes.now) c.loop-clash-test.true c.clash-item.is (c.in_ok-clash_line.ensures w symbols names places)
    c.in_ok-push.ensures.items (c.loop-clash.invariant w symbols names places)
