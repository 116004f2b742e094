use Rattle.std.proofs.Common.{arith, subst, List}
use Rattle.link_script_syntax.specs.declared.matcher.SymbolMatcher.{SymbolMatcher}
use Rattle.link_script.specs.Filter.{Adds}
use Rattle.link_script.specs.Room.{HasRoom}
use Rattle.link_script.proofs.Pushing.{from_ok, goes_over}
use Rattle.link_script.proofs.rules.BasicMatchRules.push_all.Goals as goal

pub matchers-smaller : goal.matchers-smaller
matchers-smaller c = let k = rw c.in-Some.is at c.pop.ensures.len in omega arith

pub matchers-preserved : goal.matchers-preserved
matchers-preserved c =
    let items = rw c.in-Some.is at c.pop.ensures.items in
    let room = c.push.ensures.room c.pop.new.self.items (subst (λ (ms : List SymbolMatcher). HasRoom ms c.matchers.self) items c.matchers.invariant.room) in
    let adds = from_ok c.push.result (Adds c.in-Some.matcher c.matchers.self c.push.new.self) room.0 c.push.ensures.ok in
    record {
      room = room.1;
      adds = goes_over c.matchers.left.items c.pop.new.self.items c.args.matchers c.in-Some.matcher c.args.self.now c.matchers.self c.push.new.self items c.matchers.invariant.adds adds;
    }
