use Rattle.std.proofs.Common.{◌≡◌, ◌+◌, ◌≤◌, drop}
use Rattle.link_script.specs.Room.{count_of}
use Rattle.link_script.proofs.rules.count_of.Given as goal

abbrev pub invariant-loop-matcher : goal.invariant-loop-matcher
invariant-loop-matcher l = (l.count + count_of l.class (drop l.matcher-index l.matchers) ≡ count_of l.class l.matchers) × (l.count ≤ l.matcher-index)
