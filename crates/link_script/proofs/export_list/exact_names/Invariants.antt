use Rattle.std.proofs.Common.{◌≡◌, ◌++◌, drop}
use Rattle.link_script_syntax.specs.MachoList.{exact_names}
use Rattle.link_script.proofs.export_list.exact_names.Given as goal

abbrev pub invariant-loop-matcher : goal.invariant-loop-matcher
invariant-loop-matcher l = l.names ++ exact_names (drop l.matcher-index l.matchers) ≡ exact_names l.matchers
