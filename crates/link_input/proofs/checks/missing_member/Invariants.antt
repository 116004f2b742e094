use Rattle.std.proofs.Common.{◌≡◌, drop}
use Rattle.link_input.specs.Checks.{missing_member}
use Rattle.link_input.proofs.checks.missing_member.Given as goal

abbrev pub invariant-loop-group : goal.invariant-loop-group
invariant-loop-group l = missing_member l.sections 0 l.groups ≡ missing_member l.sections l.group (drop l.group l.groups)
