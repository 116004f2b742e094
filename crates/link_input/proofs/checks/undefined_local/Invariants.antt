use Rattle.std.proofs.Common.{◌≡◌, drop}
use Rattle.link_input.specs.Checks.{first_place, is_undefined_local}
use Rattle.link_input.proofs.checks.undefined_local.Given as goal

abbrev pub invariant-loop-i : goal.invariant-loop-i
invariant-loop-i l = first_place (is_undefined_local l.has_null) 0 l.symbols ≡ first_place (is_undefined_local l.has_null) l.i (drop l.i l.symbols)
