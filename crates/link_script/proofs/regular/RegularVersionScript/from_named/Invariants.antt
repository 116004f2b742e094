use Rattle.std.proofs.Common.{◌∷◌}
use Rattle.link_script.specs.Filter.{AreVersions}
use Rattle.link_script.specs.Regular.{base}
use Rattle.link_script.proofs.regular.RegularVersionScript.from_named.Given as goal

abbrev pub invariant-named : goal.invariant-named
invariant-named l = AreVersions (base ∷ l.yielded) l.versions
