use Rattle.std.proofs.Common.{◌≡◌, drop}
use Rattle.std.specs.Prelude.{fold}
use Rattle.link_input.specs.Symbols.{Symbol}
use Rattle.link_rules.specs.Undefined.{last_alike}
use Rattle.link_check_undefined.specs.Noted.{id_of}
use Rattle.link_check_undefined.proofs.Lasting.{later}
use Rattle.link_check_undefined.proofs.last.last_references.Given as goal

abbrev pub invariant-loop-reference : goal.invariant-loop-reference
invariant-loop-reference l = (x : Symbol) → fold (later x) (id_of l.last x) (drop l.reference-index l.left) ≡ last_alike l.left x
