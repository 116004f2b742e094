use Rattle.std.proofs.Common.{◌≡◌, ◌++◌, drop}
use Rattle.link_rules.specs.Places.{some_from}
use Rattle.link_resolve_reasons.specs.Known.{known_by}
use Rattle.link_resolve_reasons.specs.Told.{loaded_reason, reasons_in}
use Rattle.link_resolve_reasons.proofs.reasons.reasons_of.Given as goal

-- the reasons so far, and those of the objects that are left
abbrev pub invariant-loop-object : goal.invariant-loop-object
invariant-loop-object l =
    l.reasons.items ++ some_from (loaded_reason (known_by l.known)) l.object (drop l.object l.loaded) ≡ reasons_in (known_by l.known) l.loaded
