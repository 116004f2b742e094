use Rattle.std.proofs.Common.{◌≡◌, List, ℕ, None, Some, if◌then◌else◌, take}
use Rattle.link_names.specs.Names.{value_in}
use Rattle.link_resolve_explanation.specs.Wraps.{is_wrapped}
use Rattle.link_resolve_explanation.proofs.wraps.wrapped_names.Given as goal

-- the names of the wraps so far
abbrev pub invariant-loop-name : goal.invariant-loop-name
invariant-loop-name l = (asked : List ℕ) → value_in l.firsts asked ≡ (if is_wrapped (take l.name-index l.wraps) asked then Some None else None)
