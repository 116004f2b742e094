use Rattle.std.proofs.Common.{◌≡◌, map, take}
use Rattle.link_check_names.proofs.wraps.wrapped_names.Given as goal

abbrev pub invariant-loop-name : goal.invariant-loop-name
invariant-loop-name l = map (λ w. w.name) l.wraps.items ≡ take l.name-index l.names
