use Rattle.std.proofs.Common.{◌≡◌, take}
use Rattle.link_input.proofs.object_parts.SymbolColumnsPart.same.Given as goal

abbrev pub invariant-loop-place : goal.invariant-loop-place
invariant-loop-place l = take l.place l.self ≡ take l.place l.other
