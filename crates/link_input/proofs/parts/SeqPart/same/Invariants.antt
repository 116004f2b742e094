use Rattle.std.proofs.Common.{◌≡◌, length, take}
use Rattle.link_input.proofs.parts.SeqPart.same.Given as goal

abbrev pub invariant-loop-part : goal.invariant-loop-part
invariant-loop-part g l = take (length l.yielded) l.self ≡ take (length l.yielded) l.other
