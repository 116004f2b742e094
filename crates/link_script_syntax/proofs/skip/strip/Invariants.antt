use Rattle.std.proofs.Common.{◌≡◌, ◌+◌, length, drop}
use Rattle.link_script_syntax.specs.Skip.{strips}
use Rattle.link_script_syntax.proofs.skip.strip.Given as goal

abbrev pub invariant-loop-byte : goal.invariant-loop-byte
invariant-loop-byte l = (strips (drop l.byte-index l.prefix) l.rest ≡ strips l.prefix l.text) × (length l.rest + l.byte-index ≡ length l.text)
