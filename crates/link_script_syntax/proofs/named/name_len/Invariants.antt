use Rattle.std.proofs.Common.{◌≡◌, ◌+◌, drop}
use Rattle.link_script_syntax.specs.Named.{name_len}
use Rattle.link_script_syntax.proofs.named.name_len.Given as goal

abbrev pub invariant-loop-byte : goal.invariant-loop-byte
invariant-loop-byte l = (l.n + name_len (drop l.byte-index l.text) ≡ name_len l.text) × (l.n ≡ l.byte-index)
