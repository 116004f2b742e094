use Rattle.std.proofs.Common.{◌≡◌, ◌+◌, ◌≤◌, length, take}
use Rattle.std.specs.List.{suffix_len}
use Rattle.link_script_syntax.specs.Skip.{is_blank}
use Rattle.link_script_syntax.proofs.block.without_blanks.Given as goal

abbrev pub invariant-ends : goal.invariant-ends
invariant-ends l = (l.n + suffix_len is_blank l.bytes ≡ length l.bytes + suffix_len is_blank (take l.n l.bytes)) × (l.n ≤ length l.bytes)

abbrev pub decreases-ends : goal.decreases-ends
decreases-ends l = l.n
