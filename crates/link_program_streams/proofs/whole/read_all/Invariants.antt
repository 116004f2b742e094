use Rattle.std.proofs.Common.{◌≡◌, ◌+◌, ◌-◌, ◌≤◌, length}
use Rattle.link_program_streams.specs.Streams.{Gives, IsCalledAtMost}
use Rattle.link_program_streams.proofs.whole.read_all.Given as goal

abbrev pub invariant-loop-bytes : goal.invariant-loop-bytes
invariant-loop-bytes g l = record {
  within : length l.bytes.items ≤ l.limit;
  given : Gives (g.S.Source.left l.initial.source) (g.S.Source.left l.source) l.bytes.items;
  faults : g.S.Source.faults l.initial.source ≤ g.S.Source.faults l.source;
  refusals : g.S.Source.refusals l.source ≡ g.S.Source.refusals l.initial.source;
  calls : IsCalledAtMost (g.S.Source.calls l.initial.source) (g.S.Source.calls l.source) (length l.bytes.items);
}

abbrev pub decreases-loop-bytes : goal.decreases-loop-bytes
decreases-loop-bytes g l = l.limit + 1 - length l.bytes.items
