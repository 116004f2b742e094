use Rattle.std.proofs.Common.{◌≡◌, ◌≤◌, ◌-◌, length, take}
use Rattle.link_program_streams.specs.Streams.{Takes}
use Rattle.link_program_streams.proofs.whole.write_all.Given as goal

abbrev pub invariant-loop-written : goal.invariant-loop-written
invariant-loop-written g l = record {
  within : l.written ≤ length l.bytes;
  taken : Takes (g.K.Sink.taken l.initial.sink) (g.K.Sink.taken l.sink) (take l.written l.bytes);
  faults : g.K.Sink.faults l.initial.sink ≤ g.K.Sink.faults l.sink;
  refusals : g.K.Sink.refusals l.sink ≡ g.K.Sink.refusals l.initial.sink;
}

abbrev pub decreases-loop-written : goal.decreases-loop-written
decreases-loop-written g l = length l.bytes - l.written
