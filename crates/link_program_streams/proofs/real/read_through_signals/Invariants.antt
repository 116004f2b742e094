use Rattle.std.specs.Io.KnownBytes.{Keeps}
use Rattle.link_program_streams.proofs.real.read_through_signals.Given as goal

abbrev pub invariant-loop : goal.invariant-loop
invariant-loop g l = Keeps (g.T.Read.remaining l.initial.reader) (g.T.Read.remaining l.reader)
