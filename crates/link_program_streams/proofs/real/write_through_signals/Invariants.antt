use Rattle.std.specs.Io.KnownBytes.{Keeps}
use Rattle.link_program_streams.proofs.real.write_through_signals.Given as goal

abbrev pub invariant-loop : goal.invariant-loop
invariant-loop g l = Keeps (g.T.Write.contents l.initial.writer) (g.T.Write.contents l.writer)
