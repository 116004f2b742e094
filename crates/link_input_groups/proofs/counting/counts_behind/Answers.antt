use Rattle.std.proofs.Common.{arith}
use Rattle.link_input_groups.proofs.GroupEnds.{counts-objects, counts-scripts, counts-stubs}
use Rattle.link_input_groups.proofs.counting.counts_behind.Goals as goal

pub returns-in-Objects : goal.returns-in-Objects
returns-in-Objects g c = grind (arith, counts-objects c.in-Objects.objects)

pub returns-in-LinkerScripts : goal.returns-in-LinkerScripts
returns-in-LinkerScripts g c = grind (arith, counts-scripts c.in-LinkerScripts.scripts)

pub returns-in-StubLibraries : goal.returns-in-StubLibraries
returns-in-StubLibraries g c = grind (arith, counts-stubs c.in-StubLibraries.stubs)
