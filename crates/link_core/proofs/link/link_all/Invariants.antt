use Rattle.std.proofs.Common.{◌≡◌, ◌++◌, map}
use Rattle.link_input.specs.InputFiles.{batch_of}
use Rattle.link_db_texts.specs.Holds.{platform_of}
use Rattle.link_db.specs.Seen.{seen}
use Rattle.link_core.specs.Standing.{Stands, came_to}
use Rattle.link_core.proofs.link.link_all.Given as goal

-- the link stands, and the batches that are left come behind those that came
abbrev pub invariant-loop-inputs : goal.invariant-loop-inputs
invariant-loop-inputs g l =
    Stands (platform_of g.P.Platform) (g.D.Demangler.demangled l.demangler) l.standing
    × ((seen l.standing.link.db).options ≡ l.fn.options)
    × (l.standing.texts ≡ l.fn.scripts)
    × (came_to l.standing ++ map batch_of l.inputs-iterator.rest.items ≡ map batch_of l.fn.batches.items)
