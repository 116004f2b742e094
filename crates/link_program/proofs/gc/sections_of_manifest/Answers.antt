use Rattle.std.proofs.Common.{IfOk, subst, sym}
use Rattle.link_manifest.specs.declared.manifest.PlatformWorld.{PlatformWorld}
use Rattle.link_program.specs.Described.{world_in}
use Rattle.link_program.specs.Outcome.{IsWorldText}
use Rattle.link_program.specs.Gc.{IsGcReport}
use Rattle.link_program.proofs.gc.sections_of_manifest.Goals as goal

pub returns-in-Elf : goal.returns-in-Elf
returns-in-Elf g c =
    subst (λ (m : PlatformWorld). IfOk c.sections_of_world.result (λ a. IsWorldText (world_in m) (IsGcReport (world_in m)) a.status a.text.items)) (sym c.in-Elf.is) c.sections_of_world.ensures

pub returns-in-Mach : goal.returns-in-Mach
returns-in-Mach g c =
    subst (λ (m : PlatformWorld). IfOk c.sections_of_world-in-Mach.result (λ a. IsWorldText (world_in m) (IsGcReport (world_in m)) a.status a.text.items)) (sym c.in-Mach.is) c.sections_of_world-in-Mach.ensures
