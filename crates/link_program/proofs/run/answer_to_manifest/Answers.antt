use Rattle.std.proofs.Common.{IfOk, subst, sym}
use Rattle.link_manifest.specs.declared.manifest.PlatformWorld.{PlatformWorld}
use Rattle.link_program.specs.Described.{given_in, objects_given, world_in}
use Rattle.link_program.specs.Outcome.{IsToldOf, IsWorldText, told_text}
use Rattle.link_program.proofs.run.answer_to_manifest.Goals as goal

pub returns-in-Elf : goal.returns-in-Elf
returns-in-Elf g c =
    subst (λ (m : PlatformWorld). IfOk c.answer_to_world.result (λ a. IsWorldText (world_in m) (IsToldOf (world_in m) (told_text c.args.told (objects_given (given_in m)))) a.status a.text.items))
    (sym c.in-Elf.is) c.answer_to_world.ensures

pub returns-in-Mach : goal.returns-in-Mach
returns-in-Mach g c =
    subst (λ (m : PlatformWorld). IfOk c.answer_to_world-in-Mach.result (λ a. IsWorldText (world_in m) (IsToldOf (world_in m) (told_text c.args.told (objects_given (given_in m)))) a.status a.text.items))
    (sym c.in-Mach.is) c.answer_to_world-in-Mach.ensures
