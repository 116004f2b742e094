use Rattle.std.proofs.Common.{◌≡◌, map, not, take}
use Rattle.link_input.specs.ObjectFile.{is_optional}
use Rattle.link_check_roots.proofs.roots.required_marks.Given as goal

abbrev pub invariant-loop-object : goal.invariant-loop-object
invariant-loop-object g l = l.marks.items ≡ map (λ o. not (is_optional o)) (take l.object-index l.objects)
