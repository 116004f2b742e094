-- The objects of a group.
use Rattle.std.proofs.Common.{◌≡◌, List, [], ◌∷◌, map, refl, ap}
use Rattle.link_input.specs.ObjectFile.{ObjectFile}
use Rattle.link_input_groups.specs.declared.group.Group.TheVariants as group
use Rattle.link_input_groups.specs.declared.sequenced.SequencedInputObject.{SequencedInputObject}
use Rattle.link_db_files.specs.Inputs.{objects_in}

-- the objects of a group of them
pub objects-there : {P : Type 0} (objects : List (SequencedInputObject P)) → map (λ o. o.parsed) objects ≡ objects_in {P = P} (group.Objects objects ∷ [])
objects-there [] = refl
objects-there (o ∷ os) = ap (λ (l : List ObjectFile). o.parsed ∷ l) (objects-there os)
