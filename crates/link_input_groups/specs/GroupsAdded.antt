-- Groups that are added behind others.
use Rattle.std.specs.Prelude.{◌≡◌, ◌+◌, List, [], ◌∷◌, ◌++◌, map, ◌==◌, length, if◌then◌else◌}
use Rattle.std.specs.List.{flat_map}
use Rattle.link_input_groups.specs.declared.group.Group.{Group}
use Rattle.link_input_groups.specs.declared.sequencing.NextIds.{NextIds}
use Rattle.link_input.specs.InputFiles.{InputFile, symbol_count, section_count}
use Rattle.link_input.specs.SequencedFiles.{sequenced}
use Rattle.link_input_groups.specs.Groups.{files_of}
use Rattle.link_input.specs.Limits.{total}
use Rattle.link_input_groups.specs.FileIds.{HavePlaces}

-- the files of a group, without any ids
abbrev pub group_files : {P : Type 0} → Group P → List InputFile
group_files g = map (λ f. f.file) (files_of g)

-- all of these as one group, if there are any
abbrev pub one_group : {A : Type 0} → List A → List (List A)
one_group xs = if length xs == 0 then [] else xs ∷ []

-- groups of these files were added, and the files have the next ids
pub record Adds {P : Type 0} (before after : List (Group P)) (old new : NextIds) (added : List (List InputFile)) : Type 0 where
  pub groups : map group_files after ≡ map group_files before ++ added
  pub files : flat_map files_of after ≡ flat_map files_of before ++ sequenced old.symbols old.sections (flat_map (λ fs. fs) added)
  pub places : HavePlaces before → HavePlaces after
  pub symbols : new.symbols ≡ old.symbols + total symbol_count (flat_map (λ fs. fs) added)
  pub sections : new.sections ≡ old.sections + total section_count (flat_map (λ fs. fs) added)
