-- How a fault of a manifest is written.
use Rattle.std.specs.Prelude.{ℕ, List, [], ◌∷◌, ◌++◌, codes, decimal}
use Rattle.std.specs.List.{flat_map}
use Rattle.link_names.specs.NameText.{name_text}
use Rattle.link_input.specs.TableErrorText.{table_error_text}
use Rattle.link_manifest.specs.declared.fault.Step.{Step}
use Rattle.link_manifest.specs.declared.fault.Step.TheVariants.{Key, Item}
use Rattle.link_manifest.specs.declared.fault.Kind.{Kind}
use Rattle.link_manifest.specs.declared.fault.Kind.TheVariants.{Object, List as a_list, Text, Bytes, Bool, Number, Word, Place}
use Rattle.link_manifest.specs.declared.fault.Problem.{Problem}
use Rattle.link_manifest.specs.declared.fault.Problem.TheVariants.{TooLong, NotJson, UnknownKey, Missing, Expected, Repeated, TooMany, NotWithClaim, Table}
use Rattle.link_manifest.specs.declared.fault.ManifestFault.{ManifestFault}

-- what a value has to be
abbrev pub kind_text : Kind → List ℕ
kind_text Object = codes "object"
kind_text a_list = codes "list"
kind_text Text = codes "text"
kind_text Bytes = codes "bytes"
kind_text Bool = codes "bool"
kind_text Number = codes "number"
kind_text Word = codes "word"
kind_text Place = codes "place"

-- what is wrong
abbrev pub problem_text : Problem → List ℕ
problem_text TooLong = codes "too long"
problem_text NotJson = codes "not JSON"
problem_text UnknownKey = codes "unknown key"
problem_text Missing = codes "missing"
problem_text (Expected kind) = codes "expected " ++ kind_text kind
problem_text Repeated = codes "repeated"
problem_text TooMany = codes "too many"
problem_text NotWithClaim = codes "not with a claim"
problem_text (Table error) = table_error_text error

-- the first step of a path
abbrev pub first_step_text : Step → List ℕ
first_step_text (Key key) = name_text key
first_step_text (Item place) = codes "[" ++ decimal place ++ codes "]"

-- a step behind others
abbrev pub step_text : Step → List ℕ
step_text (Key key) = codes "." ++ name_text key
step_text (Item place) = codes "[" ++ decimal place ++ codes "]"

-- a path and a colon; the root has none
abbrev pub path_text : List Step → List ℕ
path_text [] = []
path_text (step ∷ steps) = first_step_text step ++ flat_map step_text steps ++ codes ": "

-- where something is wrong, and what
abbrev pub fault_text : ManifestFault → List ℕ
fault_text fault = path_text fault.path ++ problem_text fault.problem
