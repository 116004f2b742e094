use Rattle.std.proofs.Common.{◌≡◌, ℕ, List, Some, None, take}
use Rattle.link_rules.specs.Names.{definitions_of, versioned_definitions_of}
use Rattle.link_check_names.specs.Lists.{list_in}
use Rattle.link_check_names.proofs.definitions.definition_lists.Given as goal

abbrev pub invariant-loop-place : goal.invariant-loop-place
invariant-loop-place l = record {
  plain : (name : List ℕ) → list_in l.lists name None ≡ definitions_of (take l.place l.symbols) name;
  versioned : (name version : List ℕ) → list_in l.lists name (Some version) ≡ versioned_definitions_of (take l.place l.symbols) name version;
}
