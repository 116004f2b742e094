use Rattle.std.proofs.Common.{◌≡◌, drop, List}
use Rattle.std.specs.List.{flat_map}
use Rattle.link_input.specs.InputFiles.{InputFile}
use Rattle.link_input.specs.SequencedFiles.{sequenced}
use Rattle.link_input_groups.specs.Asked.{AllCanBeAsked}
use Rattle.link_input_groups.specs.FileCounts.{counts_in, plus}
use Rattle.link_input_groups.specs.Groups.{files_of}
use Rattle.link_input_groups.proofs.counting.counts_of_groups.Given as goal

abbrev pub invariant-loop-group : goal.invariant-loop-group
invariant-loop-group g l = record {
  asked : AllCanBeAsked (drop l.group-index l.groups);
  follow : (files : List InputFile) × (flat_map files_of (drop l.group-index l.groups) ≡ sequenced l.counts.symbols l.counts.sections files);
  counted : plus l.counts (counts_in (flat_map files_of (drop l.group-index l.groups))) ≡ counts_in (flat_map files_of l.groups);
}
