use Rattle.std.proofs.Common.{◌≡◌, ◌++◌, drop}
use Rattle.std.specs.List.{flat_map}
use Rattle.link_input_groups.specs.Groups.{files_of}
use Rattle.link_db_files.specs.Asked.{file_asked, group_asked}
use Rattle.link_db_files.proofs.asked.push_group.Given as goal

-- those so far, and those of the files that are left
abbrev pub invariant-loop-place : goal.invariant-loop-place
invariant-loop-place g l =
    l.asked.items ++ flat_map (λ f. file_asked f.file) (drop l.place (files_of l.fn.group)) ≡ l.fn.asked.items ++ group_asked l.fn.group
