use Rattle.std.proofs.Common.{◌≡◌, ◌++◌, drop, map}
use Rattle.link_input_groups.specs.Groups.{files_of}
use Rattle.link_db_files.specs.Outlines.{group_outlines, outline_of}
use Rattle.link_db_files.proofs.outlines.push_outlines.Given as goal

-- the outlines so far, and those of the files that are left
abbrev pub invariant-loop-place : goal.invariant-loop-place
invariant-loop-place g l =
    l.outlines.items ++ map (λ f. outline_of f.file) (drop l.place (files_of l.fn.group)) ≡ l.fn.outlines.items ++ group_outlines l.fn.group
