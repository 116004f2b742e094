-- Where a file stands among the groups.
use Rattle.std.specs.Prelude.{ℕ, ◌++◌, List, codes, decimal}
use Rattle.std.specs.declared.cmp.Ordering.{Ordering}
use Rattle.std.specs.Ordering.{nat_cmp, ordering_then}

-- a group, and a file in it
pub record FilePlace : Type 0 where
  pub group : ℕ
  pub file : ℕ

-- by group, and in a group by file
abbrev pub file_order : FilePlace → FilePlace → Ordering
file_order a b = ordering_then (nat_cmp a.group b.group) (nat_cmp a.file b.file)

-- `G/F`
abbrev pub file_text : FilePlace → List ℕ
file_text p = decimal p.group ++ codes "/" ++ decimal p.file
