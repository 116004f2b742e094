use Rattle.std.proofs.Common.{◌≡◌, ◌+◌, length, map}
use Rattle.link_core_answer.specs.Seen.{seen}
use Rattle.link_db_files.specs.GroupFiles.{symbols_in}
use Rattle.link_gc.specs.Numbering.{IsOf, placed_number}
use Rattle.link_rules.specs.Selection.{Selection}
use Rattle.link_gc.proofs.Exported.{AreMarkedTill, IsExportOf}
use Rattle.link_gc.proofs.roots.mark_homes_of_bound.Given as goal

-- the marks at the start with those of all symbols are those so far with those of the symbols that are left
abbrev pub invariant-loop-id : goal.invariant-loop-id
invariant-loop-id g l =
    let all = symbols_in (seen l.linked).db.mapping.files.groups in
    record {
      marks : (s : Selection) → IsOf s (seen l.linked) → l.placed ≡ map (λ x. placed_number s x.origin) s.stage.symbols
          → AreMarkedTill (IsExportOf s) l.initial.marks all l.marks l.id-iterator.next l.id-iterator.left;
      count : l.id-iterator.next + length l.id-iterator.left ≡ length all;
    }
