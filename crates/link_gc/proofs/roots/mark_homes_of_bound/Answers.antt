use Rattle.std.proofs.Common.{◌≡◌, ◌+◌, ◌∙◌, List, ap, arith, length}
use Rattle.link_core_answer.specs.Seen.{seen}
use Rattle.link_db_files.specs.GroupFiles.{symbols_in}
use Rattle.link_input.specs.Symbols.{Symbol}
use Rattle.link_gc.proofs.Exported.{IsExportOf, till-end, till-next}
use Rattle.link_gc.proofs.roots.mark_homes_of_bound.Goals as goal

-- one symbol more
pub loop-id-preserved : goal.loop-id-preserved
loop-id-preserved g c =
    let all = symbols_in (seen c.args.linked.now).db.mapping.files.groups in
    let steps = c.in-Some.ensures.steps in
    let left = c.loop-id.id-iterator in
    record {
      marks = λ s of placed.
          till-next (IsExportOf s) c.args.marks.now all c.loop-id.marks c.mark_home_of_export.new.marks left.next c.in-Some.id c.next.new.self.next c.in-Some.symbol left.left c.next.new.self.left
          c.loop-id.auto.marks steps.0 steps.1.0 steps.1.1 (c.mark_home_of_export.ensures s of placed) (c.loop-id.invariant.marks s of placed);
      count =
          let shorter : length left.left ≡ length c.next.new.self.left + 1 = ap (λ (xs : List Symbol). length xs) steps.1.0 ∙ omega arith in
          omega (arith, shorter, steps.1.1, c.loop-id.invariant.count);
    }

-- the marks are those of all symbols
pub returns : goal.returns
returns g c = λ s of placed.
    let all = symbols_in (seen c.args.linked.now).db.mapping.files.groups in
    let left = c.loop-id.id-iterator in
    till-end s c.args.marks.now c.loop-id.marks all left.next left.left c.in-None.ensures.steps.0 of.kept.symbols (c.loop-id.invariant.marks s of placed)
