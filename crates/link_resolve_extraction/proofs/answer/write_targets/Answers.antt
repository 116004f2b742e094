use Rattle.std.proofs.Common.{◌≡◌, ◌∙◌, ◌++◌, None, ap, arith, drop, length, map, refl, subst, sym, take}
use Rattle.std.specs.List.{range_with_len}
use Rattle.std.proofs.lemmas.Grind.{common_steps}
use Rattle.link_db_symbols.specs.Lookups.{AreBelow, target_at}
use Rattle.link_resolve_extraction.specs.Answer.{AreTargetsRead, references_in, with_references}
use Rattle.link_resolve_extraction.proofs.AnswerWritten.{read, resized, targets-below, targets-read}
use Rattle.link_resolve_extraction.proofs.answer.write_targets.Goals as goal
use Rattle.link_resolve_extraction.proofs.answer.write_targets.Goals.{After-targets-1}

-- what earlier batches settled, with none for each symbol behind
grown : (c : After-targets-1) → c.resize.new.self.items ≡ map (target_at c.args.targets.now.items) (range_with_len 0 c.args.symbols)
grown c =
    let told = c.in_ok-resize.ensures in
    let old = c.args.targets.now in
    let new = c.resize.new.self in
    resized old.items new.items c.args.symbols (omega (arith, new.ok, told.len)) (λ k lt inside. told.by_index.0 k None lt (omega (arith, inside, old.ok)))
    (λ k past lt. told.by_index.1 k None refl (omega (arith, past, old.ok)) lt)

-- what is left in the vector is what was written
written : (c : After-targets-1) → take c.resize.new.self.len (c.write_all.new.targets ++ drop (length c.write_all.new.targets) c.resize.new.self.items)
    ≡ read c.args.symbols c.args.targets.now.items c.args.found.now
written c =
    let first = c.as_mut_slice.ensures.value ∙ grown c in
    let same = c.write_all.ensures ∙ ap (λ ts. with_references ts (references_in c.args.found.now)) first in
    let long = c.write_all.auto.targets in
    let ok = c.resize.new.self.ok in
    let len = c.as_mut_slice.ensures.len in
    grind (arith, common_steps)

pub returns-clause-read : goal.returns-clause-read
returns-clause-read c =
    subst (AreTargetsRead c.args.symbols c.args.targets.now.items c.args.found.now) (sym (written c)) (targets-read c.args.symbols c.args.targets.now.items c.args.found.now)

pub returns-clause-below : goal.returns-clause-below
returns-clause-below c = λ n below each.
    subst (AreBelow n) (sym (written c)) (targets-below c.args.symbols c.args.targets.now.items c.args.found.now n below each)
