use Rattle.std.proofs.Common.{◌≡◌, ◌++◌, ◌∙◌, List, Bool, ap, arith, drop, length, map, sym, take}
use Rattle.std.specs.Prelude.{fold}
use Rattle.std.proofs.lemmas.Grind.{common_steps}
use Rattle.link_closure.specs.Closure.{is_marked}
use Rattle.link_input.specs.declared.internal_symbols.InternalSymDefInfo.{InternalSymDefInfo}
use Rattle.link_input.specs.declared.world.ProcessedLinkerScript.{ProcessedLinkerScript}
use Rattle.link_input.specs.InputFiles.{batch_of}
use Rattle.link_input.specs.ObjectFile.{ObjectFile}
use Rattle.link_check_roots.specs.Given.{given_names}
use Rattle.link_check_roots.specs.Marks.{marked_by}
use Rattle.link_check_roots.proofs.AtStage.{is_taken, roots-are}
use Rattle.link_check_roots.proofs.roots.root_marks.Goals as goal

pub returns : goal.returns
returns g c = λ w is f.
    let b = batch_of c.args.inputs.now in
    let n = c.args.names.now in
    let options = c.args.options.now in
    let required = c.args.required.now in
    let marks = c.mark_given_names.new.marks in
    let first : List Bool = c.in_ok-marks.marks.items in
    let back : take c.in_ok-marks.marks.len (marks ++ drop (length marks) first) ≡ marks = grind (arith, common_steps) in
    roots-are c.args.prelude.now b options required n w is f
    ∙ sym (ap (λ (l : List Bool). is_marked l f)
    (back
    ∙ (c.mark_given_names.ensures
    ∙ (ap (λ (m : List Bool). fold (marked_by n) m (given_names options c.symbols.result.now c.as_slice-2.result.now required))
    (c.deref_mut.ensures.value ∙ (c.in_ok-marks.ensures ∙ ap (λ (os : List ObjectFile). map is_taken os) c.as_slice.ensures))
    ∙ (ap (λ (ds : List InternalSymDefInfo). fold (marked_by n) (map is_taken b.objects) (given_names options ds c.as_slice-2.result.now required)) c.symbols.ensures
    ∙ ap (λ (ss : List ProcessedLinkerScript). fold (marked_by n) (map is_taken b.objects) (given_names options c.args.prelude.now ss required)) c.as_slice-2.ensures)))))
