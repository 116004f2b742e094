use Rattle.std.proofs.Common.{◌≡◌, ◌∙◌, Some, arith, refl, slice_get, length}
use Rattle.std.proofs.lemmas.Option.{slice_get_read}
use Rattle.link_input.specs.declared.world.ProcessedLinkerScript.{ProcessedLinkerScript}
use Rattle.link_check_roots.proofs.Entries.{last-next}
use Rattle.link_check_roots.proofs.entry.last_entry.Goals as goal

pub loop-script-preserved : goal.loop-script-preserved
loop-script-preserved c =
    let scripts = c.args.scripts.now in
    let i = c.loop-script.script-index in
    let s = c.script-item.result in
    let at : slice_get scripts i ≡ Some s = slice_get_read scripts (length scripts) i s refl (omega arith) c.script-item.is in
    c.later_entry-last.ensures ∙ last-next (λ (t : ProcessedLinkerScript). t.entry) scripts i s _ at c.loop-script.invariant
