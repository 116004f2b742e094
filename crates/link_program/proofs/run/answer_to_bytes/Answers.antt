use Rattle.std.proofs.Common.{◌≡◌, Err, sym, ap, subst, ◌∙◌}
use Rattle.link_manifest.specs.Manifest.{manifest_of}
use Rattle.link_rules.specs.Answer.{IsReport}
use Rattle.link_program.specs.declared.status.Status.{Status}
use Rattle.link_program.specs.Gc.{IsGcReport}
use Rattle.link_program.specs.Outcome.{text_read}
use Rattle.link_program.specs.Verdef.{manifest_ending}
use Rattle.link_program.specs.Why.{IsWhyReport}
use Rattle.link_program.proofs.OfWorld.{text-of_link, ok-into}
use Rattle.link_program.proofs.TooLong.{fault-read, ok-along}
use Rattle.link_program.proofs.run.answer_to_bytes.Goals as goal

pub returns-in-Link : goal.returns-in-Link
returns-in-Link g c = rw c.in-Link.is
    (ok-into c.answer_to_manifest.result _ _ (λ a held. text-of_link IsReport c.args.bytes.now c.in-Ok.manifest a.status a.text.items c.in-Ok.ensures.manifest held) c.answer_to_manifest.ensures)

pub returns-in-Why : goal.returns-in-Why
returns-in-Why g c = rw c.in-Why.is
    (ok-into c.why_of_manifest.result _ _ (λ a held. text-of_link IsWhyReport c.args.bytes.now c.in-Ok.manifest a.status a.text.items c.in-Ok.ensures.manifest held) c.why_of_manifest.ensures)

pub returns-in-Gc : goal.returns-in-Gc
returns-in-Gc g c = rw c.in-Gc.is
    (ok-into c.sections_of_manifest.result _ _ (λ a held. text-of_link IsGcReport c.args.bytes.now c.in-Ok.manifest a.status a.text.items c.in-Ok.ensures.manifest held) c.sections_of_manifest.ensures)

pub returns-in-Verdef : goal.returns-in-Verdef
returns-in-Verdef g c = rw c.in-Verdef.is
    (ok-into c.verdef_of_manifest.result _ _ (λ a held. ap manifest_ending c.in-Ok.ensures.manifest ∙ held) c.verdef_of_manifest.ensures)

pub returns-in-Check : goal.returns-in-Check
returns-in-Check g c = rw (c.in-Check.is, c.in-Ok.ensures.manifest) c.check_of_manifest.ensures

-- bytes that are no manifest
pub returns-in-Err-At : goal.returns-in-Err-At
returns-in-Err-At g c =
    let bytes = c.args.bytes.now in
    let fault = c.in-Err-At.fault in
    let fails : manifest_of bytes ≡ Err fault = c.manifest_of.ensures.fault fault (c.in-Err-At.is ∙ ap (λ e. Err e) c.in-Err-At.field-0-is) in
    ok-along c.fault_answer.result _ _ _ (λ a ends line. subst (λ (s : Status). text_read c.args.reading bytes s a.text.items) (sym ends) (fault-read c.args.reading bytes fault a.text.items fails line))
    c.fault_answer.ensures.status (rw c.in-Err-At.field-0-is at c.fault_answer.ensures.text)
