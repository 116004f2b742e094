use Rattle.std.proofs.Common.{◌≡◌, refl, ap, subst}
use Rattle.link_manifest.specs.declared.fault.ManifestFault.{ManifestFault}
use Rattle.link_manifest.specs.declared.fault.Problem.TheVariants.{TooLong}
use Rattle.link_manifest.specs.Reading.{fault_here}
use Rattle.link_rules.specs.Places.{Bytes}
use Rattle.link_program.specs.Outcome.{text_read}
use Rattle.link_program.proofs.OfWorld.{read-text, never-read_fault, all-given, ok-into}
use Rattle.link_program.proofs.TooLong.{told-too_long, ok-along}
use Rattle.link_program.proofs.run.answer_to_source.Goals as goal

pub returns-in-Err-TooLong-clause-text : goal.returns-in-Err-TooLong-clause-text
returns-in-Err-TooLong-clause-text g c =
    let fault : ManifestFault = record { path = c.new.result; problem = TooLong } in
    let is : fault ≡ fault_here TooLong = ap (λ path. record { path = path; problem = TooLong }) c.new.ensures in
    let over = rw c.in-Err-TooLong.field-0-is at c.in-Err-TooLong.ensures.too_long in
    ok-along c.fault_answer.result _ _ _ (λ a status line. told-too_long c.args.reading (g.S.Source.left c.args.source.now) fault a.status a.text.items (over refl) is status line)
    c.fault_answer.ensures.status c.fault_answer.ensures.text

pub returns-in-Ok-clause-text : goal.returns-in-Ok-clause-text
returns-in-Ok-clause-text g c =
    ok-into c.answer_to_bytes.result _ _ (λ a held.
    read-text c.args.reading (g.S.Source.left c.args.source.now) c.in-Ok.bytes.items a.status a.text.items
    (all-given (g.S.Source.left c.args.source.now) (g.S.Source.left c.read_all.new.source) c.in-Ok.bytes.items c.in-Ok.ensures.whole c.in-Ok.ensures.at_end)
    (subst (λ (bytes : Bytes). text_read c.args.reading bytes a.status a.text.items) c.deref.ensures.value held)) c.answer_to_bytes.ensures

pub returns-in-Ok-clause-read_fault : goal.returns-in-Ok-clause-read_fault
returns-in-Ok-clause-read_fault g c =
    ok-into c.answer_to_bytes.result _ _ (λ a held. λ is. absurd (never-read_fault c.args.reading c.deref.result.now a.status a.text.items held is)) c.answer_to_bytes.ensures
