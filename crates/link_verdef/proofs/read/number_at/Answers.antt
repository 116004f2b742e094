use Rattle.std.proofs.Common.{◌≡◌, ◌∙◌, Err, Ok, Some, ap, arith}
use Rattle.std.proofs.lemmas.Result.{Ok-from_Ok_iff}
use Rattle.std.specs.Result.{result_ok}
use Rattle.link_verdef.proofs.Search.{found_number}
use Rattle.link_verdef.proofs.read.number_at.Goals as goal

pub returns-in-Ok : goal.returns-in-Ok
returns-in-Ok c k up within fits is =
    let found = found_number c.args.places.now c.args.place k (Ok c.in-Ok.number) c.in-Ok.ensures.position up within is in
    let same : c.in-Ok.number ≡ k = cc found in
    c.ok.ensures.value ∙ ap result_ok (Ok-from_Ok_iff _ _ _ c.try_from.ensures (omega arith)) ∙ ap (λ n. Some n) same

pub returns-in-Err : goal.returns-in-Err
returns-in-Err c k up within fits is =
    cc (found_number c.args.places.now c.args.place k (Err c.in-Err.field-0) c.in-Err.ensures.position up within is)
