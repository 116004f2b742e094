use Rattle.std.proofs.Common.{List, append-nil, subst}
use Rattle.link_manifest_bulk.specs.Bulk.{bulk_objects}
use Rattle.link_manifest_bulk.specs.World.{bulk_world}
use Rattle.link_input.specs.ObjectFile.{ObjectFile}
use Rattle.link_manifest.specs.declared.manifest.Manifest.{Manifest as Described}
use Rattle.link_program.specs.declared.run.Told.TheVariants.{Summary}
use Rattle.link_program.specs.Described.{given_of, objects_given, world_of_manifest}
use Rattle.link_program.specs.Outcome.{IsToldOf, IsWorldText, told_text}
use Rattle.link_program.proofs.OfWorld.{ok-into, summary-of}
use Rattle.link_program.proofs.run.answer_to_bulk.Goals as goal

-- a made-up link ends with its summary
pub returns : goal.returns
returns g c =
    let members = c.args.members in
    ok-into c.answer_to_manifest.result _ _ (λ a held. summary-of members a.status a.text.items c.requires.in_range.0.0 c.requires.in_range.0.1
    (subst (λ (os : List ObjectFile). IsWorldText (bulk_world members) (IsToldOf (bulk_world members) (told_text (Summary members) os)) a.status a.text.items) (append-nil (bulk_objects members))
    (subst (λ (m : Described). IsWorldText (world_of_manifest m) (IsToldOf (world_of_manifest m) (told_text (Summary members) (objects_given (given_of m)))) a.status a.text.items) c.in_ok-manifest.ensures held)))
    c.answer_to_manifest.ensures
