use Rattle.std.proofs.Common.{codes}
use Rattle.link_manifest_json.specs.Tree.{items_view}
use Rattle.link_manifest.specs.Objects.{object_read}
use Rattle.link_manifest.proofs.Gathering.{all_read-zip, of_some}
use Rattle.link_manifest.proofs.cut.cut_objects.Goals as goal

pub returns-in-Some : goal.returns-in-Some
returns-in-Some g c = λ text around.
    let has_null = g.P.Platform.HAS_NULL_SYMBOL_ENTRY in
    let made = of_some c.in_ok-answers.field-0 c.in-Some.answers _ c.in-Some.is c.in_ok-answers.ensures in
    let root = made text (codes "objects") around in
    let values = items_view root.0 in (
      values,
      root.1,
      root.3,
      root.4,
      c.gathered.ensures (object_read has_null) values (all_read-zip _ _ (object_read has_null) (λ shown r h. h) root.0 c.in-Some.answers.items root.2),
    )
