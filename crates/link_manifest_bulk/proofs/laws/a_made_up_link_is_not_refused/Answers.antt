use Rattle.link_manifest_bulk.proofs.Linking.{not-refused}
use Rattle.link_manifest_bulk.proofs.laws.a_made_up_link_is_not_refused.Goals as goal

pub returns : goal.returns
returns c = not-refused
