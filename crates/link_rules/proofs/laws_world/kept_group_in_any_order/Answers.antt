use Rattle.link_rules.proofs.KeptPlace.{kept_place-permutation}
use Rattle.link_rules.proofs.laws_world.kept_group_in_any_order.Goals as goal

pub returns : goal.returns
returns c = kept_place-permutation
