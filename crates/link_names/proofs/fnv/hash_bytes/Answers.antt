use Rattle.link_names.specs.NameHash.{fnv_1a, fnv_1a_on}
use Rattle.link_names.proofs.fnv.hash_bytes.Goals as goal

pub returns : goal.returns
unfolding fnv_1a fnv_1a_on
returns c = c.extend_hash.ensures
