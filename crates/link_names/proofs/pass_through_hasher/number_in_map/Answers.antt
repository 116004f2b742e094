use Rattle.std.proofs.Common.{◌∙◌}
use Rattle.link_names.proofs.Passing.{number_after-bytes}
use Rattle.link_names.proofs.pass_through_hasher.number_in_map.Goals as goal

pub returns : goal.returns
returns g c = c.hash_one.ensures ∙ number_after-bytes 0 (g.T.NameHash.number c.args.value) (g.met.T.NameHash.bounded c.args.value)
