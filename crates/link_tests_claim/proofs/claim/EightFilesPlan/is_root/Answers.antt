use Rattle.std.proofs.Common.{refl}
use Rattle.link_claim.specs.Examples.{is_root_of_eight}
use Rattle.link_tests_claim.proofs.claim.EightFilesPlan.is_root.Goals as goal

pub returns : goal.returns
returns c = ((λ so. is_root_of_eight c.args._file c.requires), λ root. refl)
