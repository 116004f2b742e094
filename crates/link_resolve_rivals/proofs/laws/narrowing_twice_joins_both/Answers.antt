use Rattle.link_resolve_rivals.proofs.NarrowPass.{narrowed-twice}
use Rattle.link_resolve_rivals.proofs.laws.narrowing_twice_joins_both.Goals as goal

pub returns : goal.returns
returns c = narrowed-twice
