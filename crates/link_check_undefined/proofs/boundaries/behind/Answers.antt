use Rattle.std.proofs.lemmas.Bool.Decides.{Decides-eqb}
use Rattle.std.proofs.lemmas.Slice.Eq.{strip_prefix_is}
use Rattle.link_check_undefined.proofs.Behind.{behind}
use Rattle.link_check_undefined.proofs.boundaries.behind.Goals as goal

pub returns : goal.returns
returns c = λ section.
    let name = c.args.name.now in
    let prefix = c.args.prefix.now in
    behind name prefix section c.strip_prefix.result (strip_prefix_is Decides-eqb name prefix c.strip_prefix.result c.strip_prefix.ensures.cases)
