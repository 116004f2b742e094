use Rattle.std.proofs.Common.{◌<◌, arith, length}
use Rattle.std.proofs.lemmas.Bool.Decides.{nat_tests}
use Rattle.link_resolve_rivals.proofs.Heads.{later-inside}
use Rattle.link_resolve_rivals.proofs.choosing.head_choice.Goals as goal

pub later_choice-requires-clause-later : goal.later_choice-requires-clause-later
later_choice-requires-clause-later g c =
    let some : 0 < length c.later-later.result.now = grind (arith, nat_tests) in
    later-inside (g.L.RivalLists.listed c.args.lists.now) (length c.args.table.now) c.args.head c.later-later.result.now c.requires.lists c.later-later.ensures some
