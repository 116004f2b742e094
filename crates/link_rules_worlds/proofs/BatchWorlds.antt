-- Generated worlds of several batches, and what an independent program answers to each.
-- Written by `tools/worlds.py` from `tools/batch_worlds.jsonl`.
use Rattle.link_rules_worlds.specs.Computing.{AreAnswered}
use Rattle.link_rules_worlds.proofs.Computed.{also}
use Rattle.link_rules_worlds.proofs.BatchWorlds1.{batches_7000-is, batches_7001-is, batches_7002-is, batches_7003-is, batches_7004-is, batches_7005-is}
use Rattle.link_rules_worlds.proofs.BatchWorlds2.{batches_7007-is, batches_7009-is, batches_7010-is, batches_7011-is, batches_7014-is, batches_7015-is, batches_7018-is, batches_7019-is, batches_7020-is, batches_7021-is}
use Rattle.link_rules_worlds.proofs.BatchWorlds3.{batches_7022-is, batches_7023-is, batches_7024-is, batches_7026-is, batches_7027-is, batches_7028-is, batches_7031-is, batches_7034-is, batches_7035-is, batches_7036-is}
use Rattle.link_rules_worlds.proofs.BatchWorlds4.{batches_7037-is, batches_7038-is, batches_7040-is, batches_7041-is, batches_7042-is, batches_7043-is, batches_7044-is, batches_7045-is, batches_7046-is, batches_7048-is}
use Rattle.link_rules_worlds.proofs.BatchWorlds5.{batches_7049-is, batches_7050-is, batches_7051-is, batches_7052-is}
use Rattle.link_rules_worlds.specs.BatchWorlds as its

pub all_cases-are : AreAnswered its.all_cases
unfolding its.all_cases
all_cases-are =
    let are : Unit {0} = tt in
    let are = also batches_7052-is are in
    let are = also batches_7051-is are in
    let are = also batches_7050-is are in
    let are = also batches_7049-is are in
    let are = also batches_7048-is are in
    let are = also batches_7046-is are in
    let are = also batches_7045-is are in
    let are = also batches_7044-is are in
    let are = also batches_7043-is are in
    let are = also batches_7042-is are in
    let are = also batches_7041-is are in
    let are = also batches_7040-is are in
    let are = also batches_7038-is are in
    let are = also batches_7037-is are in
    let are = also batches_7036-is are in
    let are = also batches_7035-is are in
    let are = also batches_7034-is are in
    let are = also batches_7031-is are in
    let are = also batches_7028-is are in
    let are = also batches_7027-is are in
    let are = also batches_7026-is are in
    let are = also batches_7024-is are in
    let are = also batches_7023-is are in
    let are = also batches_7022-is are in
    let are = also batches_7021-is are in
    let are = also batches_7020-is are in
    let are = also batches_7019-is are in
    let are = also batches_7018-is are in
    let are = also batches_7015-is are in
    let are = also batches_7014-is are in
    let are = also batches_7011-is are in
    let are = also batches_7010-is are in
    let are = also batches_7009-is are in
    let are = also batches_7007-is are in
    let are = also batches_7005-is are in
    let are = also batches_7004-is are in
    let are = also batches_7003-is are in
    let are = also batches_7002-is are in
    let are = also batches_7001-is are in
    let are = also batches_7000-is are in
    are
