use Rattle.std.proofs.Common.{length, arith}
use Rattle.link_script.proofs.VersionIndex.{named_within}
use Rattle.link_script.proofs.symbol_version.version_for_symbol.Goals as goal

pub overflow_add-result : goal.overflow_add-result
overflow_add-result g c =
    let below = named_within c.args.versions.now c.in-Some.version.now (length c.args.versions.now) c.in-Some-last_named.number (c.in-Some-last_named.ensures c.args.versions.now c.requires.indexed) in
    omega arith
