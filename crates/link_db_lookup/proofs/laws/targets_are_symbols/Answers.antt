use Rattle.link_db_lookup.proofs.Within.{target-inside}
use Rattle.link_db_lookup.proofs.laws.targets_are_symbols.Goals as goal

pub returns : goal.returns
returns g c = target-inside c.args.mapping.now g.P.Platform.WEAK_SYMBOLS_OVERRIDE_COMMON
