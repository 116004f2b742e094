-- Generated worlds of several batches, and what an independent program answers to each.
-- Written by `tools/worlds.py` from `tools/batch_worlds.jsonl`.
use Rattle.std.specs.Prelude.{List, [], ◌∷◌}
use Rattle.link_rules_worlds.specs.Computing.{Case}
use Rattle.link_rules_worlds.specs.BatchWorlds1.{batches_7000, batches_7001, batches_7002, batches_7003, batches_7004, batches_7005}
use Rattle.link_rules_worlds.specs.BatchWorlds2.{batches_7007, batches_7009, batches_7010, batches_7011, batches_7014, batches_7015, batches_7018, batches_7019, batches_7020, batches_7021}
use Rattle.link_rules_worlds.specs.BatchWorlds3.{batches_7022, batches_7023, batches_7024, batches_7026, batches_7027, batches_7028, batches_7031, batches_7034, batches_7035, batches_7036}
use Rattle.link_rules_worlds.specs.BatchWorlds4.{batches_7037, batches_7038, batches_7040, batches_7041, batches_7042, batches_7043, batches_7044, batches_7045, batches_7046, batches_7048}
use Rattle.link_rules_worlds.specs.BatchWorlds5.{batches_7049, batches_7050, batches_7051, batches_7052}

unfoldable pub all_cases : List Case
all_cases =
    batches_7000 ∷ batches_7001 ∷ batches_7002 ∷ batches_7003 ∷ batches_7004 ∷ batches_7005 ∷ batches_7007 ∷
    batches_7009 ∷ batches_7010 ∷ batches_7011 ∷ batches_7014 ∷ batches_7015 ∷ batches_7018 ∷ batches_7019 ∷
    batches_7020 ∷ batches_7021 ∷ batches_7022 ∷ batches_7023 ∷ batches_7024 ∷ batches_7026 ∷ batches_7027 ∷
    batches_7028 ∷ batches_7031 ∷ batches_7034 ∷ batches_7035 ∷ batches_7036 ∷ batches_7037 ∷ batches_7038 ∷
    batches_7040 ∷ batches_7041 ∷ batches_7042 ∷ batches_7043 ∷ batches_7044 ∷ batches_7045 ∷ batches_7046 ∷
    batches_7048 ∷ batches_7049 ∷ batches_7050 ∷ batches_7051 ∷ batches_7052 ∷ []
