use Rattle.std.proofs.Common.{refl}
use Rattle.link_check_targets.proofs.laws.a_first_stage_has_these_columns.Goals as goal

pub returns : goal.returns
returns c = λ world. record { symbols = refl; wrap = refl; weak = refl; first = refl }
