use Rattle.std.proofs.Common.{refl}
use Rattle.link_check_roots.proofs.laws.a_first_stage_has_these_roots.Goals as goal

pub returns : goal.returns
returns c = λ world. record {
  objects = refl;
  scripts = refl;
  given = refl;
  prelude = refl;
  exports = refl;
  symbols = refl;
  gathered = refl;
  wrap = refl;
  first = refl;
}
