use Rattle.std.proofs.Common.{refl}
use Rattle.link_check_undefined.proofs.Told.{target-tells}
use Rattle.link_check_undefined.proofs.laws.these_columns_tell_of_a_selection.Goals as goal

pub returns-clause-all : goal.returns-clause-all
returns-clause-all c = λ w marks. record {
  symbols_are = refl;
  marks_are = refl;
  targets_are = λ s u at loaded. target-tells w marks s u at loaded;
  sections_are = refl;
  table_is = refl;
}
