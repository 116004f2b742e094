use Rattle.link_input_groups.proofs.AddsLemmas.{sequenced-append}
use Rattle.link_input_groups.proofs.sequence_laws.ids_run_on.Goals as goal

pub returns : goal.returns
returns c = λ symbols sections xs ys. sequenced-append symbols sections xs ys
