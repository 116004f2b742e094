use Rattle.link_rules.proofs.Files.{stage-files}
use Rattle.link_rules.proofs.laws_work.stages_have_the_symbols_of_their_files.Goals as goal

pub returns : goal.returns
returns c = stage-files
