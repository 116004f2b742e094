use Rattle.std.proofs.Common.{arith}
use Rattle.link_input.specs.InputFiles.{input_files}
use Rattle.link_input_groups.proofs.Numbering.{file-at, len-at, length-sequenced, start-at}
use Rattle.link_input_groups.proofs.sequence_laws.symbols_are_numbered.Goals as goal

pub returns-clause-files : goal.returns-clause-files
returns-clause-files c = λ options batches. length-sequenced 0 0 (input_files options batches)

pub returns-clause-file : goal.returns-clause-file
returns-clause-file c = λ options batches k f is. file-at 0 0 (input_files options batches) k f is

pub returns-clause-start : goal.returns-clause-start
returns-clause-start c = λ options batches k f is. omega (arith, start-at 0 0 0 (input_files options batches) k f is)

pub returns-clause-len : goal.returns-clause-len
returns-clause-len c = λ options batches k f is n. len-at 0 0 (input_files options batches) k f is n
