use Rattle.link_report.proofs.Choosing.{text-same}
use Rattle.link_report.proofs.why.choices_go_by_the_names_of_files.Goals as goal

pub returns : goal.returns
returns g c = text-same
