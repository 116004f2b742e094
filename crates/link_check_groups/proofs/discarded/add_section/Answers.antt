use Rattle.link_check_groups.proofs.Discarding.{section-added}
use Rattle.link_check_groups.proofs.discarded.add_section.Goals as goal

pub returns : goal.returns
returns c = section-added c.args.sections.now c.insert.new.self c.args.object c.args.section c.in_ok-insert.ensures.updates
