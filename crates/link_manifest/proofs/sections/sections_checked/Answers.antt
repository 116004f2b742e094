use Rattle.std.proofs.Common.{codes}
use Rattle.link_manifest.specs.declared.fault.Step.TheVariants.{Key}
use Rattle.link_manifest.specs.Checked.{names_checked}
use Rattle.link_manifest.proofs.Distinct.{distinct-ok}
use Rattle.link_manifest.proofs.sections.sections_checked.Goals as goal

pub returns-clause-distinct : goal.returns-clause-distinct
returns-clause-distinct c =
    distinct-ok (Key (codes "custom_sections")) c.args.names.now c.at_key.result (c.at_key.ensures (names_checked c.args.names.now) c.names_checked.ensures)
