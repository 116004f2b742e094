use Rattle.std.proofs.Common.{◌<◌, ◌∙◌, All, subst, sym}
use Rattle.link_db_files.specs.GroupFiles.{symbols_in}
use Rattle.link_resolve_undefined.proofs.Below.{all-below}
use Rattle.link_resolve_undefined.proofs.FinalEntries.{pointed-all}
use Rattle.link_resolve_undefined.proofs.pointing.point_references.Goals as goal

pub returns-clause-entries : goal.returns-clause-entries
returns-clause-entries g c = λ l. λ more. λ are. λ is.
    c.point_all.ensures ∙ pointed-all (symbols_in c.args.files.now.groups) c.args.left.now c.args.asked.now l are more c.args.table.now is

pub returns-clause-below : goal.returns-clause-below
returns-clause-below g c = λ count. λ below. λ le. λ all.
    subst (All (λ t. t < count)) (sym c.point_all.ensures) (all-below count c.args.asked.now below (symbols_in c.args.files.now.groups) c.args.left.now c.args.table.now le c.requires.table all)
