use Rattle.std.proofs.Common.{◌∙◌, ap, sym}
use Rattle.link_input.specs.declared.options.Options.{Options}
use Rattle.link_db_files.specs.GroupFiles.{symbols_in}
use Rattle.link_db_files.specs.HeldFiles.{HeldFiles}
use Rattle.link_db_files.specs.Inputs.{objects_in}
use Rattle.link_resolve.proofs.Signing.{signatures-are}
use Rattle.link_resolve.proofs.canonical.group_signatures.Goals as goal

pub returns-in_ok-ids-in-Partial-clause-ids : goal.returns-in_ok-ids-in-Partial-clause-ids
returns-in_ok-ids-in-Partial-clause-ids g c = λ l objects symbols options are table.
    signatures-are l table c.in_ok-ids-in-Partial.ids.items (ap (λ (o : Options). o.output) options ∙ (sym c.output_kind.ensures ∙ c.in-Partial.is))
    (c.in_ok-ids-in-Partial.ensures.ids l.stage l.marks (objects ∙ ap (λ (h : HeldFiles g.row.P.Denot). objects_in h.groups) (sym c.files.ensures))
    (symbols ∙ ap (λ (h : HeldFiles g.row.P.Denot). symbols_in h.groups) (sym c.files.ensures)) are)
