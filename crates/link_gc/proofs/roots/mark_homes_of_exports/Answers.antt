use Rattle.std.proofs.Common.{◌≡◌, ◌∙◌, ap, false, sym}
use Rattle.link_input.specs.declared.options.Options.{Options}
use Rattle.link_input.specs.Outputs.{is_shared_object}
use Rattle.link_db.specs.Database.{Database}
use Rattle.link_gc.proofs.Exported.{no-exports}
use Rattle.link_gc.proofs.roots.mark_homes_of_exports.Goals as goal

-- nothing is exported
pub returns-else-is_shared_output : goal.returns-else-is_shared_output
returns-else-is_shared_output g c = λ l of placed.
    let own = c.output_kind.ensures ∙ ap (λ (d : Database g.row.P.Denot). d.options.output) c.db.ensures in
    let kind = own ∙ ap (λ (o : Options). o.output) of.kept.options in
    let shared : is_shared_object l.stage.options.output ≡ false = ap is_shared_object (sym kind) ∙ (sym c.is_shared_output.ensures ∙ c.if-is_shared_output.false) in
    no-exports l c.args.marks.now shared
