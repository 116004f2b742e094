use Rattle.std.proofs.Common.{◌∙◌, ap, subst, sym}
use Rattle.link_db_files.specs.GroupFiles.{symbols_in}
use Rattle.link_db_files.specs.HeldFiles.{HeldFiles}
use Rattle.link_db_files.specs.Inputs.{objects_in}
use Rattle.link_rules.specs.Reasons.{AreReasons}
use Rattle.link_resolve_explanation.proofs.explaining.explain.Goals as goal

-- the files, marks and targets are those of the selection
pub returns : goal.returns
returns g c = λ l is follows.
    let told = c.in_ok-reasons.ensures l (record {
      symbols_are = is.symbols ∙ sym (ap (λ (f : HeldFiles g.row.P.Denot). symbols_in f.groups) c.files.ensures);
      objects_are = is.objects ∙ sym (ap (λ (f : HeldFiles g.row.P.Denot). objects_in f.groups) c.files.ensures);
      marks_are = is.marks ∙ sym c.loaded.ensures;
      targets_are = is.targets ∙ sym c.targets.ensures;
      follows = follows;
    }) in
    record {
      reasons = subst (AreReasons l c.args.roots.now) (sym c.from_vec.ensures) told;
      choices = c.from_vec-2.ensures ∙ c.in_ok-choices.ensures l is;
    }
