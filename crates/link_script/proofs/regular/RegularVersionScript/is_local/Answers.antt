use Rattle.std.proofs.Common.{[], ◌∷◌, sym, subst, ◌∙◌}
use Rattle.link_script.specs.Filter.{AreVersions}
use Rattle.link_script.specs.Lookup.{asked}
use Rattle.link_script.specs.Regular.{unnamed}
use Rattle.link_script.proofs.RustForm.{hides_the_rest}
use Rattle.link_script.proofs.regular.RegularVersionScript.is_local.Goals as goal

pub returns-clause-rust_form : goal.returns-clause-rust_form
returns-clause-rust_form g c = λ body form are.
    let here = subst (λ versions. AreVersions (unnamed body ∷ []) versions) (sym (c.as_slice.ensures ∙ c.self.view_is)) are in
    c.is_local_match.ensures ∙ hides_the_rest body (asked (g.D.Demangler.demangled c.args.demangler.now) c.args.name.now) c.find_match.result form (c.find_match.ensures.of_text (unnamed body ∷ []) here)
