use Rattle.std.proofs.Common.{◌≡◌, drop}
use Rattle.std.specs.List.{list_any}
use Rattle.link_script.specs.RustForm.{is_bare_star}
use Rattle.link_script.proofs.rust_form.hides_the_rest.Given as goal

abbrev pub invariant-loop-entry : goal.invariant-loop-entry
invariant-loop-entry l = list_any is_bare_star (drop l.entry-index l.entries) ≡ list_any is_bare_star l.entries
