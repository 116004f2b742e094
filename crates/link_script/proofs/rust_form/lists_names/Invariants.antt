use Rattle.std.proofs.Common.{◌≡◌, drop}
use Rattle.std.specs.List.{list_all}
use Rattle.link_script.specs.RustForm.{is_exact_name}
use Rattle.link_script.proofs.rust_form.lists_names.Given as goal

abbrev pub invariant-loop-entry : goal.invariant-loop-entry
invariant-loop-entry l = list_all is_exact_name (drop l.entry-index l.entries) ≡ list_all is_exact_name l.entries
