use Rattle.std.proofs.Common.{◌≡◌}
use Rattle.link_script.specs.RustForm.{listed_names}
use Rattle.link_script.proofs.rust_form.listed_names.Given as goal

abbrev pub invariant-entries : goal.invariant-entries
invariant-entries l = l.names ≡ listed_names l.yielded
