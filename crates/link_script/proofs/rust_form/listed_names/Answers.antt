use Rattle.std.proofs.Common.{sym, ◌∙◌}
use Rattle.link_script.proofs.Listed.{listed_with, listed_without}
use Rattle.link_script.proofs.rust_form.listed_names.Goals as goal

pub entries-preserved-in-Continue-1 : goal.entries-preserved-in-Continue-1
entries-preserved-in-Continue-1 c = listed_with c.entries.yielded c.in-Some.entry c.entries.names c.push.new.self c.in-Some-exact_name.name c.entries.invariant (sym c.exact_name.ensures ∙ c.in-Some-exact_name.is) c.in_ok-push.ensures.ok

pub entries-preserved : goal.entries-preserved
entries-preserved c = listed_without c.entries.yielded c.in-Some.entry c.entries.names c.entries.invariant (sym c.exact_name.ensures ∙ c.in_default.is)
