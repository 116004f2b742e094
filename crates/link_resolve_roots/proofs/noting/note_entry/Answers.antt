use Rattle.std.proofs.Common.{◌≡◌, ◌++◌, ◌∙◌, Option, Some, ap}
use Rattle.std.specs.Option.{option_and_then, option_to_list}
use Rattle.link_rules.specs.FoundRoots.{found_at}
use Rattle.link_rules.specs.Loading.{entry_name}
use Rattle.link_rules.specs.Places.{Bytes}
use Rattle.link_resolve_roots.proofs.noting.note_entry.Goals as goal

-- there is an entry
pub returns-in_ok-push_found : goal.returns-in_ok-push_found
returns-in_ok-push_found g c = λ demangle w at.
    let entries = c.args.entries.now in
    let given : Some c.in-Some.name.now ≡ entry_name w = c.in-Some.ensures w at.options at.scripts in
    c.in_ok-push_found.ensures demangle w at
    ∙ ap (λ (n : Bytes). entries ++ option_to_list (found_at w n)) c.new.ensures
    ∙ ap (λ (o : Option Bytes). entries ++ option_to_list (option_and_then (found_at w) o)) given
