use Rattle.std.proofs.Common.{◌≡◌, ◌∙◌, List, Some, ap}
use Rattle.std.specs.Prelude.{slice_get}
use Rattle.std.specs.Option.{option_and_then}
use Rattle.link_rules.specs.Names.{first_definition}
use Rattle.link_rules.specs.Places.{Bytes}
use Rattle.link_rules.specs.World.{object_of}
use Rattle.link_db_mapping.specs.Mapped.{mapping_of}
use Rattle.link_db.specs.Seen.{seen}
use Rattle.link_db_files.specs.declared.sources.SymbolSource.{SymbolSource}
use Rattle.link_resolve_requests.proofs.Rooted.{object-there}
use Rattle.link_resolve_requests.proofs.roots.object_of_name.Goals as goal

-- the name is mapped to nothing
pub returns-in_err-id : goal.returns-in_err-id
returns-in_err-id g c = λ demangle w at sources.
    let names = mapping_of (seen c.args.db.now).mapping in
    c.from_residual.ensures
    ∙ ap (option_and_then (object_of w)) (c.in_err-id.ensures.value ∙ (ap (λ (n : Bytes). names n) c.as_slice.ensures ∙ at.names c.args.name.now))

pub returns : goal.returns
returns g c = λ demangle w at sources.
    let names = mapping_of (seen c.args.db.now).mapping in
    let id = c.in_ok-id.id in
    let found : Some id ≡ first_definition w c.args.name.now =
    c.in_ok-id.ensures.value ∙ (ap (λ (n : Bytes). names n) c.as_slice.ensures ∙ at.names c.args.name.now) in
    c.object_at.ensures
    ∙ (ap (λ (l : List SymbolSource). option_and_then (λ (s : SymbolSource). s.object) (slice_get l id)) sources
    ∙ (object-there w id ∙ ap (option_and_then (object_of w)) found))
