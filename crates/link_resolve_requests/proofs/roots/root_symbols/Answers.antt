use Rattle.std.proofs.Common.{◌≡◌, ◌∙◌, List, [], ◌∷◌, Option, ap, refl}
use Rattle.std.specs.Prelude.{filter_map}
use Rattle.std.specs.List.{cons_option}
use Rattle.link_db.specs.Seen.{seen}
use Rattle.link_db_mapping.specs.Mapped.{mapping_of}
use Rattle.link_rules.specs.Loading.{root_names}
use Rattle.link_rules.specs.Names.{first_definition}
use Rattle.link_resolve_requests.proofs.roots.root_symbols.Goals as goal

-- what gives the same of each item gives the same of a list
same-given : {X Y : Type 0} (f h : X → Option Y) → ((x : X) → f x ≡ h x) → (xs : List X) → filter_map f xs ≡ filter_map h xs
same-given f h same [] = refl
same-given {X} {Y} f h same (x ∷ xs) = ap (λ (o : Option Y). cons_option o (filter_map f xs)) (same x) ∙ ap (cons_option (h x)) (same-given f h same xs)

pub returns : goal.returns
returns g c = λ demangle w at.
    let mapped = mapping_of (seen c.args.db.now).mapping in
    c.in_ok-ids.ensures
    ∙ (ap (filter_map mapped) (c.deref.ensures.value ∙ c.in_ok-names.ensures demangle w at)
    ∙ same-given mapped (first_definition w) at.names (root_names w))
