-- Which of several definitions of a name counts, and what each symbol points to.
use Rattle.std.specs.Prelude.{ℕ, ◌&&◌, List, [], map, filter, find, Bool, true, false, not, Option, None, is_none, if◌then◌else◌, unwrap_or, slice_index}
use Rattle.std.specs.Option.{option_map_or, option_or}
use Rattle.link_flags.specs.declared.strength.SymbolStrength.{SymbolStrength}
use Rattle.link_flags.specs.declared.strength.SymbolStrength.TheVariants.{Undefined, Weak, GnuUnique, Strong, Common}
use Rattle.link_flags.specs.Pick.{Candidate, pick, is_strong}
use Rattle.link_closure.specs.Closure.{is_marked}
use Rattle.link_rules.specs.Places.{each_from, first_of, first_two, are_several}
use Rattle.link_input.specs.Symbols.{Symbol, Origin, in_prelude, in_object, in_script, in_stub}
use Rattle.link_rules.specs.World.{Stage, is_definition, holds_at}
use Rattle.link_rules.specs.Names.{definitions_of, versioned_definitions_of, first_definition, is_listed, is_version_listed}
use Rattle.link_rules.specs.Loading.{is_forced_placement}
use Rattle.link_rules.specs.Selection.{Selection, target_of, surviving_strength, is_dynamic}

-- the entries that no shared file gives
abbrev pub static_entries : Selection → List ℕ → List ℕ
static_entries l entries = filter (λ s. not (is_dynamic l s)) entries

-- those entries, each with how strongly it binds now
abbrev pub static_candidates : Selection → List ℕ → List Candidate
static_candidates l entries = map (λ s. (s, surviving_strength l s)) (static_entries l entries)

-- it binds at all
abbrev pub is_some_strength : SymbolStrength → Bool
is_some_strength Undefined = false
is_some_strength Weak = true
is_some_strength GnuUnique = true
is_some_strength Strong = true
is_some_strength (Common size) = true

-- it comes from a loaded object that is not shared
abbrev pub is_in_loaded_regular : List Bool → Origin → Bool
is_in_loaded_regular marks (in_prelude d) = false
is_in_loaded_regular marks (in_object f shared e) = is_marked marks f && not shared
is_in_loaded_regular marks (in_script d) = false
is_in_loaded_regular marks (in_stub strength) = false

-- something is left of the definition
abbrev pub is_surviving : Selection → ℕ → Bool
is_surviving l s = is_some_strength (surviving_strength l s)

-- a loaded regular object holds it
abbrev pub is_held : Selection → ℕ → Bool
is_held l s = holds_at l.stage (λ x. is_in_loaded_regular l.marks x.origin) s

-- the pick of the static entries, else the first that survives, else the first that a loaded regular object holds
abbrev pub preferred_entry : Selection → List ℕ → Option ℕ
preferred_entry l entries = option_or (pick l.stage.rules.weak_overrides_common (static_candidates l entries))
    (option_or (find (is_surviving l) entries) (find (is_held l) entries))

-- the entry that counts, the list's head where none is preferred
abbrev pub choice : Selection → List ℕ → ℕ → ℕ
choice l entries head = unwrap_or (preferred_entry l entries) head

-- two different strong entries, where that is not allowed
abbrev pub clash : Selection → List ℕ → Option (ℕ × ℕ)
clash l entries = if l.stage.options.allow_multiple then None
    else first_two (filter (λ s. is_strong (surviving_strength l s)) (static_entries l entries))

-- a name that the user wants to be defined
abbrev pub is_forced : Origin → Bool
is_forced (in_prelude d) = is_forced_placement d.placement
is_forced (in_object n shared e) = false
is_forced (in_script d) = false
is_forced (in_stub strength) = false

-- a forced name stands for what it is mapped to, another definition for itself, a reference for its target
abbrev pub reference_entry : Selection → ℕ → Symbol → ℕ
reference_entry l s x =
    if is_forced x.origin then unwrap_or (first_definition l.stage x.name) s
    else (if is_definition x then s else unwrap_or (target_of l s) 0)

-- what each symbol points to before rivals are settled
abbrev pub reference_table : Selection → List ℕ
reference_table l = each_from (reference_entry l) 0 l.stage.symbols

-- where several stand in a list, each points to the choice. Of a list with a clash nothing is chosen: the link is refused for it
abbrev pub settled_entry : Selection → List ℕ → List ℕ → ℕ → ℕ
settled_entry l own entries old =
    if are_several own && is_none (clash l entries) then choice l entries (unwrap_or (first_of own) old) else old

-- the definitions of a symbol's plain name, where it is one of them
abbrev pub plain_list : Stage → Symbol → List ℕ
plain_list w x = if is_listed x then definitions_of w.symbols x.name else []

-- a definition points to the choice among those of its plain name
abbrev pub plain_entry : Selection → List ℕ → ℕ → Symbol → ℕ
plain_entry l table s x = settled_entry l (plain_list l.stage x) (plain_list l.stage x) (slice_index table s)

-- what each symbol points to once the definitions of plain names are settled
abbrev pub plain_table : Selection → List ℕ
plain_table l = each_from (plain_entry l (reference_table l)) 0 l.stage.symbols

-- what an entry stands for among the definitions of a version: what it points to, unless that is dynamic. So a definition whose plain name is settled doesn't
-- compete with what it yielded to
abbrev pub stand_in : Selection → List ℕ → ℕ → ℕ
stand_in l table s = if is_dynamic l (slice_index table s) then s else slice_index table s

-- the definitions of a symbol's name and version, where it is one of them
abbrev pub versioned_list : Stage → Symbol → List ℕ
versioned_list w x = if is_version_listed x then option_map_or (versioned_definitions_of w.symbols x.name) x.version [] else []

-- a definition points to the choice among those of its name and version
abbrev pub versioned_entry : Selection → List ℕ → ℕ → Symbol → ℕ
versioned_entry l table s x =
    settled_entry l (versioned_list l.stage x) (map (stand_in l table) (versioned_list l.stage x)) (slice_index table s)

-- what each symbol points to once the definitions of versions are settled
abbrev pub versioned_table : Selection → List ℕ
versioned_table l = each_from (versioned_entry l (plain_table l)) 0 l.stage.symbols

-- what a symbol means by a table: two steps through it, since a reference points to the first definition of its name, and that one to the definition that counts
abbrev pub two_steps : List ℕ → ℕ → ℕ
two_steps table s = slice_index table (slice_index table s)
