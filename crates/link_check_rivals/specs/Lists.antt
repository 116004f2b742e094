-- Lists of definitions: what their entries stand for, which of them counts, and which of them clash.
use Rattle.std.specs.Prelude.{ℕ, ◌==◌, ◌&&◌, List, [], map, filter, Bool, not, Option, Some, None, is_none, if◌then◌else◌, unwrap_or, slice_index}
use Rattle.std.specs.Option.{option_map_or}
use Rattle.link_flags.specs.Pick.{is_strong}
use Rattle.link_flags.specs.Selector.{after}
use Rattle.link_flags.specs.declared.selector.SymbolPrioritySelector.{SymbolPrioritySelector}
use Rattle.link_input.specs.Symbols.{Symbol}
use Rattle.link_rules.specs.Names.{definitions_of, is_listed, is_version_listed, versioned_definitions_of}
use Rattle.link_rules.specs.Places.{are_several, each_from, first_of, is_number}
use Rattle.link_rules.specs.Rivals.{choice, clash, settled_entry, stand_in, static_entries}
use Rattle.link_rules.specs.Selection.{Selection, is_dynamic, surviving_strength}
use Rattle.link_check_targets.specs.Tables.{target_at}
use Rattle.link_check_rivals.specs.declared.lists.Naming.{Naming}
use Rattle.link_check_rivals.specs.declared.lists.Naming.TheVariants.{Plain, Versioned}

-- the definitions of a symbol's name, or of its name and version, where it is one of them
abbrev pub own_list : Naming → List Symbol → Symbol → List ℕ
own_list Plain symbols x = if is_listed x then definitions_of symbols x.name else []
own_list Versioned symbols x = if is_version_listed x then option_map_or (versioned_definitions_of symbols x.name) x.version [] else []

-- what an entry of a list stands for: itself among plain names, else what it points to, unless that is shared
abbrev pub entry_in : Naming → Selection → List ℕ → ℕ → ℕ
entry_in Plain l table s = s
entry_in Versioned l table s = stand_in l table s

-- what the entries of a list stand for
abbrev pub entries_of : Naming → Selection → List ℕ → List ℕ → List ℕ
entries_of naming l table own = map (entry_in naming l table) own

-- what a selector knows after an entry, if that is not shared
abbrev pub after_static : Selection → SymbolPrioritySelector → ℕ → SymbolPrioritySelector
after_static l known s = if is_dynamic l s then known else after known (s, surviving_strength l s)

-- the strong entries that no shared file gives
abbrev pub strong_entries : Selection → List ℕ → List ℕ
strong_entries l entries = filter (λ s. is_strong (surviving_strength l s)) (static_entries l entries)

-- it is strong, no shared file gives it, and it is not the first
abbrev pub is_strong_beside : Selection → ℕ → ℕ → Bool
is_strong_beside l first s = (not (is_dynamic l s) && is_strong (surviving_strength l s)) && not (s == first)

-- the entry of a list that counts, where several symbols stand in it and no two entries clash
abbrev pub list_choice : Naming → Selection → List ℕ → List ℕ → Option ℕ
list_choice naming l table own = if are_several own && is_none (clash l (entries_of naming l table own))
    then Some (choice l (entries_of naming l table own) (unwrap_or (first_of own) 0)) else None

-- the same of the list of this symbol, where that begins with it
abbrev pub head_choice : Naming → Selection → List ℕ → ℕ → Symbol → Option ℕ
head_choice naming l table s x =
    if is_number (first_of (own_list naming l.stage.symbols x)) s
    then list_choice naming l table (own_list naming l.stage.symbols x) else None

-- what a symbol points to where choices are noted: to the choice of its list, else to what it pointed to
abbrev pub noted_entry : Naming → List Symbol → List (Option ℕ) → Symbol → ℕ → ℕ
noted_entry naming symbols choices x old =
    option_map_or (λ head. unwrap_or (target_at choices head) old) (first_of (own_list naming symbols x)) old

-- a table once the lists of one kind are settled
abbrev pub settled_table : Naming → Selection → List ℕ → List ℕ
settled_table naming l table = each_from (λ s x. settled_entry l (own_list naming l.stage.symbols x)
    (entries_of naming l table (own_list naming l.stage.symbols x)) (slice_index table s)) 0 l.stage.symbols
