-- Which of several definitions of a name counts, and why.
use Rattle.std.specs.Prelude.{ℕ, ◌&&◌, ◌++◌, List, find, map, Bool, true, false, Option, None, Some, is_some, if◌then◌else◌}
use Rattle.std.specs.Option.{option_map_or}
use Rattle.link_flags.specs.declared.strength.SymbolStrength.{SymbolStrength}
use Rattle.link_flags.specs.declared.strength.SymbolStrength.TheVariants as strength
use Rattle.link_flags.specs.Pick.{pick}
use Rattle.link_input.specs.Symbols.{Symbol}
use Rattle.link_rules.specs.declared.explanation.ChoiceCase.{ChoiceCase}
use Rattle.link_rules.specs.declared.explanation.ChoiceCase.TheVariants as case
use Rattle.link_rules.specs.declared.explanation.NameChoice.{NameChoice}
use Rattle.link_rules.specs.Places.{some_from, first_of, are_several, is_number}
use Rattle.link_rules.specs.Selection.{Selection, surviving_strength}
use Rattle.link_rules.specs.Rivals.{choice, is_held, is_surviving, plain_list, plain_table, stand_in, static_candidates, versioned_list}

-- the case of what is picked by how strongly it binds; what doesn't bind is never picked
abbrev pub case_of_strength : SymbolStrength → ChoiceCase
case_of_strength strength.Undefined = case.First
case_of_strength strength.Weak = case.Weak
case_of_strength strength.GnuUnique = case.Weak
case_of_strength strength.Strong = case.Strong
case_of_strength (strength.Common size) = case.Common

-- the case where no static entry is picked
abbrev pub other_case : Selection → List ℕ → ChoiceCase
other_case l entries = if is_some (find (is_surviving l) entries) then case.Surviving
    else (if is_some (find (is_held l) entries) then case.Loaded else case.First)

-- the first case that holds of the entries of a list
abbrev pub choice_case : Selection → List ℕ → ChoiceCase
choice_case l entries = option_map_or (λ s. case_of_strength (surviving_strength l s))
    (pick l.stage.rules.weak_overrides_common (static_candidates l entries)) (other_case l entries)

-- the choice among these definitions, whose entries are these, if they are several and this symbol is the first of them
abbrev pub choice_at : Selection → Bool → List ℕ → List ℕ → ℕ → Option NameChoice
choice_at l is_versioned own entries s =
    if is_number (first_of own) s && are_several own
    then Some (record { symbols = own; is_versioned = is_versioned; chosen = choice l entries s; case = choice_case l entries }) else None

-- the choice among the definitions of a plain name, at the first of them
abbrev pub plain_choice : Selection → ℕ → Symbol → Option NameChoice
plain_choice l s x = choice_at l false (plain_list l.stage x) (plain_list l.stage x) s

-- the choice among the definitions of a name and version, at the first of them; each stands for what its plain name is settled to
abbrev pub versioned_choice : Selection → ℕ → Symbol → Option NameChoice
versioned_choice l s x =
    choice_at l true (versioned_list l.stage x) (map (stand_in l (plain_table l)) (versioned_list l.stage x)) s

-- the choices of a link, in the order of the first definitions: plain names first
abbrev pub name_choices : Selection → List NameChoice
name_choices l = some_from (plain_choice l) 0 l.stage.symbols ++ some_from (versioned_choice l) 0 l.stage.symbols
